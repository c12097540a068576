use Rattle.std.proofs.Common.{rules}
use Rattle.x86.proofs.encoder.rex_by.Goals as goal

pub returns : goal.returns
returns c = search rules
