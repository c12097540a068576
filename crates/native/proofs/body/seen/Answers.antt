use Rattle.std.proofs.Common.{rules}
use Rattle.native.proofs.body.seen.Goals as goal

pub returns : goal.returns
returns c = search rules
