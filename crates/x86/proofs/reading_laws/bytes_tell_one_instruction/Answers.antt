use Rattle.x86.proofs.Forms.{tell_one}
use Rattle.x86.proofs.reading_laws.bytes_tell_one_instruction.Goals as goal

pub returns : goal.returns
returns c = tell_one
