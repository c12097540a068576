use Rattle.x86.proofs.Forms.{reads_back}
use Rattle.x86.proofs.reading_laws.bytes_are_read_back.Goals as goal

pub returns : goal.returns
returns c = reads_back
