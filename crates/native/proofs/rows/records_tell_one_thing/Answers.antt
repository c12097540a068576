use Rattle.native.proofs.Reports.{tells_one}
use Rattle.native.proofs.rows.records_tell_one_thing.Goals as goal

pub returns : goal.returns
returns c = tells_one
