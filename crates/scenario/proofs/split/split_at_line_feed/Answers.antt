use Rattle.std.proofs.Common.{arith}
use Rattle.scenario.proofs.Cuts.{cut_of}
use Rattle.scenario.proofs.split.split_at_line_feed.Goals as goal

pub returns : goal.returns
returns c = cut_of 10 c.args.text.now c.split_once.result c.split_once.ensures.cases (omega arith)
