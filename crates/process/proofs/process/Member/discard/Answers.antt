use Rattle.process.proofs.Fronts.{stays-front}
use Rattle.process.proofs.process.Member.discard.Goals as goal

pub returns : goal.returns
returns c = λ x rest e. stays-front c.take-packet.result c.args.self.now c.take-packet.new.self x rest c.take-packet.ensures e
