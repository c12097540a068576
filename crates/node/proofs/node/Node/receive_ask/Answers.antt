use Rattle.std.proofs.Common.{◌≡◌, false, arith}
use Rattle.std.specs.Prelude.{nat_lt}
use Rattle.std.proofs.lemmas.Grind.{common_steps}
use Rattle.node.specs.Answers.{heard_of}
use Rattle.node.proofs.Changes.{hearer-says, told-above}
use Rattle.node.proofs.node.Node.receive_ask.Goals as goal

pub told-requires-clause-peer : goal.told-requires-clause-peer
told-requires-clause-peer c = c.requires.peer.0

pub told-requires-clause-incarnation : goal.told-requires-clause-incarnation
told-requires-clause-incarnation c = c.requires.life

pub told-requires-clause-above : goal.told-requires-clause-above
told-requires-clause-above c = c.requires.above

pub hear-requires : goal.hear-requires
hear-requires c = c.requires.peer.0

pub put-requires : goal.put-requires
put-requires c = hearer-says c.args.from c.args.life c.args.from c.in_ok-body.body c.args.self.now c.hear.new.self c.hear.ensures c.requires.peer c.in_ok-body.ensures.fits

pub returns-clause-ok : goal.returns-clause-ok
returns-clause-ok c =
    let late : nat_lt c.args.life (heard_of c.args.from c.args.self.now) ≡ false = grind (arith, common_steps) in
    told-above c.args.from c.args.life c.args.above c.args.self.now c.hear.new.self c.put.new.self c.in_ok-body.body late c.in_ok-body.ensures.value c.hear.ensures c.put.ensures
