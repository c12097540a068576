use Rattle.std.proofs.Common.{◌≡◌, List, sym, ap, ◌∙◌, subst}
use Rattle.packets.specs.declared.packet.NodePacket.{NodePacket}
use Rattle.packets.specs.Outbox.{Pops}
use Rattle.recovery.specs.Replayed.{TheReplayed}
use Rattle.recovery.specs.Restoration.{TheRestoring}
use Rattle.recovery.specs.RestorationStands.{Takes}
use Rattle.recovery.proofs.Returns.{takes-so}
use Rattle.recovery.proofs.restoration.Restoring.take.Goals as goal

pub returns : goal.returns
returns c =
    let old = c.args.self.now in
    let was = c.self.inside in
    let out = c.pop.new.self.own.out in
    let with_rest : TheReplayed → TheRestoring = λ r. record { own = r.own; receipts = r.receipts; above = was.above.items; answered = was.answered.items } in
    let is : with_rest c.pop.new.self ≡ record old { own = record old.own { out = out } } = ap with_rest c.pop.ensures.rest ∙ ap (λ (z : TheRestoring). record z { own = record z.own { out = out } }) c.self.view_is in
    let R : List NodePacket → Type 0 = λ xs. Pops c.pop.result xs out in
    let pops : Pops c.pop.result old.own.out out = subst R (ap (λ (z : TheRestoring). z.own.out) c.self.view_is) c.pop.ensures.packet in
    let P : TheRestoring → Type 0 = λ v. Takes c.pop.result old v in
    subst P (sym is) (takes-so c.pop.result old out pops)
