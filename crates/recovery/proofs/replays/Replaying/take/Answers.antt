use Rattle.std.proofs.Common.{◌≡◌, List, sym, ap, ◌∙◌, subst}
use Rattle.packets.specs.declared.packet.NodePacket.{NodePacket}
use Rattle.packets.specs.Outbox.{Pops}
use Rattle.recovery.specs.Own.{TheOwn}
use Rattle.recovery.specs.Replays.{TheReplaying}
use Rattle.recovery.specs.StandsAtReplay.{Takes}
use Rattle.recovery.proofs.ReplayLemmas.{replaying-takes}
use Rattle.recovery.proofs.replays.Replaying.take.Goals as goal

pub returns : goal.returns
returns c =
    let old = c.args.self.now in
    let was = c.self.inside in
    let out = c.pop.new.self.out in
    let with_own : TheOwn → TheReplaying = λ o. record { own = o; plan = was.plan.items; done = was.done } in
    let is : with_own c.pop.new.self ≡ record old { own = record old.own { out = out } } = ap with_own c.pop.ensures.rest ∙ ap (λ (z : TheReplaying). record z { own = record z.own { out = out } }) c.self.view_is in
    let R : List NodePacket → Type 0 = λ xs. Pops c.pop.result xs out in
    let pops : Pops c.pop.result old.own.out out = subst R (ap (λ (z : TheReplaying). z.own.out) c.self.view_is) c.pop.ensures.packet in
    let P : TheReplaying → Type 0 = λ v. Takes c.pop.result old v in
    subst P (sym is) (replaying-takes c.pop.result old out pops)
