use Rattle.std.proofs.Common.{rules, ◌≡◌, [], length, refl, arith}
use Rattle.std.proofs.lemmas.Grind.{common_steps}
use Rattle.c_handles.specs.Bundle.{GivesNext}
use Rattle.c_handles.proofs.Bundles.{none_laid, next_laid}
use Rattle.c_handles.proofs.outbox.give_all.Goals as goal

pub loop-end-init : goal.loop-end-init
loop-end-init g c =
    let out = c.args.out.now in
    let sender = c.args.sender.now in
    let all = next_laid g.O.Outgoing.leaves out out c.give_front.new.out 0 c.in_ok-receiver.end 0 c.in_ok-receiver.receiver [] sender sender c.give_front.new.sender (none_laid out) refl refl c.in_ok-receiver.ensures in
    (all.0, all.1, all.2, omega arith, refl)

pub loop-end-preserved : goal.loop-end-preserved
loop-end-preserved g c =
    let i = c.loop-end.invariant in
    let out = c.args.out.now in
    let mid = c.loop-end.out in
    let to = c.in_ok-receiver.receiver in
    let end = c.in-Ok-Some.end in
    let long : length mid ≡ length out = first_of (search rules, grind (arith, common_steps)) in
    let one : GivesNext g.O.Outgoing.leaves mid c.give_next.new.out c.loop-end.size end to c.loop-end.sender c.give_next.new.sender = (rw c.in-Ok-Some.field-0-is at c.in-Ok-Some.ensures.given) in
    let all = next_laid g.O.Outgoing.leaves out mid c.give_next.new.out c.loop-end.size end c.loop-end.count to i.0 c.args.sender.now c.loop-end.sender c.give_next.new.sender i.1 i.2 long one in
    (all.0, all.1, all.2, omega arith, refl)
