use Rattle.std.proofs.Common.{◌≡◌, ◌≤◌, ◌++◌, length, map, take, drop, ap, ◌∙◌, arith}
use Rattle.std.proofs.lemmas.List.{append-nil, drop_all, take_all}
use Rattle.session_process.specs.Process.{unnumbered_at}
use Rattle.machine.proofs.Losses.{walked}
use Rattle.machine.proofs.Restoration.{forgotten-sound}
use Rattle.machine.proofs.machine.Machine.forget_after.Goals as goal

pub loop-process-preserved : goal.loop-process-preserved
loop-process-preserved c =
    let f = unnumbered_at c.args.p c.args.rsn in
    let xs = c.deref_mut-process-items.result.now in
    let ys = c.loop-process.process-items in
    let i = c.loop-process.process-index in
    walked f xs ys i c.process-item.result c.unnumber_after-in-loop-process.new.self c.loop-process.invariant (omega arith) c.unnumber_after-in-loop-process.ensures

pub invariant_of-self : goal.invariant_of-self
invariant_of-self c =
    let p = c.args.p in
    let k = c.args.rsn in
    let f = unnumbered_at p k in
    let xs = c.deref_mut-process-items.result.now in
    let i = c.loop-process.process-index in
    let past : length xs ≤ i = omega arith in
    let all : map f (take i xs) ++ drop i xs ≡ map f xs = (λ j. map f (take_all i xs past j) ++ drop_all i xs past j) ∙ append-nil (map f xs) in
    forgotten-sound c.self.inside c.self.invariant p k c.loop-process.process-items (c.loop-process.invariant ∙ all ∙ ap (map f) c.deref_mut-process-items.ensures.value) c.unnumber_after.new.self c.unnumber_after.ensures
