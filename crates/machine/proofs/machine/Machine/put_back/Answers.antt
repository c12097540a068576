use Rattle.std.proofs.Common.{◌≡◌, ℕ, ◌+◌, ◌<◌, length, true, false, subst, sym, ap, ◌∙◌, arith}
use Rattle.std.specs.Prelude.{◌==◌}
use Rattle.std.proofs.lemmas.Bool.Decides.{nat_tests}
use Rattle.rsn.specs.Receipts.{Received}
use Rattle.world.specs.declared.answer.Answer.TheVariants.{Kept}
use Rattle.checkpoint.specs.Saved.{TheSaved, receipts_again}
use Rattle.session_process.specs.Outbox.{outbox_again}
use Rattle.session_process.specs.Process.{restored}
use Rattle.machine.specs.Recoveries.{SettlesAt, forgotten, recovery_of}
use Rattle.machine.specs.Simulation.{TheMachine, Steps, process_at}
use Rattle.machine.proofs.Others.{replaced}
use Rattle.machine.proofs.Restoration.{kept-saved, back-settles, back-shown, back-sound, count-sound}
use Rattle.machine.proofs.Returns.{replays, settles, within_then}
use Rattle.machine.proofs.machine.Machine.put_back.Goals as goal
use Rattle.machine.proofs.machine.Machine.put_back.Goals.{then-is_whole, else-is_whole}

none-of : (n : ℕ) → (n == 0) ≡ true → n ≡ 0
none-of n e = grind (arith, nat_tests)

more-of : (n : ℕ) → (n == 0) ≡ false → 0 < n
more-of n e = grind (arith, nat_tests)

pub recover-requires-clause-state : goal.recover-requires-clause-state
recover-requires-clause-state c =
    let saved = kept-saved c.self.inside c.args.self.now c.args.p (c.length.result + c.len.result) c.index_mut-process.result.now c.requires.may.inside c.requires.may.within (c.self.view_is ∙ c.forget_after.ensures) c.index_mut-process.ensures.value in
    c.requires.left.state ∙ ap (λ (z : TheSaved). z.state) saved

pub recover-requires-clause-receipts : goal.recover-requires-clause-receipts
recover-requires-clause-receipts c =
    let saved = kept-saved c.self.inside c.args.self.now c.args.p (c.length.result + c.len.result) c.index_mut-process.result.now c.requires.may.inside c.requires.may.within (c.self.view_is ∙ c.forget_after.ensures) c.index_mut-process.ensures.value in
    c.requires.left.receipts ∙ ap receipts_again saved

pub recover-requires-clause-outbox : goal.recover-requires-clause-outbox
recover-requires-clause-outbox c =
    let saved = kept-saved c.self.inside c.args.self.now c.args.p (c.length.result + c.len.result) c.index_mut-process.result.now c.requires.may.inside c.requires.may.within (c.self.view_is ∙ c.forget_after.ensures) c.index_mut-process.ensures.value in
    c.requires.left.outbox ∙ ap outbox_again saved

pub invariant_of-self : goal.invariant_of-self
invariant_of-self c =
    let l = c.requires.left in
    back-sound c.self.inside c.args.self.now c.args.p (c.length.result + c.len.result) c.args.remains.plan c.args.alone c.index_mut-process.result.now c.recover.new.self c.requires.may.inside c.requires.may.within (c.self.view_is ∙ c.forget_after.ensures)
    c.index_mut-process.ensures.value c.recover.ensures c.self.invariant l.fits l.before l.fresh

pub invariant_of-self-else-is_whole : goal.invariant_of-self-else-is_whole
invariant_of-self-else-is_whole c =
    let l = c.requires.left in
    back-sound c.self.inside c.args.self.now c.args.p (c.length.result + c.len.result) c.args.remains.plan c.args.alone c.index_mut-process.result.now c.recover.new.self c.requires.may.inside c.requires.may.within (c.self.view_is ∙ c.forget_after.ensures)
    c.index_mut-process.ensures.value c.recover.ensures c.self.invariant l.fits l.before l.fresh

pub settle-requires : goal.settle-requires
settle-requires c =
    back-settles c.self.inside c.args.self.now c.args.p (c.length.result + c.len.result) c.args.remains.plan c.args.alone c.index_mut-process.result.now c.recover.new.self c.requires.may.inside c.requires.may.within (c.self.view_is ∙ c.forget_after.ensures)
    c.index_mut-process.ensures.value c.recover.ensures

pub invariant_of-self-2 : goal.invariant_of-self-2
invariant_of-self-2 c =
    let calls : TheMachine → ℕ = λ v. v.calls in
    let before : c.self.inside.calls ≡ c.args.self.now.calls = ap calls (c.self.view_is ∙ c.forget_after.ensures) in
    let same : c.self-2.inside.calls ≡ c.self.inside.calls =
    elim c.if-is_whole.branch [
      | then-is_whole b ↦ ap calls (c.self-2.view_is ∙ b.self-is ∙ b.settle.ensures.becomes)
      | else-is_whole b ↦ ap calls (c.self-2.view_is ∙ b.self-is)
    ] in
    count-sound c.self-2.inside c.self-2.invariant (omega (arith, same, before, c.requires.may.calls))

pub returns-clause-step : goal.returns-clause-step
returns-clause-step c w s =
    let p = c.args.p in
    let positive = c.requires.may.inside in
    let within = c.requires.may.within in
    let m = c.args.self.now in
    let l = c.requires.left in
    let k = c.length.result + c.len.result in
    let alone = c.args.alone in
    let plan = c.args.remains.plan in
    let calls = c.self-2.inside.calls + 1 in
    let senders = ap (λ (r : Received). length r.senders) l.receipts in
    let kept : k ≡ length (process_at m p).saved.senders + length plan.messages = omega (arith, c.length.ensures.value, c.len.ensures, senders) in
    let accepted = c.requires.may.accepted w s in
    let shown = back-shown c.self.inside m p k plan alone c.index_mut-process.result.now c.recover.new.self positive within (c.self.view_is ∙ c.forget_after.ensures) c.index_mut-process.ensures.value c.recover.ensures in
    let now : TheMachine = replaced (forgotten p k m) p (restored plan alone (process_at m p)) positive (within_then m w s p positive within c.requires.may.down plan l.plan l.before l.fresh k kept l.log alone c.args.room accepted) in
    let P : TheMachine → Type 0 = λ v. Steps m (record v { calls = calls }) c.args.room (recovery_of p alone) (Kept k) w in
    elim c.if-is_whole.branch [
      | then-is_whole b ↦
          let none : length plan.messages ≡ 0 = none-of (length plan.messages) (sym c.is_empty-is_whole.ensures ∙ b.if-is_whole.true) in
          let t : SettlesAt p alone now b.settle.new.self = subst (λ v. SettlesAt p alone v b.settle.new.self) shown b.settle.ensures in
          subst P (sym (c.self-2.view_is ∙ b.self-is)) (settles m w s p positive within c.requires.may.down plan l.plan l.before l.fresh k kept l.log alone c.args.room accepted calls none b.settle.new.self t)
      | else-is_whole b ↦
          let some : 0 < length plan.messages = more-of (length plan.messages) (sym c.is_empty-is_whole.ensures ∙ b.if-is_whole.false) in
          subst P (sym (c.self-2.view_is ∙ b.self-is ∙ shown)) (replays m w s p positive within c.requires.may.down plan l.plan l.before l.fresh k kept l.log alone c.args.room accepted calls some)
    ]
