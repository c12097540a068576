use Rattle.std.proofs.Common.{◌≡◌, ◌≤◌, ◌+◌, ℕ, List, length, sym, ap, ◌∙◌, subst, arith}
use Rattle.limits.specs.declared.TheConstants.{EFFECTS}
use Rattle.helpers.specs.declared.effects.Sent.{Sent}
use Rattle.world.specs.History.{Payload}
use Rattle.replay.specs.Emission.{emitted_to}
use Rattle.session_process.specs.declared.mail.Mail.{Mail}
use Rattle.session_process.proofs.MailLemmas.{Gave, gave-same, gave-more, gave-narrow, gave-order, gave-room, gave-all, sends_of, outputs_of, sends-more, sends-skip, sends-few, outputs-more, outputs-all, outputs-few, emitted-few}
use Rattle.session_process.proofs.mail.Mail.post_all.Goals.{then-sent-ne0+in_ok-post, else-sent-ne0}
use Rattle.session_process.proofs.mail.Mail.post_all.Goals as goal

pub post-requires-clause-narrow : goal.post-requires-clause-narrow
post-requires-clause-narrow c = gave-narrow c.args.rsn c.args.self.now c.loop-sent.self _ c.loop-sent.invariant c.requires.narrow

pub post-requires-clause-order : goal.post-requires-clause-order
post-requires-clause-order c = gave-order c.args.rsn c.args.self.now c.loop-sent.self _ c.loop-sent.invariant c.requires.below

pub post-requires-clause-room : goal.post-requires-clause-room
post-requires-clause-room c =
    gave-room c.args.rsn c.args.self.now c.loop-sent.self _ c.loop-sent.invariant c.requires.room c.sent-item.result.dst
    (omega (arith, sends-few c.sends-sent-items.result.now c.loop-sent.sent-index c.sent-item.result.dst, c.sends-sent-items.ensures.bound, c.loop-sent-test.true))

pub loop-sent-preserved : goal.loop-sent-preserved
loop-sent-preserved c =
    let xs = c.sends-sent-items.result.now in
    let k = c.loop-sent.sent-index in
    let x = c.sent-item.result in
    elim c.if-sent-ne0.branch [
      | then-sent-ne0+in_ok-post w ↦ subst (λ (m : Mail). Gave c.args.rsn c.args.self.now m (sends_of xs (k + 1))) (sym w.self-is) (gave-more c.args.rsn c.args.self.now c.loop-sent.self w.post.new.self (sends_of xs k) (sends_of xs (k + 1)) x.dst x.payload c.loop-sent.invariant (sends-more xs k x c.loop-sent-test.true c.sent-item.is w.if-sent-ne0.true) w.in_ok-post.ensures.ok)
      | else-sent-ne0 w ↦ subst (λ (m : Mail). Gave c.args.rsn c.args.self.now m (sends_of xs (k + 1))) (sym w.self-is) (gave-same c.args.rsn c.args.self.now c.loop-sent.self (sends_of xs k) (sends_of xs (k + 1)) c.loop-sent.invariant (sends-skip xs k x c.loop-sent-test.true c.sent-item.is w.if-sent-ne0.false))
    ]

pub post-requires-in-loop-output-clause-narrow : goal.post-requires-in-loop-output-clause-narrow
post-requires-in-loop-output-clause-narrow c = gave-narrow c.args.rsn c.args.self.now c.loop-output.self _ c.loop-output.invariant c.requires.narrow

pub post-requires-in-loop-output-clause-order : goal.post-requires-in-loop-output-clause-order
post-requires-in-loop-output-clause-order c = gave-order c.args.rsn c.args.self.now c.loop-output.self _ c.loop-output.invariant c.requires.below

pub post-requires-in-loop-output-clause-room : goal.post-requires-in-loop-output-clause-room
post-requires-in-loop-output-clause-room c =
    gave-room c.args.rsn c.args.self.now c.loop-output.self _ c.loop-output.invariant c.requires.room 0
    (omega (arith, outputs-few c.args.effects.now.sends c.outputs-output-items.result.now c.loop-output.output-index, c.outputs-output-items.ensures.bound, c.loop-output-test.true))

pub loop-output-preserved : goal.loop-output-preserved
loop-output-preserved c =
    let xs = c.args.effects.now.sends in
    let ps = c.outputs-output-items.result.now in
    let k = c.loop-output.output-index in
    gave-more c.args.rsn c.args.self.now c.loop-output.self c.post-in-loop-output.new.self (outputs_of xs ps k) (outputs_of xs ps (k + 1)) 0 c.output-item.result c.loop-output.invariant
    (outputs-more xs ps k c.output-item.result c.loop-output-test.true c.output-item.is) c.in_ok-post-2.ensures.ok

pub returns-clause-ok : goal.returns-clause-ok
returns-clause-ok c =
    let e = c.args.effects.now in
    let k = c.loop-output.output-index in
    let sends : length e.sends ≤ EFFECTS = subst (λ (l : List Sent). length l ≤ EFFECTS) c.sends-sent-items.ensures.value c.sends-sent-items.ensures.bound in
    let outputs : length e.outputs ≤ EFFECTS = subst (λ (l : List Payload). length l ≤ EFFECTS) c.outputs-output-items.ensures.value c.outputs-output-items.ensures.bound in
    let past : length e.outputs ≤ k = subst (λ (l : List Payload). length l ≤ k) c.outputs-output-items.ensures.value c.loop-output-test.false in
    let same : (d : ℕ) → outputs_of e.sends c.outputs-output-items.result.now k d ≡ emitted_to d e =
    λ d. ap (λ l. outputs_of e.sends l k d) c.outputs-output-items.ensures.value ∙ outputs-all e k past d in
    gave-all e c.args.rsn c.args.self.now c.loop-output.self (outputs_of e.sends c.outputs-output-items.result.now k) c.loop-output.invariant c.requires.below same
    (λ d. let l = ap length (same d) in omega (arith, l, emitted-few e EFFECTS sends outputs d))
