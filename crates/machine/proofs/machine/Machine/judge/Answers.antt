use Rattle.std.proofs.Common.{◌≡◌, arith, ap, sym, ◌∙◌}
use Rattle.world.specs.World.{World}
use Rattle.world.specs.History.{count_of}
use Rattle.world.specs.Answers.{judge, verdict_of}
use Rattle.machine.specs.Simulation.{TheMachine, Stands}
use Rattle.machine.proofs.Status.{judged_at, judged_outside, verdict-known, verdict-next, verdict-ahead}
use Rattle.machine.proofs.ReceiptLemmas.{judged-numbered}
use Rattle.machine.proofs.machine.Machine.judge.Goals as goal
use Rattle.machine.proofs.machine.Machine.judge.Goals.{After-shown_of-shown}

pub judge-requires-clause-sender : goal.judge-requires-clause-sender
judge-requires-clause-sender c = omega (arith, c.process.ensures.few, c.requires.from.0)

pub returns-then-to-gt0-clause-verdict : goal.returns-then-to-gt0-clause-verdict
returns-then-to-gt0-clause-verdict c =
    λ w s. rw (c.judge.ensures, c.receipts.ensures, c.process.ensures.value) (judged_at c.args.self.now w s c.args.to c.args.message.now c.if-to-gt0.true c.requires.to c.requires.up c.requires.from.1)

-- the outside judges by what it was shown
judges : (c : After-shown_of-shown) → (w : World) → Stands c.args.self.now w → judge w c.args.to c.args.message.now ≡ verdict_of c.shown_of-shown.result c.args.message.now.ssn
judges c w s =
    let x = c.args.message.now in
    let outside : c.args.to ≡ 0 = omega (arith, c.if-to-gt0.false) in
    let shown : c.shown_of-shown.result ≡ count_of x.sender c.args.self.now.outside.shown = c.shown_of-shown.ensures.value ∙ ap (λ (v : TheMachine). count_of x.sender v.outside.shown) c.self.view_is in
    ap (λ d. judge w d x) outside ∙ judged_outside c.args.self.now w s x ∙ ap (λ n. verdict_of n x.ssn) (sym shown)

pub returns-then-message-shown-clause-verdict : goal.returns-then-message-shown-clause-verdict
returns-then-message-shown-clause-verdict c =
    λ w s. (judges (goal.at.returns-then-message-shown-clause-verdict c).After-shown_of-shown w s ∙ verdict-known c.shown_of-shown.result c.args.message.now.ssn c.if-message-shown.true, λ h. absurd (omega (arith, h, c.if-to-gt0.false)))

pub returns-then-message-shown-2-clause-verdict : goal.returns-then-message-shown-2-clause-verdict
returns-then-message-shown-2-clause-verdict c =
    λ w s. judges (goal.at.returns-then-message-shown-2-clause-verdict c).After-shown_of-shown w s ∙ verdict-next c.shown_of-shown.result c.args.message.now.ssn c.if-message-shown-2.true

pub returns-clause-verdict : goal.returns-clause-verdict
returns-clause-verdict c =
    λ w s. judges (goal.at.returns-clause-verdict c).After-shown_of-shown w s ∙ verdict-ahead c.shown_of-shown.result c.args.message.now.ssn (omega (arith, c.if-message-shown.false, c.if-message-shown-2.false))

pub returns-then-to-gt0-clause-number : goal.returns-then-to-gt0-clause-number
returns-then-to-gt0-clause-number c = rw c.judge.ensures (judged-numbered c.args.message.now.sender c.receipts.result.now.senders c.args.message.now.ssn)
