use Rattle.std.proofs.Common.{rules, ◌≡◌, ◌≤◌, ℕ, true, false, arith, length, slice_index_or, ap, sym, ◌∙◌, ◌<◌}
use Rattle.std.specs.Prelude.{None}
use Rattle.std.proofs.lemmas.Grind.{common_steps}
use Rattle.limits.specs.declared.TheConstants.{PACKETS}
use Rattle.sender_log.specs.Queue.{is_logged}
use Rattle.sender_log.specs.Log.{TheLog, queue_of}
use Rattle.machine.specs.Simulation.{is_up_at, log_at}
use Rattle.machine.proofs.Causes.{transmit-same, transmit-early, transmit-nothing, transmit-rest}
use Rattle.machine.proofs.machine.Machine.transmit_cause.Goals as goal
use Rattle.machine.proofs.machine.Machine.transmit_cause.Goals.{Else-to-count, Else-not-is_up, then-ssn-eq0-via-then-ssn-eq0, then-ssn-eq0-via-else-ssn-eq0+then-not-is_logged}

within : (c : Else-to-count) → c.args.from ≤ length c.args.self.now.processes
within c = first_of (search rules, grind (arith, common_steps))

to : (c : Else-to-count) → c.args.to ≤ length c.args.self.now.processes
to c = first_of (search rules, grind (arith, common_steps))

up : (c : Else-not-is_up) → is_up_at c.args.self.now c.args.from ≡ true
up c = sym c.is_up.ensures ∙ c.if-not-is_up.false

pub returns-then-from-to-clause-cause : goal.returns-then-from-to-clause-cause
returns-then-from-to-clause-cause c =
    let g = (goal.at.returns-then-from-to-clause-cause c).Else-to-count in
    let u = (goal.at.returns-then-from-to-clause-cause c).Else-not-is_up in
    λ w s. transmit-same c.args.self.now w s c.args.room c.args.from c.args.to c.args.ssn (within g) (to g) (up u) c.if-from-to.true

pub returns-then-ssn-released-clause-cause : goal.returns-then-ssn-released-clause-cause
returns-then-ssn-released-clause-cause c =
    let g = (goal.at.returns-then-ssn-released-clause-cause c).Else-to-count in
    let u = (goal.at.returns-then-ssn-released-clause-cause c).Else-not-is_up in
    λ w s. transmit-early c.args.self.now w s c.args.room c.args.from c.args.to c.args.ssn (within g) (to g) (up u) c.if-from-to.false (rw c.released.ensures at c.if-ssn-released.true)

pub returns-then-ssn-eq0-clause-cause : goal.returns-then-ssn-eq0-clause-cause
returns-then-ssn-eq0-clause-cause c =
    let g = (goal.at.returns-then-ssn-eq0-clause-cause c).Else-to-count in
    let u = (goal.at.returns-then-ssn-eq0-clause-cause c).Else-not-is_up in
    let none : 0 < c.args.ssn → is_logged c.args.ssn (queue_of c.args.to (log_at c.args.self.now c.args.from)) ≡ false =
    elim c.then-ssn-eq0.branch [
      | then-ssn-eq0-via-then-ssn-eq0 b ↦ λ h. absurd (omega (arith, h, b.if-ssn-eq0.true))
      | then-ssn-eq0-via-else-ssn-eq0+then-not-is_logged b ↦ λ h. ap (λ (l : TheLog). is_logged c.args.ssn (queue_of c.args.to l)) (sym b.log.ensures.value) ∙ sym b.is_logged.ensures ∙ b.if-not-is_logged.true
    ] in
    λ w s. transmit-nothing c.args.self.now w s c.args.room c.args.from c.args.to c.args.ssn (within g) (to g) (up u) c.if-from-to.false (rw c.released.ensures at c.if-ssn-released.false) none

pub returns-clause-cause : goal.returns-clause-cause
returns-clause-cause c =
    let g = (goal.at.returns-clause-cause c).Else-to-count in
    let u = (goal.at.returns-clause-cause c).Else-not-is_up in
    let logged : is_logged c.args.ssn (queue_of c.args.to (log_at c.args.self.now c.args.from)) ≡ true = ap (λ (l : TheLog). is_logged c.args.ssn (queue_of c.args.to l)) (sym c.log.ensures.value) ∙ sym c.is_logged.ensures ∙ c.if-not-is_logged.false in
    let keys : (key : ℕ) → PACKETS ≤ key → slice_index_or c.args.self.now.slots key None ≡ None = rw (← c.self.view_is) c.self.invariant.keys in
    λ w s. rw c.place_cause.ensures (transmit-rest c.args.self.now w s c.args.room c.args.from c.args.to c.args.ssn (within g) (to g) (up u) c.if-from-to.false (rw c.released.ensures at c.if-ssn-released.false) logged keys)
