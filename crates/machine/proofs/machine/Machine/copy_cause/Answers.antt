use Rattle.std.proofs.Common.{rules, ◌≡◌, ◌≢◌, ◌≤◌, ℕ, arith, slice_index_or}
use Rattle.std.specs.Prelude.{None}
use Rattle.std.proofs.lemmas.Grind.{common_steps}
use Rattle.limits.specs.declared.TheConstants.{PACKETS}
use Rattle.machine.proofs.Causes.{copy-rest}
use Rattle.machine.proofs.machine.Machine.copy_cause.Goals as goal

pub returns-clause-cause : goal.returns-clause-cause
returns-clause-cause c =
    let m = c.args.self.now in
    let some : slice_index_or m.slots c.args.key None ≢ None = first_of (search rules, grind (arith, common_steps)) in
    let keys : (key : ℕ) → PACKETS ≤ key → slice_index_or m.slots key None ≡ None = rw (← c.self.view_is) c.self.invariant.keys in
    λ w s. rw c.place_cause.ensures (copy-rest m w s c.args.room c.args.key some keys)
