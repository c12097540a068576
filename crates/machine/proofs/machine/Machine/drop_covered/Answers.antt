use Rattle.std.proofs.Common.{rules, arith, ◌≡◌, ◌<◌, ◌≤◌, ◌-◌, subst, sym, slice_index_or, length, ℕ}
use Rattle.std.proofs.lemmas.Grind.{common_steps}
use Rattle.session_process.specs.Process.{trimmed_at}
use Rattle.machine.specs.Fields.{IsSoundAt}
use Rattle.machine.specs.Simulation.{TheMachine}
use Rattle.machine.proofs.Coverage.{trimmed-sound}
use Rattle.machine.proofs.Restoration.{put-sound}
use Rattle.machine.proofs.Soundness.{sound_at}
use Rattle.machine.proofs.machine.Machine.drop_covered.Goals as goal

pub invariant_of-self-2 : goal.invariant_of-self-2
invariant_of-self-2 c =
    let i = c.self.invariant in
    let p = c.args.s in
    let xs = c.self.inside.processes.items in
    let lengths = c.self.inside.lengths.items in
    let was = c.index_mut.result.now in
    let y = c.trim-2.new.self in
    let positive : 0 < p = omega (arith, c.if-s-eq0.false) in
    let within : p ≤ length xs = subst (λ (v : TheMachine). p ≤ length v.processes) (sym c.self.view_is) c.requires.0 in
    let here : was ≡ slice_index_or xs (p - 1) was = first_of (search rules, grind (arith, common_steps)) in
    let is : y ≡ trimmed_at c.args.d c.covered-covered.result was = c.trim-2.ensures.after in
    let now : (e : ℕ) → IsSoundAt (length xs) p (slice_index_or lengths (p - 1) e) c.self.inside.calls y =
    λ e. rw is (trimmed-sound (length xs) p _ c.self.inside.calls c.args.d c.covered-covered.result was (subst (IsSoundAt (length xs) p (slice_index_or lengths (p - 1) e) c.self.inside.calls) (sym here) (sound_at c.self.inside i p was e positive within))) in
    put-sound c.self.inside i p y positive within now
