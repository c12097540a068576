use Rattle.std.proofs.Common.{rules, arith, ◌≡◌, ◌≤◌, ◌+◌, ◌-◌, subst, sym, ap, ◌∙◌, slice_index_or, length, set, ℕ}
use Rattle.std.proofs.lemmas.Grind.{common_steps}
use Rattle.std.proofs.lemmas.List.{get_or_default, get_or-set_same}
use Rattle.limits.specs.declared.TheConstants.{ENTRIES}
use Rattle.world.specs.declared.call.Call.TheVariants.{Crash}
use Rattle.world.specs.declared.answer.Answer.TheVariants.{Crashed}
use Rattle.session_process.specs.Process.{TheProcess, idle_process, crashed}
use Rattle.session_process.specs.Outbox.{empty_outbox}
use Rattle.machine.specs.Fields.{IsSoundAt}
use Rattle.machine.specs.Simulation.{TheMachine, Steps, process_at}
use Rattle.machine.proofs.Crashes.{crash-step, crashed-sound}
use Rattle.machine.proofs.Restoration.{count-sound, put-sound}
use Rattle.machine.proofs.Soundness.{sound_at}
use Rattle.machine.proofs.machine.Machine.crash.Goals as goal

pub crash-requires-clause-incarnation : goal.crash-requires-clause-incarnation
crash-requires-clause-incarnation c =
    let i = c.self.invariant in
    let p = c.args.p in
    let xs = c.self.inside.processes.items in
    let was = c.index_mut-process.result.now in
    let positive = c.in_default.ensures.none.0 in
    let within : p ≤ length xs = subst (λ (v : TheMachine). p ≤ length v.processes) (sym c.self.view_is) c.in_default.ensures.none.1 in
    let here : was ≡ slice_index_or xs (p - 1) was = first_of (search rules, grind (arith, common_steps)) in
    let s = sound_at c.self.inside i p was 0 positive within in
    omega (arith, s.incarnation, i.calls, ap (λ (x : TheProcess). x.incarnation) here)

pub invariant_of-self : goal.invariant_of-self
invariant_of-self c =
    let i = c.self.invariant in
    let p = c.args.p in
    let xs = c.self.inside.processes.items in
    let lengths = c.self.inside.lengths.items in
    let was = c.index_mut-process.result.now in
    let y = c.crash.new.self in
    let positive = c.in_default.ensures.none.0 in
    let within : p ≤ length xs = subst (λ (v : TheMachine). p ≤ length v.processes) (sym c.self.view_is) c.in_default.ensures.none.1 in
    let calls : c.self.inside.calls + c.args.room ≤ ENTRIES = subst (λ (v : TheMachine). v.calls + c.args.room ≤ ENTRIES) (sym c.self.view_is) c.requires in
    let here : was ≡ slice_index_or xs (p - 1) was = first_of (search rules, grind (arith, common_steps)) in
    let outbox : c.in_ok-outbox.outbox ≡ empty_outbox p (length xs) = c.in_ok-outbox.ensures ∙ ap (empty_outbox p) (c.count.ensures.value ∙ ap (λ (v : TheMachine). length v.processes) (sym c.self.view_is)) in
    let is : y ≡ crashed c.in_ok-outbox.outbox was = c.crash.ensures in
    let now : (e : ℕ) → IsSoundAt (length xs) p (slice_index_or lengths (p - 1) e) (c.self.inside.calls + 1) y =
    λ e. rw is (crashed-sound (length xs) p _ c.self.inside.calls was c.in_ok-outbox.outbox outbox (subst (IsSoundAt (length xs) p (slice_index_or lengths (p - 1) e) c.self.inside.calls) (sym here) (sound_at c.self.inside i p was e positive within))) in
    let counted = count-sound c.self.inside i (omega (arith, calls, c.in_default.ensures.none.2)) in
    put-sound (record c.self.inside { calls = c.self.inside.calls + 1 }) counted p y positive within now

pub returns-clause-step : goal.returns-clause-step
returns-clause-step c w s =
    let m = c.args.self.now in
    let p = c.args.p in
    let xs = c.self.inside.processes.items in
    let was = c.index_mut-process.result.now in
    let y = c.crash.new.self in
    let positive = c.in_default.ensures.none.0 in
    let within = c.in_default.ensures.none.1 in
    let inside : p ≤ length xs = subst (λ (v : TheMachine). p ≤ length v.processes) (sym c.self.view_is) within in
    let here : was ≡ slice_index_or xs (p - 1) was = first_of (search rules, grind (arith, common_steps)) in
    let at : was ≡ process_at m p = here ∙ get_or_default xs (p - 1) was (idle_process 0 0 0) (omega (arith, positive, inside)) ∙ ap (λ (v : TheMachine). process_at v p) c.self.view_is in
    let outbox : c.in_ok-outbox.outbox ≡ empty_outbox p (length m.processes) = c.in_ok-outbox.ensures ∙ ap (empty_outbox p) c.count.ensures.value in
    let is : y ≡ crashed c.in_ok-outbox.outbox (process_at m p) = c.crash.ensures ∙ ap (crashed c.in_ok-outbox.outbox) at in
    let answer : c.incarnation.result ≡ (process_at m p).incarnation + 1 = c.incarnation.ensures ∙ ap (λ (x : TheProcess). x.incarnation) (c.process.ensures.value ∙ get_or-set_same xs (p - 1) y (idle_process 0 0 0) (omega (arith, positive, inside)) ∙ is) in
    let P : TheMachine → Type 0 = λ v. Steps m (record v { processes = set v.processes (p - 1) y; calls = v.calls + 1 }) c.args.room (Crash p) (Crashed c.incarnation.result) w in
    subst P (sym c.self.view_is)
    (rw (is, answer) (crash-step m w s c.args.room p (m.calls + 1) c.in_ok-outbox.outbox positive within outbox (c.in_default.ensures.cause w s)))
