use Rattle.std.proofs.Common.{arith, ◌≡◌, ◌≤◌, ◌+◌, ◌-◌, subst, sym, ap, ◌∙◌, slice_index_or, length, set, true, ℕ}
use Rattle.std.proofs.lemmas.List.{get_or_default, get_or-set_same}
use Rattle.limits.specs.declared.TheConstants.{ENTRIES, PROCESSES}
use Rattle.checkpoint.specs.Saved.{TheSaved, saved_of}
use Rattle.world.specs.declared.call.Call.TheVariants.{Checkpoint}
use Rattle.world.specs.declared.answer.Answer.TheVariants.{Saved}
use Rattle.session_process.specs.Process.{TheProcess, idle_process, received, IsSaved}
use Rattle.session_process.specs.Mode.{is_live}
use Rattle.machine.specs.Fields.{view_of, IsSoundAt}
use Rattle.machine.specs.Simulation.{TheMachine, Steps, process_at, is_up_at}
use Rattle.machine.proofs.Status.{is_live-at}
use Rattle.machine.proofs.CheckpointLemmas.{checkpoint-step, saved-sound, snapshot-fits}
use Rattle.machine.proofs.Restoration.{count-sound, put-sound}
use Rattle.machine.proofs.Soundness.{sound_at}
use Rattle.machine.proofs.machine.Machine.checkpoint.Goals as goal

pub snapshot-requires-clause-state : goal.snapshot-requires-clause-state
snapshot-requires-clause-state c =
    let may = c.in_default.ensures.none in
    let fits = snapshot-fits c.self.inside c.self.invariant c.args.self.now c.self.view_is c.args.p may.0 may.1 may.3 c.process.result.now c.process.ensures.value c.count.result c.count.ensures.value in
    omega (arith, fits.state)

pub snapshot-requires-clause-senders : goal.snapshot-requires-clause-senders
snapshot-requires-clause-senders c =
    let may = c.in_default.ensures.none in
    let fits = snapshot-fits c.self.inside c.self.invariant c.args.self.now c.self.view_is c.args.p may.0 may.1 may.3 c.process.result.now c.process.ensures.value c.count.result c.count.ensures.value in
    fits.senders

pub snapshot-requires-clause-owner : goal.snapshot-requires-clause-owner
snapshot-requires-clause-owner c =
    let may = c.in_default.ensures.none in
    let fits = snapshot-fits c.self.inside c.self.invariant c.args.self.now c.self.view_is c.args.p may.0 may.1 may.3 c.process.result.now c.process.ensures.value c.count.result c.count.ensures.value in
    fits.owner

pub snapshot-requires-clause-queues : goal.snapshot-requires-clause-queues
snapshot-requires-clause-queues c =
    let may = c.in_default.ensures.none in
    let fits = snapshot-fits c.self.inside c.self.invariant c.args.self.now c.self.view_is c.args.p may.0 may.1 may.3 c.process.result.now c.process.ensures.value c.count.result c.count.ensures.value in
    omega (arith, fits.queues)

pub invariant_of-self : goal.invariant_of-self
invariant_of-self c =
    let i = c.self.invariant in
    let p = c.args.p in
    let m = view_of c.self.inside in
    let xs = c.self.inside.processes.items in
    let lengths = c.self.inside.lengths.items in
    let was = c.index_mut-process.result.now in
    let y = c.save.new.self in
    let positive = c.in_default.ensures.none.0 in
    let within : p ≤ length xs = subst (λ (v : TheMachine). p ≤ length v.processes) (sym c.self.view_is) c.in_default.ensures.none.1 in
    let calls : c.self.inside.calls + c.args.room ≤ ENTRIES = subst (λ (v : TheMachine). v.calls + c.args.room ≤ ENTRIES) (sym c.self.view_is) c.requires in
    let here : was ≡ slice_index_or xs (p - 1) was = c.index_mut-process.ensures.value in
    let at : was ≡ process_at m p = here ∙ get_or_default xs (p - 1) was (idle_process 0 0 0) (omega (arith, positive, within)) in
    let taken : c.process.result.now ≡ process_at m p = c.process.ensures.value ∙ ap (λ (v : TheMachine). process_at v p) (sym c.self.view_is) in
    let count : c.count.result ≡ length xs = c.count.ensures.value ∙ ap (λ (v : TheMachine). length v.processes) (sym c.self.view_is) in
    let stable : c.in_ok-stable.stable ≡ saved_of p (length xs) was.state was.receipts was.outbox.log = c.in_ok-stable.ensures ∙ (λ j. saved_of p (count j) (taken j).state (taken j).receipts (taken j).outbox.log) ∙ ap (λ (x : TheProcess). saved_of p (length xs) x.state x.receipts x.outbox.log) (sym at) in
    let is : IsSaved (saved_of p (length xs) was.state was.receipts was.outbox.log) was y = subst (λ (z : TheSaved). IsSaved z was y) stable c.save.ensures in
    let now : (e : ℕ) → IsSoundAt (length xs) p (slice_index_or lengths (p - 1) e) (c.self.inside.calls + 1) y =
    λ e. saved-sound (length xs) p _ c.self.inside.calls was y is (let up = subst (λ (v : TheMachine). is_up_at v p ≡ true) (sym c.self.view_is) c.in_default.ensures.none.3 in ap (λ (x : TheProcess). is_live x.mode) at ∙ is_live-at m p positive up) (subst (IsSoundAt (length xs) p (slice_index_or lengths (p - 1) e) c.self.inside.calls) (sym here) (sound_at c.self.inside i p was e positive within)) in
    let counted = count-sound c.self.inside i (omega (arith, calls, c.in_default.ensures.none.2)) in
    put-sound (record c.self.inside { calls = c.self.inside.calls + 1 }) counted p y positive within now

pub returns-clause-step : goal.returns-clause-step
returns-clause-step c w s =
    let m = c.args.self.now in
    let p = c.args.p in
    let xs = c.self.inside.processes.items in
    let was = c.index_mut-process.result.now in
    let y = c.save.new.self in
    let positive = c.in_default.ensures.none.0 in
    let within = c.in_default.ensures.none.1 in
    let inside : p ≤ length xs = subst (λ (v : TheMachine). p ≤ length v.processes) (sym c.self.view_is) within in
    let few : length m.processes ≤ PROCESSES = subst (λ (v : TheMachine). length v.processes ≤ PROCESSES) c.self.view_is c.self.invariant.few in
    let here : was ≡ slice_index_or xs (p - 1) was = c.index_mut-process.ensures.value in
    let at : was ≡ process_at m p = here ∙ get_or_default xs (p - 1) was (idle_process 0 0 0) (omega (arith, positive, inside)) ∙ ap (λ (v : TheMachine). process_at v p) c.self.view_is in
    let sound = sound_at c.self.inside c.self.invariant p (idle_process 0 0 0) 0 positive inside in
    let width : length (process_at m p).outbox.log.queues ≡ length m.processes + 1 = subst (λ (v : TheMachine). length (process_at v p).outbox.log.queues ≡ length v.processes + 1) c.self.view_is (let wide = sound.log.width in omega (arith, wide)) in
    let x = process_at m p in
    let stable : c.in_ok-stable.stable ≡ saved_of p (length m.processes) x.state x.receipts x.outbox.log = c.in_ok-stable.ensures ∙ (λ j. saved_of p (c.count.ensures.value j) (c.process.ensures.value j).state (c.process.ensures.value j).receipts (c.process.ensures.value j).outbox.log) in
    let is : IsSaved (saved_of p (length m.processes) x.state x.receipts x.outbox.log) x y = subst (λ (z : TheProcess). IsSaved (saved_of p (length m.processes) x.state x.receipts x.outbox.log) z y) at (subst (λ (z : TheSaved). IsSaved z was y) stable c.save.ensures) in
    let answer : c.length.result ≡ length x.receipts.senders = c.length.ensures.value ∙ ap received (c.process-2.ensures.value ∙ get_or-set_same xs (p - 1) y (idle_process 0 0 0) (omega (arith, positive, inside)) ∙ is.others) in
    let P : TheMachine → Type 0 = λ v. Steps m (record v { processes = set v.processes (p - 1) y; calls = v.calls + 1 }) c.args.room (Checkpoint p) (Saved c.length.result) w in
    subst P (sym c.self.view_is)
    (rw answer (checkpoint-step m w s c.args.room p (m.calls + 1) y positive within few c.in_default.ensures.none.3 (omega (arith, width)) is (c.in_default.ensures.cause w s)))
