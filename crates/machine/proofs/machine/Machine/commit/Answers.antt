use Rattle.std.proofs.Common.{rules, ◌≡◌, ◌≢◌, ◌<◌, ◌≤◌, ◌+◌, ◌-◌, ℕ, arith, subst, sym, ap, ◌∙◌, length, map, set, slice_index_or, refl, true, suc}
use Rattle.std.specs.Prelude.{Some, None}
use Rattle.std.proofs.lemmas.Grind.{common_steps}
use Rattle.std.proofs.lemmas.List.{get_or_default, length-set, set-get_or}
use Rattle.limits.specs.declared.TheConstants.{ENTRIES, PACKETS}
use Rattle.world.specs.declared.message.Message.{Message}
use Rattle.world.specs.declared.packet.Packet.TheVariants.{Number}
use Rattle.world.specs.declared.call.Call.TheVariants.{Finish}
use Rattle.world.specs.declared.answer.Answer.TheVariants.{Committed}
use Rattle.world.specs.World.{World}
use Rattle.replay.specs.Task.{TheTask, MayCall, Answers}
use Rattle.session_process.specs.Process.{TheProcess, idle_process, received, HasSent, Commits}
use Rattle.session_process.specs.Mode.{is_live}
use Rattle.session_process.specs.Wire.{Puts}
use Rattle.machine.specs.Simulation.{TheMachine, Stands, Steps, process_at}
use Rattle.machine.specs.Fields.{AreCarried, IsLogOf, IsSoundAt}
use Rattle.machine.specs.Arrival.{IsOpen}
use Rattle.machine.proofs.Status.{is_live-at}
use Rattle.machine.proofs.JobLemmas.{opens}
use Rattle.machine.proofs.Soundness.{sound_at, sound-set}
use Rattle.machine.proofs.Preservation.{carried-put, keys-put}
use Rattle.machine.proofs.ResultLemmas.{sound, room, sound-committed}
use Rattle.machine.proofs.Commitment.{committed}
use Rattle.machine.proofs.machine.Machine.commit.Goals as goal

moved : (P : TheMachine → ℕ → ℕ → Type 0) {u v : TheMachine} {p q r n : ℕ} → u ≡ v → p ≡ q → r ≡ n → P v q n → P u p r
moved P {u} {v} {p} {q} {r} {n} e f g x = subst (λ z. P z p r) (sym e) (subst (λ z. P v z r) (sym f) (subst (P v q) (sym g) x))

pub commit-requires-clause-room : goal.commit-requires-clause-room
commit-requires-clause-room c =
    let t = c.args.done.task in
    let p = c.who-me.result.me in
    let p_is : p ≡ t.who.me = ap (λ z. z.me) c.who-me.ensures.value ∙ ap (λ (z : TheTask). z.who.me) c.task-task.ensures.value in
    let was = c.index_mut-process.result.now in
    let xs = c.self.inside.processes.items in
    let k = c.requires.matches in
    let within : p ≤ length xs = subst (λ (v : TheMachine). p ≤ length v.processes) (sym c.self.view_is) (omega (arith, p_is, k.within)) in
    let inside : p - 1 < length xs = omega (arith, p_is, k.inside, within) in
    let here : was ≡ slice_index_or xs (p - 1) was = first_of (search rules, grind (arith, common_steps)) in
    let at : was ≡ process_at c.args.self.now t.who.me = here ∙ get_or_default xs (p - 1) was (idle_process 0 0 0) inside ∙ ap (λ (v : TheMachine). process_at v p) c.self.view_is ∙ ap (process_at c.args.self.now) p_is in
    omega (arith, room c.self.inside c.self.invariant c.args.self.now c.self.view_is t k, ap received at, c.requires.calls)

pub invariant_of-self : goal.invariant_of-self
invariant_of-self c =
    let p = c.who-me.result.me in
    let xs = c.self.inside.processes.items in
    let was = c.index_mut-process.result.now in
    let here : was ≡ slice_index_or xs (p - 1) was = first_of (search rules, grind (arith, common_steps)) in
    let undone : c.commit.new.self ≡ slice_index_or xs (p - 1) was = first_of (search rules, grind (arith, common_steps)) in
    let kept : set xs (p - 1) c.commit.new.self ≡ xs = ap (set xs (p - 1)) undone ∙ set-get_or xs (p - 1) was in
    let wire : c.commit.new.wire ≡ c.self.inside.wire = first_of (search rules, grind (arith, common_steps)) in
    let i = c.self.invariant in
    let len = ap length kept in
    record {
      some = omega (arith, len, i.some);
      few = omega (arith, len, i.few);
      lengths = i.lengths ∙ sym len;
      processes = subst (λ zs. (q : ℕ) (d : TheProcess) (e : ℕ) → q < length zs → IsSoundAt (length zs) (suc q) (slice_index_or c.self.inside.lengths.items q e) c.self.inside.calls (slice_index_or zs q d)) (sym kept) i.processes;
      outside = subst (λ n. IsLogOf n 0 c.self.inside.outside.log) (sym len) i.outside;
      calls = i.calls;
      started = i.started;
      inputs = i.inputs;
      shown = i.shown;
      wire = subst (λ ws. AreCarried ws (length (set xs (p - 1) c.commit.new.self))) (sym wire) (subst (AreCarried c.self.inside.wire) (sym len) i.wire);
      keys = subst (λ ws. (key : ℕ) → PACKETS ≤ key → slice_index_or ws key None ≡ None) (sym wire) i.keys;
    }

pub returns-in_default-clause-step : goal.returns-in_default-clause-step
returns-in_default-clause-step c = (
  refl,
  first_of (search (rules, set-get_or), grind (arith, common_steps, set-get_or)),
  λ w s. opens c.args.self.now c.args.done.task w s c.requires.matches,
)

pub invariant_of-self-2 : goal.invariant_of-self-2
invariant_of-self-2 c =
    let t = c.args.done.task in
    let i = c.self.invariant in
    let xs = c.self.inside.processes.items in
    let lengths = c.self.inside.lengths.items in
    let y = c.commit.new.self in
    let was = c.index_mut-process.result.now in
    let k = c.requires.matches in
    let commits = c.in-Ok.ensures.process in
    let p = c.who-me.result.me in
    let p_is : p ≡ t.who.me = ap (λ z. z.me) c.who-me.ensures.value ∙ ap (λ (z : TheTask). z.who.me) c.task-task.ensures.value in
    let positive : 0 < p = omega (arith, p_is, k.inside) in
    let within : p ≤ length xs = subst (λ (v : TheMachine). p ≤ length v.processes) (sym c.self.view_is) (omega (arith, p_is, k.within)) in
    let here : was ≡ slice_index_or xs (p - 1) was = first_of (search rules, grind (arith, common_steps)) in
    let at : was ≡ process_at c.args.self.now t.who.me = here ∙ get_or_default xs (p - 1) was (idle_process 0 0 0) (omega (arith, positive, within)) ∙ ap (λ (v : TheMachine). process_at v p) c.self.view_is ∙ ap (process_at c.args.self.now) p_is in
    let live : is_live was.mode ≡ true = ap (λ (x : TheProcess). is_live x.mode) at ∙ is_live-at c.args.self.now t.who.me k.inside c.requires.up in
    let same : length y.state ≡ length was.state = first_of (search rules, grind (arith, common_steps)) in
    let calls : c.args.self.now.calls ≡ c.self.inside.calls = ap (λ (v : TheMachine). v.calls) (sym c.self.view_is) in
    let fits : received was + 1 ≤ c.self.inside.calls = omega (arith, room c.self.inside c.self.invariant c.args.self.now c.self.view_is t k, ap received at, calls) in
    let sound_was : (e : ℕ) → IsSoundAt (length xs) p (slice_index_or lengths (p - 1) e) c.self.inside.calls was = λ e. subst (IsSoundAt (length xs) p (slice_index_or lengths (p - 1) e) c.self.inside.calls) (sym here) (sound_at c.self.inside i p was e positive within) in
    let len = length-set xs (p - 1) y in
    let may : MayCall t.who = subst (λ (z : TheTask). MayCall z.who) c.task-task.ensures.value c.who-me.ensures.callable in
    let sender_is : c.message-message.result.sender ≡ t.message.sender = ap (λ (z : Message). z.sender) c.message-message.ensures ∙ ap (λ (z : TheTask). z.message.sender) c.task-task.ensures.value in
    let count : length c.args.self.now.processes ≡ length xs = ap (λ (v : TheMachine). length v.processes) (sym c.self.view_is) in
    let from : c.message-message.result.sender ≤ length xs = omega (arith, sender_is, k.from, k.count, count, may.sender) in
    let other : c.message-message.result.sender ≢ p = λ e. may.other (k.from ∙ sym sender_is ∙ e ∙ p_is) in
    let now : (e : ℕ) → IsSoundAt (length xs) p (slice_index_or lengths (p - 1) e) (c.self.inside.calls + 1) y = λ e.
    sound-committed (length xs) p _ c.self.inside.calls c.args.done was y (sound_was e) commits live same (omega (arith, sender_is, from)) (λ f. other (sender_is ∙ f)) fits in
    let rsn_is : c.rsn-rsn.result ≡ t.rsn = c.rsn-rsn.ensures ∙ ap (λ (z : TheTask). z.rsn) c.task-task.ensures.value in
    let first : 0 < c.rsn-rsn.result = omega (arith, rsn_is, k.rsn) in
    let puts = c.in-Ok.ensures.wire.1 in
    record {
      some = omega (arith, len, i.some);
      few = omega (arith, len, i.few);
      lengths = i.lengths ∙ sym len;
      processes = sound-set xs lengths p c.self.inside.calls y positive within i.processes now;
      outside = subst (λ n. IsLogOf n 0 c.self.inside.outside.log) (sym len) i.outside;
      calls = subst (λ (v : TheMachine). v.calls + 1 ≤ ENTRIES + 1) (sym c.self.view_is) (omega (arith, c.requires.calls));
      started = omega (arith, i.started);
      inputs = λ d. omega (arith, i.inputs d);
      shown = omega (arith, i.shown);
      wire = subst (AreCarried c.commit.new.wire) (sym len) (carried-put c.self.inside.wire c.commit.new.wire c.in-Ok.key None _ puts (length xs) (positive, within, from, other, first) i.wire);
      keys = keys-put c.self.inside.wire c.commit.new.wire c.in-Ok.key None _ puts c.in-Ok.ensures.wire.0 i.keys;
    }

pub returns-clause-step : goal.returns-clause-step
returns-clause-step c =
    let m = c.args.self.now in
    let b = c.args.done in
    let t = b.task in
    let y = c.commit.new.self in
    let slots = c.commit.new.wire in
    let was = c.index_mut-process.result.now in
    let k = c.requires.matches in
    let task_is = c.task-task.ensures.value in
    let p = c.who-me.result.me in
    let p_is : p ≡ t.who.me = ap (λ z. z.me) c.who-me.ensures.value ∙ ap (λ (z : TheTask). z.who.me) task_is in
    let message_is : c.message-message.result ≡ t.message = c.message-message.ensures ∙ ap (λ (z : TheTask). z.message) task_is in
    let rsn_is : c.rsn-rsn.result ≡ t.rsn = c.rsn-rsn.ensures ∙ ap (λ (z : TheTask). z.rsn) task_is in
    let incarnation_is : c.incarnation.result ≡ t.incarnation = c.incarnation.ensures ∙ ap (λ (z : TheTask). z.incarnation) task_is in
    let xs = c.self.inside.processes.items in
    let within : p ≤ length xs = subst (λ (v : TheMachine). p ≤ length v.processes) (sym c.self.view_is) (omega (arith, p_is, k.within)) in
    let inside : p - 1 < length xs = omega (arith, p_is, k.inside, within) in
    let here : was ≡ slice_index_or xs (p - 1) was = first_of (search rules, grind (arith, common_steps)) in
    let at : was ≡ process_at m t.who.me = here ∙ get_or_default xs (p - 1) was (idle_process 0 0 0) inside ∙ ap (λ (v : TheMachine). process_at v p) c.self.view_is ∙ ap (process_at m) p_is in
    let commits : Commits b (process_at m t.who.me) y = subst (λ (z : TheProcess). Commits b z y) at c.in-Ok.ensures.process in
    let sent : HasSent (process_at m t.who.me) = subst HasSent at c.in-Ok.ensures.sent in
    let wire : c.self.inside.wire ≡ m.slots = ap (λ (v : TheMachine). v.slots) c.self.view_is in
    let puts : Puts m.slots slots c.in-Ok.key None (Some (Number t.who.me t.message.sender t.message.ssn t.rsn t.incarnation)) =
    subst (λ ws. Puts ws slots c.in-Ok.key None (Some (Number t.who.me t.message.sender t.message.ssn t.rsn t.incarnation))) wire
    (subst (λ k. Puts c.self.inside.wire slots c.in-Ok.key None (Some k)) (λ i. Number (p_is i) (message_is i).sender (message_is i).ssn (rsn_is i) (incarnation_is i)) c.in-Ok.ensures.wire.1) in
    let P : TheMachine → ℕ → ℕ → Type 0 = λ v p r. (w : World) → Stands m w → IsOpen t w × (Answers w.handlers b → Steps m (record v { processes = set v.processes (p - 1) y; slots = slots; calls = c.self.inside.calls + 1 }) 0 (Finish t.who.me) (Committed r c.in-Ok.key) w) in
    moved P c.self.view_is p_is rsn_is (λ w s. (
      opens m t w s k,
      λ a. committed m w s b k a y commits c.requires.up (sound c.self.inside c.self.invariant m c.self.view_is t k 0).log sent c.in-Ok.key (c.self.inside.calls + 1) slots c.in-Ok.ensures.wire.0 puts,
    ))
