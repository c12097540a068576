use Rattle.std.proofs.Common.{◌≡◌, ◌<◌, ◌+◌, ◌-◌, ℕ, arith, subst, sym, ap, ◌∙◌, length, set, refl, Bool, true, false, true≢false}
use Rattle.std.specs.Prelude.{Result, Ok, Err, OnOk, OnErr, is_err, Some, None, nat_lt, unwrap_or, if◌then◌else◌}
use Rattle.std.specs.Vec.{with_item}
use Rattle.std.proofs.lemmas.Bool.Decides.{nat_tests}
use Rattle.helpers.specs.declared.effects.Who.{Who}
use Rattle.world.specs.declared.call.Call.TheVariants.{Finish}
use Rattle.world.specs.declared.answer.Answer.TheVariants.{Replayed}
use Rattle.replay.specs.Task.{TheTask, TheCompletion, MayCall}
use Rattle.replay.specs.Plan.{ThePlan}
use Rattle.session_process.specs.Process.{TheProcess, received, Recalls}
use Rattle.session_process.specs.Mode.{is_replayed}
use Rattle.machine.specs.Recoveries.{SettlesAt}
use Rattle.machine.specs.Fields.{view_of}
use Rattle.machine.specs.Simulation.{TheMachine, Steps}
use Rattle.machine.proofs.JobLemmas.{opens}
use Rattle.machine.proofs.Restoration.{count-sound}
use Rattle.machine.proofs.ResultLemmas.{sound, fits-at, next-of, undone-sound, undone-view, replays-at, recalled-sound, recalled-settles, recalled-view, recalls-at, mode-then}
use Rattle.machine.proofs.Recall.{works, goes-on, settles}
use Rattle.machine.proofs.machine.Machine.recall.Goals as goal
use Rattle.machine.proofs.machine.Machine.recall.Goals.{in-Some, in_default}

taken : {X E P : Type 0} (r : Result X E) → is_err r ≡ false → OnOk r P → P
taken (Ok x) e p = p
taken (Err x) e p = absurd (true≢false e)

refused : {X E P : Type 0} (r : Result X E) → is_err r ≡ true → OnErr r P → P
refused (Ok x) e p = absurd (true≢false (sym e))
refused (Err x) e p = p

-- the number of a task's process
number : {a : Who} {t u : TheTask} → a ≡ t.who → t ≡ u → a.me ≡ u.who.me
number e f = ap (λ (z : Who). z.me) e ∙ ap (λ (z : TheTask). z.who.me) f

-- what a recall that was not refused says of the process and its flags
recalled : {X E : Type 0} (r : Result X E) (b : TheCompletion) (was y : TheProcess) → is_err r ≡ false → OnOk r (Recalls b was y) → OnOk r (length was.receipts.acknowledged ≡ received was)
    → Recalls b was y × (length was.receipts.acknowledged ≡ received was)
recalled r b was y fine process flags = (taken r fine process, taken r fine flags)

-- whether all of a plan is replayed
ended : (b was is : Bool) → (if b then None else Some was) ≡ Some is → (b ≡ false) × (was ≡ is)
ended true was is e = absurd (cc)
ended false was is e = (refl, ap (λ o. unwrap_or o was) e)

going : (b was : Bool) → (if b then None else Some was) ≡ None → b ≡ true
going true was e = refl
going false was e = absurd (cc)

ends-at : (r n : ℕ) → r < n → nat_lt (r + 1) n ≡ false → r + 1 ≡ n
ends-at r n h e = grind (arith, nat_tests)

goes-at : (r n : ℕ) → nat_lt (r + 1) n ≡ true → r + 1 < n
goes-at r n e = grind (arith, nat_tests)

pub recall-requires-clause-room : goal.recall-requires-clause-room
recall-requires-clause-room c =
    let p_is = number c.who-me.ensures.value c.task.ensures.value in
    let calls = ap (λ (v : TheMachine). v.calls) c.self.view_is in
    let fits = fits-at c.self.inside c.self.invariant c.args.self.now c.self.view_is c.args.done c.requires.matches c.requires.down c.who-me.result.me p_is c.index_mut-process.result.now c.index_mut-process.ensures.value in
    omega (arith, fits, calls, c.requires.calls)

pub recall-requires-clause-next : goal.recall-requires-clause-next
recall-requires-clause-next c =
    let p_is = number c.who-me.ensures.value c.task.ensures.value in
    next-of c.self.inside c.self.invariant c.args.self.now c.self.view_is c.args.done c.requires.matches c.requires.down c.who-me.result.me p_is c.index_mut-process.result.now c.index_mut-process.ensures.value

pub invariant_of-self : goal.invariant_of-self
invariant_of-self c =
    let p_is = number c.who-me.ensures.value c.task.ensures.value in
    undone-sound c.self.inside c.self.invariant c.args.self.now c.self.view_is c.args.done c.requires.matches c.requires.down c.who-me.result.me p_is c.index_mut-process.result.now c.index_mut-process.ensures.value c.recall.new.self (refused c.recall.result (sym c.is_err.ensures.value ∙ c.if-is_err.true) c.recall.ensures.err)

pub returns-then-is_err-clause-step : goal.returns-then-is_err-clause-step
returns-then-is_err-clause-step c =
    let p_is = number c.who-me.ensures.value c.task.ensures.value in (
      refl,
      undone-view c.self.inside c.self.invariant c.args.self.now c.self.view_is c.args.done c.requires.matches c.requires.down c.who-me.result.me p_is c.index_mut-process.result.now c.index_mut-process.ensures.value c.recall.new.self (refused c.recall.result (sym c.is_err.ensures.value ∙ c.if-is_err.true) c.recall.ensures.err),
      λ w s. opens c.args.self.now c.args.done.task w s c.requires.matches,
    )

pub invariant_of-self-in-Some : goal.invariant_of-self-in-Some
invariant_of-self-in-Some c =
    let p_is = number c.who-me.ensures.value c.task.ensures.value in
    let took = recalled c.recall.result c.args.done c.index_mut-process.result.now c.recall.new.self (sym c.is_err.ensures.value ∙ c.if-is_err.false) c.recall.ensures.process c.recall.ensures.flags in
    let may : MayCall c.args.done.task.who = subst (λ (z : TheTask). MayCall z.who) c.task.ensures.value c.who-me.ensures.callable in
    recalled-sound c.self.inside c.self.invariant c.args.self.now c.self.view_is c.args.done c.requires.matches c.requires.down c.who-me.result.me p_is c.index_mut-process.result.now c.index_mut-process.ensures.value c.recall.new.self took.0 took.1 c.task.ensures.size may

pub settle-requires : goal.settle-requires
settle-requires c =
    let p_is = number c.who-me.ensures.value c.task.ensures.value in
    let took = recalled c.recall.result c.args.done c.index_mut-process.result.now c.recall.new.self (sym c.is_err.ensures.value ∙ c.if-is_err.false) c.recall.ensures.process c.recall.ensures.flags in
    let may : MayCall c.args.done.task.who = subst (λ (z : TheTask). MayCall z.who) c.task.ensures.value c.who-me.ensures.callable in
    recalled-settles c.self.inside c.self.invariant c.args.self.now c.self.view_is c.args.done c.requires.matches c.requires.down c.who-me.result.me p_is c.index_mut-process.result.now c.index_mut-process.ensures.value c.recall.new.self took.0 took.1 c.task.ensures.size may

pub invariant_of-self-in_default : goal.invariant_of-self-in_default
invariant_of-self-in_default c =
    let p_is = number c.who-me.ensures.value c.task.ensures.value in
    let took = recalled c.recall.result c.args.done c.index_mut-process.result.now c.recall.new.self (sym c.is_err.ensures.value ∙ c.if-is_err.false) c.recall.ensures.process c.recall.ensures.flags in
    let may : MayCall c.args.done.task.who = subst (λ (z : TheTask). MayCall z.who) c.task.ensures.value c.who-me.ensures.callable in
    recalled-sound c.self.inside c.self.invariant c.args.self.now c.self.view_is c.args.done c.requires.matches c.requires.down c.who-me.result.me p_is c.index_mut-process.result.now c.index_mut-process.ensures.value c.recall.new.self took.0 took.1 c.task.ensures.size may

pub invariant_of-self-2 : goal.invariant_of-self-2
invariant_of-self-2 c =
    let calls : TheMachine → ℕ = λ v. v.calls in
    let before : c.self.inside.calls ≡ c.args.self.now.calls = ap calls c.self.view_is in
    let same : c.self-2.inside.calls ≡ c.self.inside.calls =
    elim c.match-is_replayed.branch [
      | in-Some v ↦ ap calls (c.self-2.view_is ∙ v.self-is ∙ v.settle.ensures.becomes)
      | in_default v ↦ ap calls (c.self-2.view_is ∙ v.self-is)
    ] in
    let i = count-sound c.self-2.inside c.self-2.invariant (omega (arith, same, before, c.requires.calls)) in
    record { some = i.some; few = i.few; lengths = i.lengths; processes = i.processes; outside = i.outside; calls = i.calls; started = i.started; inputs = i.inputs; shown = i.shown; wire = i.wire; keys = i.keys }

pub returns-clause-step : goal.returns-clause-step
returns-clause-step c w s =
    let i = c.self.inside in
    let m = c.args.self.now in
    let b = c.args.done in
    let t = b.task in
    let k = c.requires.matches in
    let p = c.who-me.result.me in
    let p_is : p ≡ t.who.me = number c.who-me.ensures.value c.task.ensures.value in
    let was = c.index_mut-process.result.now in
    let y = c.recall.new.self in
    let may : MayCall t.who = subst (λ (z : TheTask). MayCall z.who) c.task.ensures.value c.who-me.ensures.callable in
    let took = recalled c.recall.result b was y (sym c.is_err.ensures.value ∙ c.if-is_err.false) c.recall.ensures.process c.recall.ensures.flags in
    let recalls = took.0 in
    let flags = took.1 in
    let size = c.task.ensures.size in
    let rsn_is : c.rsn-rsn.result ≡ t.rsn = c.rsn-rsn.ensures ∙ ap (λ (z : TheTask). z.rsn) c.task-2.ensures.value in
    let calls = c.self-2.inside.calls + 1 in
    let log_of = (sound i c.self.invariant m c.self.view_is t k 0).log in
    let replays = replays-at i c.self.invariant m c.self.view_is b k c.requires.down p p_is was c.index_mut-process.ensures.value in
    let plan : ThePlan = replays.0 in
    let then_is = mode-then i c.self.invariant m c.self.view_is b k c.requires.down p p_is was c.index_mut-process.ensures.value y recalls flags size may in
    let at = recalls-at i c.self.invariant m c.self.view_is b k c.requires.down p p_is was c.index_mut-process.ensures.value y recalls flags size may in
    let view = recalled-view i c.self.invariant m c.self.view_is b k c.requires.down p p_is was c.index_mut-process.ensures.value y recalls flags size may in
    let told : (if nat_lt (plan.replayed + 1) (length plan.messages) then None else Some replays.1) ≡ c.is_replayed.result = ap is_replayed (sym then_is) ∙ ap is_replayed (sym c.mode.ensures) ∙ sym c.is_replayed.ensures in
    let P : TheMachine → Type 0 = λ v. Steps m (record v { calls = calls }) 0 (Finish t.who.me) (Replayed t.rsn) w in (
      opens m t w s k,
      λ a. let left = (works m w s b k a y at plan replays.1 replays.2 log_of).left in
          subst (λ r. Steps m (record (view_of c.self-2.inside) { calls = calls }) 0 (Finish t.who.me) (Replayed r) w) (sym rsn_is)
          (elim c.match-is_replayed.branch [
            | in-Some v ↦
                let e = ended (nat_lt (plan.replayed + 1) (length plan.messages)) replays.1 v.in-Some.alone (told ∙ v.in-Some.is) in
                let none = e.0 in
                let last : plan.replayed + 1 ≡ length plan.messages = ends-at plan.replayed (length plan.messages) left none in
                let old : TheMachine = view_of (record i { processes = with_item i.processes (p - 1) y }) in
                let new : TheMachine = v.settle.new.self in
                let by_number : SettlesAt t.who.me v.in-Some.alone old new = subst (λ q. SettlesAt q v.in-Some.alone old new) p_is v.settle.ensures in
                let by_kind : SettlesAt t.who.me replays.1 old new = subst (λ z. SettlesAt t.who.me z old new) (sym e.1) by_number in
                let there : SettlesAt t.who.me replays.1 (record m { processes = set m.processes (t.who.me - 1) y }) new = subst (λ v. SettlesAt t.who.me replays.1 v new) view by_kind in
                subst P (sym (c.self-2.view_is ∙ v.self-is)) (settles m w s b k a y at plan replays.1 replays.2 log_of last calls new there)
            | in_default v ↦
                let some = going (nat_lt (plan.replayed + 1) (length plan.messages)) replays.1 (told ∙ v.in_default.is) in
                let more : plan.replayed + 1 < length plan.messages = goes-at plan.replayed (length plan.messages) some in
                subst P (sym (c.self-2.view_is ∙ v.self-is ∙ view)) (goes-on m w s b k a y at plan replays.1 replays.2 log_of more calls)
          ]),
    )
