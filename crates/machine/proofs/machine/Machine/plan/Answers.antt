use Rattle.std.proofs.Common.{◌≡◌, ℕ, suc, ◌+◌, ◌<◌, ◌≤◌, List, [], ◌∷◌, ◌++◌, length, map, take, set, get_or, refl, sym, ap, ◌∙◌, subst, arith}
use Rattle.std.specs.Prelude.{IfOk}
use Rattle.std.specs.Borrow.{Bor}
use Rattle.std.proofs.Math.Seq.{take-suc, take-suc-set}
use Rattle.std.proofs.lemmas.List.{length-set, map-append, take_all}
use Rattle.sender_log.specs.Log.{TheLog}
use Rattle.replay.specs.Plan.{ThePlan, IsPlan, found, lent}
use Rattle.session_process.specs.Outbox.{TheOutbox}
use Rattle.session_process.specs.Process.{TheProcess}
use Rattle.machine.specs.Recoveries.{logs_of}
use Rattle.machine.proofs.machine.Machine.plan.Goals as goal

-- one log more is lent
more : (ls : List (Bor TheLog)) (xs : List TheProcess) (o : TheLog) (d : TheProcess) (i : ℕ) (b : Bor TheLog) → suc i < length ls → i < length xs → b.now ≡ (get_or xs i d).outbox.log
    → lent (take (suc i) ls) ≡ o ∷ map (λ (x : TheProcess). x.outbox.log) (take i xs) → lent (take (suc (suc i)) (set ls (suc i) b)) ≡ o ∷ map (λ (x : TheProcess). x.outbox.log) (take (suc i) xs)
more ls xs o d i b h k e before =
    let taken : map (λ (x : TheProcess). x.outbox.log) (take (suc i) xs) ≡ map (λ (x : TheProcess). x.outbox.log) (take i xs) ++ ((get_or xs i d).outbox.log ∷ []) =
    ap (map (λ (x : TheProcess). x.outbox.log)) (take-suc xs i d k) ∙ map-append (λ (x : TheProcess). x.outbox.log) (take i xs) (get_or xs i d ∷ []) in
    ap lent (take-suc-set ls (suc i) b h) ∙ map-append (λ (r : Bor TheLog). r.now) (take (suc i) ls) (b ∷ []) ∙ (λ j. before j ++ (e j ∷ [])) ∙ sym (ap (λ ys. o ∷ ys) taken)

next : (ls : List (Bor TheLog)) (xs : List TheProcess) (o : TheLog) (d : TheProcess) (i n : ℕ) (b : Bor TheLog) → suc i ≡ n → n < length ls → i < length xs → b.now ≡ (get_or xs i d).outbox.log
    → lent (take (suc i) ls) ≡ o ∷ map (λ (x : TheProcess). x.outbox.log) (take i xs) → lent (take (suc n) (set ls n b)) ≡ o ∷ map (λ (x : TheProcess). x.outbox.log) (take n xs)
next ls xs o d i n b one h k e before =
    subst (λ j. lent (take (suc j) (set ls j b)) ≡ o ∷ map (λ (x : TheProcess). x.outbox.log) (take j xs)) one (more ls xs o d i b (omega (arith, one, h)) k e before)

pub loop-place-init : goal.loop-place-init
loop-place-init c = (refl, ap (λ o. o ∷ []) c.log-logs.ensures)

pub loop-place-preserved : goal.loop-place-preserved
loop-place-preserved c =
    let ls = c.loop-place.logs in
    let xs = c.deref-process-items.result.now in
    let i = c.loop-place.place in
    let wide = c.loop-place.invariant.0 in
    let one : suc i ≡ i + 1 = omega arith in
    let inside : i + 1 < length ls = omega (arith, wide, c.loop-place-test.true, c.self.invariant.few, ap length c.deref-process-items.ensures.value) in
    let log = c.log.ensures.value ∙ ap (λ (b : TheOutbox). b.log) c.outbox.ensures ∙ ap (λ (x : TheProcess). x.outbox.log) c.process-item.is in (
      length-set ls (i + 1) _ ∙ wide,
      next ls xs c.self.inside.outside.log c.process-item.result i (i + 1) _ one inside c.loop-place-test.true log c.loop-place.invariant.1,
    )

pub returns-clause-plan : goal.returns-clause-plan
returns-clause-plan c =
    let xs = c.deref-process-items.result.now in
    let past : length xs ≤ c.loop-place.place = c.loop-place-test.false in
    let count : c.len.result + 1 ≡ suc c.loop-place.place = omega (arith, past, c.loop-place.auto.place-end, c.len.ensures, c.self.inside.processes.ok.0, ap length c.deref-process-items.ensures.value) in
    let all : take c.loop-place.place xs ≡ c.self.inside.processes.items = take_all c.loop-place.place xs past ∙ c.deref-process-items.ensures.value in
    let logs : lent (take (c.len.result + 1) c.loop-place.logs) ≡ logs_of c.args.self.now =
    ap (λ j. lent (take j c.loop-place.logs)) count ∙ c.loop-place.invariant.1
    ∙ ap (λ ys. c.self.inside.outside.log ∷ map (λ (x : TheProcess). x.outbox.log) ys) all ∙ ap logs_of c.self.view_is in
    subst (λ ls. IfOk c.collect_from.result (λ (plan : ThePlan). IsPlan (found ls c.args.p) c.args.receipts.now.senders plan.messages)) logs c.collect_from.ensures.plan
