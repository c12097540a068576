-- Two slots that one instruction serves, and that no task leads to the second of them but the first.
use Rattle.std.proofs.Common.{◌≡◌, ◌≢◌, ℕ, zero, suc, ◌+◌, ◌-◌, ◌<◌, ◌≤◌, ℤ, Bool, true, false, cond, List, [], ◌∷◌, length, Some, None, refl, sym, ap, ◌∙◌, subst, ⊎_elim, arith}
use Rattle.std.specs.Prelude.{◌==◌, ◌&&◌, nat_lt, is_some, slice_get, slice_set, slice_index, slice_index_or}
use Rattle.std.proofs.lemmas.Bool.{cases_eq, cases_lt, and_parts, true≢false}
use Rattle.std.proofs.lemmas.Bool.Decides.{nat_tests}
use Rattle.std.proofs.lemmas.List.{get_or_past}
use Rattle.std.proofs.lemmas.Option.{slice_get-get_or, slice_get_within}
use Rattle.decode.specs.declared.insn.AluOp.TheVariants as op
use Rattle.decode.specs.declared.insn.Width.TheVariants.{W64}
use Rattle.decode.specs.declared.insn.Operand.TheVariants as operand
use Rattle.decode.specs.declared.insn.Reg.{Reg}
use Rattle.operations.specs.Operations.{word_of, holds}
use Rattle.helpers.specs.declared.effects.Who.{Who}
use Rattle.helpers.specs.Effects.{Emitted}
use Rattle.dense.specs.declared.execution.Next.TheVariants.{To, End}
use Rattle.dense.specs.Acts.{Does}
use Rattle.x86.specs.declared.instruction.Instr.{Instr}
use Rattle.x86.specs.declared.instruction.Instr.TheVariants as instr
use Rattle.native.specs.declared.task.SlotTask.{SlotTask}
use Rattle.native.specs.declared.task.SlotTask.TheVariants as task
use Rattle.native.specs.Tasks.{operand_of, task_act, holds_word, is_eligible}
use Rattle.native.specs.SlotTasks.{task_at}
use Rattle.native.specs.Code.{gpr}
use Rattle.native.specs.Pending.{ArePending}
use Rattle.native.specs.Targets.{marked_by, marked, targets_in}
use Rattle.native.specs.Fusion.{sum_of, fused, is_covered}
use Rattle.native.proofs.Computations.{word_register}

-- ---- the tasks of fused slots

-- a register is copied, and a number is added to the copy: this instruction does both
pub record IsSum (t u : SlotTask) (i : Instr) : Type 0 where
  pub dst : Reg
  pub src : Reg
  pub again : Reg
  pub imm : ℤ
  pub first : t ≡ task.Compute op.Mov W64 dst (operand.Reg src)
  pub second : u ≡ task.Compute op.Add W64 again (operand.Imm imm)
  pub alike : dst.number ≡ again.number
  pub to : dst.number < 10
  pub from : src.number < 10
  pub is : i ≡ instr.Lea (gpr dst.number) (gpr src.number) (word_of imm)

sum_is : (t u : SlotTask) (i : Instr) → sum_of t u ≡ Some i → IsSum t u i
sum_is (task.Compute op.Mov W64 d (operand.Reg s)) (task.Compute op.Add W64 e (operand.Imm z)) i h =
    by_test ((d.number == e.number) && (holds_word d.number && holds_word s.number)) refl h
  where
    by_test : (b : Bool) → ((d.number == e.number) && (holds_word d.number && holds_word s.number)) ≡ b → cond b (Some (instr.Lea (gpr d.number) (gpr s.number) (word_of z))) None ≡ Some i → IsSum (task.Compute op.Mov W64 d (operand.Reg s)) (task.Compute op.Add W64 e (operand.Imm z)) i
    by_test true t h =
        let x = and_parts (d.number == e.number) (holds_word d.number && holds_word s.number) t in
        let y = and_parts (holds_word d.number) (holds_word s.number) x.1 in
        let same = x.0 in
        record {
          dst = d;
          src = s;
          again = e;
          imm = z;
          first = refl;
          second = refl;
          alike = grind (arith, nat_tests);
          to = word_register d.number y.0;
          from = word_register s.number y.1;
          is = cc;
        }
    by_test false t h = let x : None ≡ Some i = h in cc
sum_is (task.Compute op.Mov W64 d (operand.Reg s)) u i h = let x : None ≡ Some i = h in cc
sum_is t u i h = let x : None ≡ Some i = h in cc

module _ (tasks : List SlotTask) (slot : ℕ) (i : Instr) (e : fused tasks slot ≡ Some i) where
  pub fused_sum : IsSum (task_at tasks slot) (task_at tasks (slot + 1)) i
  fused_sum = by_test (slice_index_or (targets_in tasks) (slot + 1) true) e
    where
      by_test : (b : Bool) → cond b None (sum_of (task_at tasks slot) (task_at tasks (slot + 1))) ≡ Some i → IsSum (task_at tasks slot) (task_at tasks (slot + 1)) i
      by_test true h = let x : None ≡ Some i = h in cc
      by_test false h = sum_is (task_at tasks slot) (task_at tasks (slot + 1)) i h

  -- the second of them isn't fused with a third
  fused_alone : fused tasks (slot + 1) ≡ None
  fused_alone = by_test (slice_index_or (targets_in tasks) (slot + 1 + 1) true)
    where
      by_test : (b : Bool) → cond b None (sum_of (task_at tasks (slot + 1)) (task_at tasks (slot + 1 + 1))) ≡ None
      by_test true = refl
      by_test false = ap (λ t. sum_of t (task_at tasks (slot + 1 + 1))) fused_sum.second

-- a task found in the list is the task of that slot
pub found_at : (tasks : List SlotTask) (k : ℕ) (t : SlotTask) → slice_get tasks k ≡ Some t → task_at tasks k ≡ t
found_at tasks k t f =
    let x : Some (task_at tasks k) ≡ Some t = sym (slice_get-get_or tasks k task.Dead (slice_get_within tasks k t f)) ∙ f in
    cc

-- a task other than `Dead` is found in the list
found_in : (tasks : List SlotTask) (k : ℕ) (t : SlotTask) → task_at tasks k ≡ t → t ≢ task.Dead → slice_get tasks k ≡ Some t
found_in tasks k t e n = ⊎_elim
    (λ l. slice_get-get_or tasks k task.Dead l ∙ ap Some e)
    (λ g. absurd (n (sym e ∙ get_or_past tasks k task.Dead g)))
    (cases_lt k (length tasks))

-- after two fused slots at most two more steps are pending than before them
pub fused_balanced : (tasks : List SlotTask) (pending : List ℕ) (slot : ℕ) (i : Instr) → ArePending tasks pending → fused tasks slot ≡ Some i → slice_index pending (slot + 2) ≤ slice_index pending slot + 2
fused_balanced tasks pending slot i a e =
    let s = fused_sum tasks slot i e in
    let t = task.Compute op.Mov W64 s.dst (operand.Reg s.src) in
    let u = task.Compute op.Add W64 s.again (operand.Imm s.imm) in
    let x : slice_index pending (slot + 1) ≤ slice_index pending slot + 1 = a.each slot t (found_in tasks slot t s.first (λ z. cc)) in
    let y : slice_index pending (slot + 1 + 1) ≤ slice_index pending (slot + 1) + 1 = a.each (slot + 1) u (found_in tasks (slot + 1) u s.second (λ z. cc)) in
    let n : slot + 2 ≡ slot + 1 + 1 = omega arith in
    let z : slice_index pending (slot + 2) ≡ slice_index pending (slot + 1 + 1) = ap (slice_index pending) n in
    omega arith

-- ---- slots that tasks lead to

abbrev Leads : ℕ → SlotTask → ℕ → Type 0
Leads slot (task.Branch x w dst o to) k = k ≡ to
Leads slot (task.Leap to) k = k ≡ to
Leads slot (task.Wide dst v) k = k ≡ slot + 2
Leads slot t k = ⊥

-- a slot that is marked, or past the end
abbrev IsMarked : List Bool → ℕ → Type 0
IsMarked xs k = slice_index_or xs k true ≡ true

set_marks : (xs : List Bool) (k : ℕ) → IsMarked (slice_set xs k true) k
set_marks [] k = refl
set_marks (x ∷ xs) zero = refl
set_marks (x ∷ xs) (suc k) = set_marks xs k

set_stays : (xs : List Bool) (j k : ℕ) → IsMarked xs k → IsMarked (slice_set xs j true) k
set_stays [] j k h = h
set_stays (x ∷ xs) zero zero h = refl
set_stays (x ∷ xs) zero (suc k) h = h
set_stays (x ∷ xs) (suc j) zero h = h
set_stays (x ∷ xs) (suc j) (suc k) h = set_stays xs j k h

marks : (xs : List Bool) (slot : ℕ) (t : SlotTask) (k : ℕ) → Leads slot t k → IsMarked (marked_by xs slot t) k
marks xs slot (task.Branch x w dst o to) k h = subst (λ j. IsMarked (slice_set xs j true) k) h (set_marks xs k)
marks xs slot (task.Leap to) k h = subst (λ j. IsMarked (slice_set xs j true) k) h (set_marks xs k)
marks xs slot (task.Wide dst v) k h = subst (λ j. IsMarked (slice_set xs j true) k) h (set_marks xs k)
marks xs slot t k h = absurd h

stays : (xs : List Bool) (slot : ℕ) (t : SlotTask) (k : ℕ) → IsMarked xs k → IsMarked (marked_by xs slot t) k
stays xs slot (task.Branch x w dst o to) k h = set_stays xs to k h
stays xs slot (task.Leap to) k h = set_stays xs to k h
stays xs slot (task.Wide dst v) k h = set_stays xs (slot + 2) k h
stays xs slot t k h = h

marked_at : (tasks : List SlotTask) (n slot k : ℕ) → slot < n → Leads slot (task_at tasks slot) k → IsMarked (marked tasks n) k
marked_at tasks zero slot k l h = absurd (omega arith)
marked_at tasks (suc n) slot k l h = ⊎_elim
    (λ e. marks (marked tasks n) n (task_at tasks n) k (subst (λ j. Leads j (task_at tasks j) k) e h))
    (λ e. stays (marked tasks n) n (task_at tasks n) k (marked_at tasks n slot k (omega arith) h))
    (cases_eq slot n)

-- ---- slots where a call stands

and_false : (b : Bool) → (b && false) ≡ false
and_false true = refl
and_false false = refl

-- behind a slot that isn't fused none is covered
covered_next : (tasks : List SlotTask) (slot : ℕ) → fused tasks slot ≡ None → is_covered tasks (slot + 1) ≡ false
covered_next tasks slot h =
    let e : slot + 1 - 1 ≡ slot = omega arith in
    ap (λ o. nat_lt 0 (slot + 1) && is_some o) (ap (fused tasks) e ∙ h) ∙ and_false (nat_lt 0 (slot + 1))

-- nor behind both of two that are
pub covered_behind : (tasks : List SlotTask) (slot : ℕ) (i : Instr) → fused tasks slot ≡ Some i → is_covered tasks (slot + 2) ≡ false
covered_behind tasks slot i e =
    let n : slot + 1 + 1 ≡ slot + 2 = omega arith in
    subst (λ k. is_covered tasks k ≡ false) n (covered_next tasks (slot + 1) (fused_alone tasks slot i e))

-- nor where a task leads
covered_target : (tasks : List SlotTask) (slot to : ℕ) (t : SlotTask) → slice_get tasks slot ≡ Some t → Leads slot t to → is_covered tasks to ≡ false
covered_target tasks slot to t f h = by_test (nat_lt 0 to) refl
  where
    marked_there : IsMarked (targets_in tasks) to
    marked_there =
        marked_at tasks (length tasks) slot to (slice_get_within tasks slot t f) (subst (λ u. Leads slot u to) (sym (found_at tasks slot t f)) h)

    by_test : (b : Bool) → nat_lt 0 to ≡ b → (b && is_some (fused tasks (to - 1))) ≡ false
    by_test true e =
        let l : 0 < to = grind (arith, nat_tests) in
        let n : to ≡ to - 1 + 1 = omega arith in
        ap (λ b. is_some (cond b None (sum_of (task_at tasks (to - 1)) (task_at tasks (to - 1 + 1))))) (subst (IsMarked (targets_in tasks)) n marked_there)
    by_test false e = refl

module _ (who : Who) (tasks : List SlotTask) (slot : ℕ) (words mem : List ℕ) (e : Emitted) (none : fused tasks slot ≡ None) (to : ℕ) (words' mem' : List ℕ) (e' : Emitted) where
  falls_there : To to ≡ To (slot + 1) → is_covered tasks to ≡ false
  falls_there x = let n : slot + 1 ≡ to = cc in subst (λ k. is_covered tasks k ≡ false) n (covered_next tasks slot none)

  -- so from a slot that isn't fused a call comes to one that isn't covered
  pub uncovered : (t : SlotTask) → slice_get tasks slot ≡ Some t → is_eligible slot t ≡ true → Does slot words mem e (task_act who slot words mem e t) (To to) words' mem' e' → is_covered tasks to ≡ false
  uncovered (task.Branch x w dst o at) f eligible d = by_test (holds x w (slice_index words dst.number) (operand_of words o)) d.0
    where
      by_test : (b : Bool) → To to ≡ To (cond b at (slot + 1)) → is_covered tasks to ≡ false
      by_test true g = covered_target tasks slot to (task.Branch x w dst o at) f (let n : to ≡ at = cc in n)
      by_test false g = falls_there g
  uncovered (task.Leap at) f eligible d = covered_target tasks slot to (task.Leap at) f (let x : To to ≡ To at = d.0 in let n : to ≡ at = cc in n)
  uncovered (task.Wide dst v) f eligible d = covered_target tasks slot to (task.Wide dst v) f (let x : To to ≡ To (slot + 2) = d.0 in let n : to ≡ slot + 2 = cc in n)
  uncovered task.Exit f eligible d = let x : To to ≡ End = d.0 in cc
  uncovered task.Dead f eligible d = absurd (true≢false (sym eligible))
  uncovered t f eligible d = falls_there d.0
