-- The task of each slot.
use Rattle.std.proofs.Common.{◌≡◌, ℕ, zero, suc, ◌<◌, ◌≤◌, List, [], ◌∷◌, ◌++◌, Option, Some, length, refl, sym, ap, ◌∙◌, ⊎_elim, arith, length-append}
use Rattle.std.specs.Prelude.{slice_get}
use Rattle.std.proofs.lemmas.Bool.{cases_lt}
use Rattle.decode.specs.declared.insn.Insn.{Insn}
use Rattle.decode.specs.Slots.{insn_at}
use Rattle.native.specs.declared.task.SlotTask.{SlotTask}
use Rattle.native.specs.SpanTasks.{task_in, task_there, tasks_in}

pub tasks_long : (slots : List (Option Insn)) (len n : ℕ) → length (tasks_in slots len n) ≡ n
tasks_long slots len zero = refl
tasks_long slots len (suc n) = let a = length-append (tasks_in slots len n) (task_there len n (insn_at slots n) ∷ []) in omega (arith, a, tasks_long slots len n)

get_front : (xs : List SlotTask) (x : SlotTask) (k : ℕ) (t : SlotTask) → slice_get xs k ≡ Some t → slice_get (xs ++ x ∷ []) k ≡ Some t
get_front [] x k t h = cc
get_front (y ∷ xs) x zero t h = h
get_front (y ∷ xs) x (suc k) t h = get_front xs x k t h

get_last : (xs : List SlotTask) (x : SlotTask) (k : ℕ) → k ≡ length xs → slice_get (xs ++ x ∷ []) k ≡ Some x
get_last [] x zero h = refl
get_last [] x (suc k) h = absurd (omega (arith, h))
get_last (y ∷ xs) x zero h = absurd (omega (arith, h))
get_last (y ∷ xs) x (suc k) h = get_last xs x k (omega (arith, h))

-- the task of the instruction that begins there
pub task_found : (slots : List (Option Insn)) (len n s : ℕ) (i : Insn) → s < n → insn_at slots s ≡ Some i → slice_get (tasks_in slots len n) s ≡ Some (task_in len s i)
task_found slots len zero s i l h = absurd (omega (arith, l))
task_found slots len (suc n) s i l h =
    let t = task_there len n (insn_at slots n) in
    ⊎_elim
    (λ (b : s < n). get_front (tasks_in slots len n) t s (task_in len s i) (task_found slots len n s i b h))
    (λ (ge : n ≤ s).
    let e : n ≡ s = omega (arith, l, ge) in
    get_last (tasks_in slots len n) t s (sym e ∙ sym (tasks_long slots len n))
    ∙ ap Some (ap (λ m. task_there len m (insn_at slots m)) e ∙ ap (task_there len s) h))
    (cases_lt s n)
