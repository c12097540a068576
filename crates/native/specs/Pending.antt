-- How many steps are pending at each slot: executed, but not yet added to the count in r11.
use Rattle.std.specs.Prelude.{ℕ, zero, suc, ◌+◌, Bool, false, ◌&&◌, ◌||◌, nat_lt, min, List, [], ◌∷◌, length, replicate, slice_index}
use Rattle.std.specs.Prelude.{slice_set, if◌then◌else◌, ◌≡◌, ◌-◌, ◌<◌, ◌≤◌, ◌^◌, Some, slice_get}
use Rattle.native.specs.declared.task.SlotTask.{SlotTask}
use Rattle.native.specs.declared.task.SlotTask.TheVariants as task
use Rattle.native.specs.SlotTasks.{task_at}

-- more than the steps of any call
abbrev pub far : ℕ
far = 0x40000000

-- the element exists, and is greater than v
abbrev pub is_more : List ℕ → ℕ → ℕ → Bool
is_more xs k v = nat_lt k (length xs) && nat_lt v (slice_index xs k)

-- the list after the element is lowered to v, if it was greater
abbrev pub lowered : List ℕ → ℕ → ℕ → List ℕ
lowered xs k v = if is_more xs k v then slice_set xs k v else xs

-- the least of a number and two elements
abbrev pub least : List ℕ → ℕ → ℕ → ℕ → ℕ
least xs j k v = min (min v (slice_index xs j)) (slice_index xs k)

-- lowering two elements to the least changes one of them
abbrev pub is_more_of_both : List ℕ → ℕ → ℕ → ℕ → Bool
is_more_of_both xs j k v = is_more xs j (least xs j k v) || is_more (lowered xs j (least xs j k v)) k (least xs j k v)

-- the list after two elements are lowered to the least
abbrev pub lowered_both : List ℕ → ℕ → ℕ → ℕ → List ℕ
lowered_both xs j k v = lowered (lowered xs j (least xs j k v)) k (least xs j k v)

-- the pending steps after the task of a slot
abbrev pub one_more : List ℕ → ℕ → ℕ
one_more xs slot = min (slice_index xs slot) far + 1

-- the list after the slots where a task leads are lowered: no more steps are pending there than after the task, and
-- equally many on both ways of a jump
abbrev pub lowered_behind : List ℕ → ℕ → SlotTask → List ℕ
lowered_behind xs slot (task.Branch x w dst o to) = lowered_both xs (slot + 1) to (one_more xs slot)
lowered_behind xs slot (task.Leap to) = lowered xs to (one_more xs slot)
lowered_behind xs slot task.Exit = xs
lowered_behind xs slot task.Dead = xs
lowered_behind xs slot (task.Wide dst value) = lowered xs (slot + 2) (one_more xs slot)
lowered_behind xs slot t = lowered xs (slot + 1) (one_more xs slot)

-- that lowers something
abbrev pub is_more_behind : List ℕ → ℕ → SlotTask → Bool
is_more_behind xs slot (task.Branch x w dst o to) = is_more_of_both xs (slot + 1) to (one_more xs slot)
is_more_behind xs slot (task.Leap to) = is_more xs to (one_more xs slot)
is_more_behind xs slot task.Exit = false
is_more_behind xs slot task.Dead = false
is_more_behind xs slot (task.Wide dst value) = is_more xs (slot + 2) (one_more xs slot)
is_more_behind xs slot t = is_more xs (slot + 1) (one_more xs slot)

-- the list after the first n tasks, one after another
abbrev pub passed : List SlotTask → List ℕ → ℕ → List ℕ
passed tasks xs zero = xs
passed tasks xs (suc n) = lowered_behind (passed tasks xs n) n (task_at tasks n)

-- these lower something
abbrev pub is_passed : List SlotTask → List ℕ → ℕ → Bool
is_passed tasks xs zero = false
is_passed tasks xs (suc n) = is_passed tasks xs n || is_more_behind (passed tasks xs n) n (task_at tasks n)

-- at most n passes, until nothing is lowered; if that isn't enough, no step is ever pending: each is counted at once
abbrev pub settled : List SlotTask → ℕ → List ℕ → List ℕ
settled tasks zero xs = []
settled tasks (suc n) xs =
    if is_passed tasks xs (length tasks) then settled tasks n (passed tasks xs (length tasks)) else passed tasks xs (length tasks)

-- how many steps aren't counted yet where each slot begins
abbrev pub pending_in : List SlotTask → List ℕ
pending_in tasks = settled tasks 16 (0 ∷ replicate (length tasks) far)

-- how many slots a task takes
abbrev pub taken : SlotTask → ℕ
taken (task.Wide dst value) = 2
taken t = 1

-- where a task leads, at most one more step is pending than at its slot, and equally many on both ways of a jump
abbrev pub IsBalanced : List ℕ → ℕ → SlotTask → Type 0
IsBalanced pending slot (task.Branch x w dst o to) =
    (slice_index pending (slot + 1) ≤ slice_index pending slot + 1) × (slice_index pending (slot + 1) ≡ slice_index pending to)
IsBalanced pending slot (task.Leap to) = slice_index pending to ≤ slice_index pending slot + 1
IsBalanced pending slot task.Exit = Unit {0}
IsBalanced pending slot task.Dead = Unit {0}
IsBalanced pending slot t = slice_index pending (slot + taken t) ≤ slice_index pending slot + 1

-- each task is balanced
abbrev pub AreBalanced : List SlotTask → List ℕ → Type 0
AreBalanced tasks pending = (k : ℕ) (t : SlotTask) → slice_get tasks k ≡ Some t → IsBalanced pending k t

-- what is known of the steps that are pending at each slot
pub record ArePending (tasks : List SlotTask) (pending : List ℕ) : Type 0 where
  pub begins : slice_index pending 0 ≡ 0
  pub small : (k : ℕ) → slice_index pending k < 2 ^ 31 - 2
  pub each : AreBalanced tasks pending
