-- To which slots a call may come from elsewhere than the slot before.
use Rattle.std.specs.Prelude.{ℕ, zero, suc, ◌+◌, Bool, true, false, List, length, replicate, slice_index_or, slice_set}
use Rattle.native.specs.declared.task.SlotTask.{SlotTask}
use Rattle.native.specs.declared.task.SlotTask.TheVariants as task

-- a task marks the slot where it leads, if that isn't the next one
abbrev pub marked_by : List Bool → ℕ → SlotTask → List Bool
marked_by xs slot (task.Branch x w dst o to) = slice_set xs to true
marked_by xs slot (task.Leap to) = slice_set xs to true
marked_by xs slot (task.Wide dst value) = slice_set xs (slot + 2) true
marked_by xs slot t = xs

-- the marks of the first n tasks
abbrev pub marked : List SlotTask → ℕ → List Bool
marked tasks zero = replicate (length tasks) false
marked tasks (suc n) = marked_by (marked tasks n) n (slice_index_or tasks n task.Dead)

-- the marks of all tasks
abbrev pub targets_in : List SlotTask → List Bool
targets_in tasks = marked tasks (length tasks)
