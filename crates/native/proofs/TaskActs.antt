-- The task of an operation does what the operation does.
use Rattle.std.proofs.Common.{◌≡◌, ℕ, ◌<◌, ◌^◌, Bool, true, false, cond, List, Option, Some, None, length, refl, sym, subst}
use Rattle.std.specs.Prelude.{IfSome, nat_lt, slice_index}
use Rattle.helpers.specs.declared.effects.Who.{Who}
use Rattle.helpers.specs.Effects.{Emitted}
use Rattle.dense.specs.declared.op.Op.{Op}
use Rattle.dense.specs.declared.op.Op.TheVariants as op
use Rattle.dense.specs.Acts.{IsWithin}
use Rattle.dense.specs.Inside.Acts.{act_of}
use Rattle.native.specs.declared.task.SlotTask.{SlotTask}
use Rattle.native.specs.declared.task.SlotTask.TheVariants as task
use Rattle.native.specs.Inside.Operations.{task_for, IsTaskOf}
use Rattle.native.specs.Tasks.{task_act, TaskWithin, TaskFits}

module _ (pool : List ℕ) (words : (k : ℕ) → slice_index pool k < 2 ^ 64) where
  is_task_of : (o : Op) → IfSome (task_for pool o) (IsTaskOf pool o)
  is_task_of (op.Wide dst at) = by_test (nat_lt at (length pool))
    where
      by_test : (b : Bool) → IfSome (cond b (Some (task.Wide dst (slice_index pool at))) None) (IsTaskOf pool (op.Wide dst at))
      by_test true = record { acts = λ who slot ws mem e. refl; within = λ h. tt; fits = words at }
      by_test false = tt
  is_task_of o = record { acts = λ who slot ws mem e. refl; within = λ h. h; fits = tt }

  -- so is a task that was found
  pub found : (o : Op) (r : Option SlotTask) → r ≡ task_for pool o → IfSome r (IsTaskOf pool o)
  found o r e = subst (λ x. IfSome x (IsTaskOf pool o)) (sym e) (is_task_of o)

-- what is known of it, part by part
module _ (pool : List ℕ) (o : Op) where
  pub its_acts : (r : Option SlotTask) → IfSome r (IsTaskOf pool o) → IfSome r (λ t. (who : Who) (slot : ℕ) (ws mem : List ℕ) (e : Emitted) → act_of who pool slot ws mem e o ≡ task_act who slot ws mem e t)
  its_acts (Some t) h = h.acts
  its_acts None h = tt

  pub its_bytes : (r : Option SlotTask) → IfSome r (IsTaskOf pool o) → IfSome r (λ t. IsWithin (length pool) o → TaskWithin t)
  its_bytes (Some t) h = h.within
  its_bytes None h = tt

  pub its_numbers : (r : Option SlotTask) → IfSome r (IsTaskOf pool o) → IfSome r TaskFits
  its_numbers (Some t) h = h.fits
  its_numbers None h = tt
