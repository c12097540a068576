-- Calls of forms 1 and 2, slot by slot.
use Rattle.std.proofs.Common.{◌≡◌, ℕ, List, Option, Some, length, get_or, sym, ap, ◌∙◌, subst, arith}
use Rattle.std.specs.Prelude.{slice_get, slice_index}
use Rattle.std.proofs.lemmas.Option.{slice_get-get_or}
use Rattle.decode.specs.declared.insn.Insn.{Insn}
use Rattle.helpers.specs.declared.effects.Who.{Who}
use Rattle.helpers.specs.Effects.{Emitted}
use Rattle.dense.specs.declared.op.Op.{Op}
use Rattle.dense.specs.declared.op.Op.TheVariants as op
use Rattle.dense.specs.declared.execution.Next.{Next}
use Rattle.dense.specs.declared.execution.Next.TheVariants.{To, End}
use Rattle.dense.specs.Acts.{Act, Does, IsPerformed}
use Rattle.dense.proofs.FormActs.{performed}
use Rattle.dense.specs.Inside.Acts.{act_of}
use Rattle.regtypes.specs.declared.image_form.ImageForm.{ImageForm}
use Rattle.regtypes.specs.Typing.{Table}
use Rattle.verifier.specs.Least.{IsLeastTyping}
use Rattle.interp.specs.Flat.{IsHandledIn}
use Rattle.interp.proofs.FlatCalls.{Going, Ready, ended_in, going_next, in_ops, in_slots, later, op_within, there}
use Rattle.native.specs.declared.task.SlotTask.{SlotTask}
use Rattle.native.specs.declared.task.SlotTask.TheVariants as task
use Rattle.native.specs.Tasks.{task_act, TaskWithin, TaskReaches}
use Rattle.native.specs.Inside.Operations.{AreTold}
use Rattle.native.proofs.Reached.{has_code}
use Rattle.native.proofs.Successors.{Call}

-- what lies in the array at positions that no register holds, lies there whatever the registers hold
within_reaches : (words : List ℕ) (t : SlotTask) → TaskWithin t → TaskReaches 1792 words t
within_reaches words (task.Load size dst at) v = v
within_reaches words (task.LoadSx size dst at) v = v
within_reaches words (task.Store size src at) v = v
within_reaches words (task.StoreImm size at imm) v = v
within_reaches words (task.Send at) v = v
within_reaches words (task.Output at) v = v
within_reaches words (task.SendSized at) v = v
within_reaches words (task.OutputSized at) v = v
within_reaches words (task.LoadBy size dst base d) v = absurd v
within_reaches words (task.LoadSxBy size dst base d) v = absurd v
within_reaches words (task.StoreBy size src base d) v = absurd v
within_reaches words (task.StoreImmBy size base d imm) v = absurd v
within_reaches words task.SendBy v = absurd v
within_reaches words task.OutputBy v = absurd v
within_reaches words task.SendSizedBy v = absurd v
within_reaches words task.OutputSizedBy v = absurd v
within_reaches words task.Dead v = absurd v
within_reaches words (task.Compute o w dst b) v = tt
within_reaches words (task.Extend x dst src) v = tt
within_reaches words (task.Negate w dst) v = tt
within_reaches words (task.Reorder o b dst) v = tt
within_reaches words (task.Wide dst n) v = tt
within_reaches words (task.Branch x w dst o to) v = tt
within_reaches words (task.Leap to) v = tt
within_reaches words task.Me v = tt
within_reaches words task.From v = tt
within_reaches words task.Exit v = tt

module _ {form : ImageForm} {slots : List (Option Insn)} {table : Table} {m len low : ℕ} {first : List ℕ} {ops : List Op} {pool : List ℕ} (r : Ready form slots table m len low first ops pool) (who : Who) (least : IsLeastTyping form slots len table) (tasks : List SlotTask) (many : length tasks ≡ length slots) (told : AreTold table ops pool tasks (length slots)) where
  -- how such a call stands at a slot, and what it leaves
  abbrev pub Stand : List ℕ → List ℕ → ℕ → ℕ → Emitted → Type 0
  Stand words mem slot steps e = Going form slots table m len low who first words mem slot steps e

  abbrev pub Over : List ℕ → List ℕ → ℕ → Emitted → Type 0
  Over words mem steps e = IsHandledIn form slots who m len first mem e (slice_index words 0) steps

  -- its slot has a task, which does what the slot's operation does
  pub calls : (words mem : List ℕ) (slot steps : ℕ) (e : Emitted) → Stand words mem slot steps e → Call who tasks 1792 (length slots) Stand Over words mem slot steps e
  calls words mem slot steps e g =
      let o = get_or ops slot op.Dead in
      let w = in_ops r g in
      let x : slice_get ops slot ≡ Some o = slice_get-get_or ops slot op.Dead w in
      let y : slice_get ops slot ≡ Some (get_or ops slot o) = slice_get-get_or ops slot o w in
      let q : o ≡ get_or ops slot o = cc in
      let (t, is_task, eligible) = has_code form slots len table ops pool slot g.begins.fits.frame o least r.dense (there r g) x in
      let v = in_slots r g in
      let z = told slot v g.begins.fits.frame o t (there r g) x is_task in
      let found : slice_get tasks slot ≡ Some t = slice_get-get_or tasks slot task.Dead (omega (arith, v, many)) ∙ ap Some z.0 in
      let acts : act_of who pool slot words mem e o ≡ task_act who slot words mem e t = z.1.acts who slot words mem e in
      let as_performed : (to : Next) (words' mem' : List ℕ) (e' : Emitted) → Does slot words mem e (task_act who slot words mem e t) to words' mem' e' → IsPerformed who pool slot words mem e o (λ a. Does slot words mem e a to words' mem' e') = λ to words' mem' e' d.
      performed who pool slot words mem e o (λ a. Does slot words mem e a to words' mem' e') (subst (λ (a : Act). Does slot words mem e a to words' mem' e') (sym acts) d) in
      record {
        before = v;
        left = let s = g.few in omega (arith, v, s);
        array = g.begins.whole;
        this = t;
        there = found;
        eligible = eligible;
        reaches = within_reaches words t (z.1.within (op_within r g o q));
        fits = z.1.fits;
        next = λ to words' mem' e' d l.
            let d' = as_performed (To to) words' mem' e' d in
            (later r g o q to words' mem' e' d', going_next r g o q to words' mem' e' d' l);
        ends = λ d. ended_in r g o q words mem e (as_performed End words mem e d);
      }
