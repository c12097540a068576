-- Slots have one machine code.
use Rattle.std.proofs.Common.{◌≡◌, ℕ, zero, suc, ◌+◌, ◌-◌, Bool, true, false, List, [], ◌∷◌, ◌++◌, length, Option, Some, None, refl, sym, ap, ◌∙◌, subst, arith}
use Rattle.std.specs.Prelude.{slice_set}
use Rattle.decode.specs.declared.insn.AluOp.TheVariants as op
use Rattle.decode.specs.declared.insn.Insn.{Insn}
use Rattle.decode.specs.Slots.{insn_at}
use Rattle.regtypes.specs.declared.image_form.ImageForm.{ImageForm}
use Rattle.regtypes.specs.declared.frame.Frame.{Frame}
use Rattle.regtypes.specs.Frame.{Leq}
use Rattle.regtypes.specs.Typing.{Table, frame_at}
use Rattle.regtypes.proofs.Monotone.{Leq-antisym}
use Rattle.verifier.specs.Least.{IsLeastTyping}
use Rattle.x86.specs.declared.instruction.Instr.{Instr}
use Rattle.native.specs.declared.body.Body.{Body}
use Rattle.native.specs.declared.body.Body.TheVariants.{Empty, One, Two, Three}
use Rattle.native.specs.declared.saved_registers.SavedRegisters.{SavedRegisters}
use Rattle.native.specs.declared.prologue.Opening.{Opening}
use Rattle.native.specs.declared.prologue.Opening.TheVariants as opening
use Rattle.native.specs.declared.task.SlotTask.{SlotTask}
use Rattle.native.specs.declared.task.SlotTask.TheVariants as task
use Rattle.native.specs.Tasks.{is_eligible}
use Rattle.native.specs.Code.{codes, body_of, IsBody}
use Rattle.native.specs.SlotCode.{flushed, skipped, jump_code, jump_if_code, IsDone, Counts, Reaches, Plain, Serves}
use Rattle.native.specs.Openings.{leaving, entering_by}
use Rattle.native.specs.Comparison.{condition_of, compare_code}
use Rattle.native.specs.Pending.{taken, pending_in}
use Rattle.native.specs.Fusion.{fused, is_covered}
use Rattle.native.specs.Laid.{Fuses, ServesBy, IsPiece}
use Rattle.native.specs.Saved.{saved_for}
use Rattle.native.specs.SlotTasks.{task_at, task_there, tasks_in}
use Rattle.native.specs.Written.{Stacks, IsWritten, IsOneCode}

-- ---- a slot's code

body_one : (b : Body) (is js : List Instr) → IsBody b is → IsBody b js → is ≡ js
body_one Empty is js h k = h ∙ sym k
body_one (One i) is js h k = h ∙ sym k
body_one (Two i j) is js h k = h ∙ sym k
body_one (Three i j k) is js h l = h ∙ sym l

done_one : (t : SlotTask) (is js : List Instr) → IsDone t is → IsDone t js → is ≡ js
done_one (task.Send at) is js h k = h ∙ sym k
done_one (task.Output at) is js h k = h ∙ sym k
done_one (task.SendSized at) is js h k = h ∙ sym k
done_one (task.OutputSized at) is js h k = h ∙ sym k
done_one task.SendBy is js h k = h ∙ sym k
done_one task.OutputBy is js h k = h ∙ sym k
done_one task.SendSizedBy is js h k = h ∙ sym k
done_one task.OutputSizedBy is js h k = h ∙ sym k
done_one (task.Compute op.Div w dst o) is js h k = h ∙ sym k
done_one (task.Compute op.Mod w dst o) is js h k = h ∙ sym k
done_one (task.Compute op.Sdiv w dst o) is js h k = h ∙ sym k
done_one (task.Compute op.Smod w dst o) is js h k = h ∙ sym k
done_one t is js h k = body_one (body_of t) is js h k

counts_one : (pending : List ℕ) (slot to k l : ℕ) → Counts pending slot to k → Counts pending slot to l → k ≡ l
counts_one pending slot to k l a b = let x = a.sums in let y = b.sums in omega arith

reaches_one : (tails : List ℕ) (slot to d e : ℕ) → Reaches tails slot to d → Reaches tails slot to e → d ≡ e
reaches_one tails slot to d e a b = let x = a.sums in let y = b.sums in omega arith

plain_one : (pending tails : List ℕ) (slot : ℕ) (t : SlotTask) (is js : List Instr) → Plain pending tails slot t is → Plain pending tails slot t js → is ≡ js
plain_one pending tails slot t is js a b =
    a.is_are
    ∙ ap (λ x. x ++ (flushed a.k ++ skipped a.d)) (done_one t a.bs b.bs a.done b.done)
    ∙ ap (λ k. b.bs ++ (flushed k ++ skipped a.d)) (counts_one pending slot (slot + taken t) a.k b.k a.counts b.counts)
    ∙ ap (λ d. b.bs ++ (flushed b.k ++ skipped d)) (reaches_one tails slot (slot + taken t) a.d b.d a.reaches b.reaches)
    ∙ sym b.is_are

serves_one : (pending tails : List ℕ) (saved : SavedRegisters) (slot : ℕ) (t : SlotTask) (is js : List Instr) → Serves pending tails saved slot t is → Serves pending tails saved slot t js → is ≡ js
serves_one pending tails saved slot (task.Branch x w dst o to) is js a b =
    a.is_are
    ∙ ap (λ k. flushed k ++ compare_code x w dst.number o ∷ jump_if_code (condition_of x) a.d ∷ []) (counts_one pending slot to a.k b.k a.takes b.takes)
    ∙ ap (λ d. flushed b.k ++ compare_code x w dst.number o ∷ jump_if_code (condition_of x) d ∷ []) (reaches_one tails slot to a.d b.d a.reaches b.reaches)
    ∙ sym b.is_are
serves_one pending tails saved slot (task.Leap to) is js a b =
    a.is_are
    ∙ ap (λ k. flushed k ++ jump_code a.d ∷ []) (counts_one pending slot to a.k b.k a.takes b.takes)
    ∙ ap (λ d. flushed b.k ++ jump_code d ∷ []) (reaches_one tails slot to a.d b.d a.reaches b.reaches)
    ∙ sym b.is_are
serves_one pending tails saved slot task.Exit is js a b =
    a.is_are ∙ ap (λ k. flushed k ++ leaving saved) (a.sums ∙ sym b.sums) ∙ sym b.is_are
serves_one pending tails saved slot task.Dead is js a b = a ∙ sym b
serves_one pending tails saved slot t is js a b = plain_one pending tails slot t is js a b

fused_one : (pending tails : List ℕ) (slot : ℕ) (i : Instr) (u : SlotTask) (is js : List Instr) → Fuses pending tails slot i u is → Fuses pending tails slot i u js → is ≡ js
fused_one pending tails slot i u is js a b =
    let k : a.k ≡ b.k = let x = a.sums in let y = b.sums in omega arith in
    a.is_are
    ∙ ap (λ k. i ∷ (flushed k ++ skipped a.d)) k
    ∙ ap (λ d. i ∷ (flushed b.k ++ skipped d)) (reaches_one tails slot (slot + 2) a.d b.d a.reaches b.reaches)
    ∙ sym b.is_are

slot_one : (o : Option Instr) (tasks : List SlotTask) (pending tails : List ℕ) (saved : SavedRegisters) (slot : ℕ) (t : SlotTask) (is js : List Instr) → ServesBy o tasks pending tails saved slot t is → ServesBy o tasks pending tails saved slot t js → is ≡ js
slot_one None tasks pending tails saved slot t is js a b = serves_one pending tails saved slot t is js a b
slot_one (Some i) tasks pending tails saved slot t is js a b = fused_one pending tails slot i (task_at tasks (slot + 1)) is js a b

piece_one : (tasks : List SlotTask) (pending tails : List ℕ) (saved : SavedRegisters) (slot : ℕ) (t : SlotTask) (p q : List ℕ) → IsPiece tasks pending tails saved slot t p → IsPiece tasks pending tails saved slot t q → p ≡ q
piece_one tasks pending tails saved slot t p q a b = by_test (is_covered tasks slot) (is_eligible slot t) refl refl
  where
    by_test : (u v : Bool) → is_covered tasks slot ≡ u → is_eligible slot t ≡ v → p ≡ q
    by_test true v covered eligible = a.covered covered ∙ sym (b.covered covered)
    by_test false true covered eligible =
        let x = a.serves covered eligible in
        let y = b.serves covered eligible in
        x.2 ∙ ap codes (slot_one (fused tasks slot) tasks pending tails saved slot t x.0 y.0 x.1 y.1) ∙ sym y.2
    by_test false false covered eligible = a.none eligible ∙ sym (b.none eligible)

-- ---- the code of tasks

stacks_one : (o : Opening) (tasks : List SlotTask) (n : ℕ) (tails tails' code code' : List ℕ) → Stacks o tasks n tails code → Stacks o tasks n tails' code' → (tails ≡ tails') × (code ≡ code')
stacks_one o tasks zero tails tails' code code' a b = (a.0 ∙ sym b.0, a.1 ∙ sym b.1)
stacks_one o tasks (suc n) tails tails' code code' (ts, cs, p, s, is, t, c) (ts', cs', p', s', is', t', c') =
    let slot = length tasks - suc n in
    let x = stacks_one o tasks n ts ts' cs cs' s s' in
    let y : p ≡ p' = piece_one tasks (pending_in tasks) ts' (saved_for o tasks) slot (task_at tasks slot) p p' (subst (λ l. IsPiece tasks (pending_in tasks) l (saved_for o tasks) slot (task_at tasks slot) p) x.0 is) is' in (
      t ∙ ap (λ l. slice_set l slot (length p + length cs)) x.0 ∙ ap (λ l. slice_set ts' slot (length l + length cs)) y ∙ ap (λ l. slice_set ts' slot (length p' + length l)) x.1 ∙ sym t',
      c ∙ ap (λ l. l ++ cs) y ∙ ap (λ l. p' ++ l) x.1 ∙ sym c',
    )

-- tasks have one machine code
pub written_one : (o : Opening) (tasks : List SlotTask) (code code' : List ℕ) → IsWritten o tasks code → IsWritten o tasks code' → code ≡ code'
written_one o tasks code code' a b =
    a.is ∙ ap (λ l. codes (entering_by o (saved_for o tasks)) ++ l) (stacks_one o tasks (length tasks) a.tails b.tails a.rest b.rest a.stacks b.stacks).1 ∙ sym b.is

-- ---- the code of slots

-- two least typings have the same frame of each slot
module _ (form : ImageForm) (slots : List (Option Insn)) (len : ℕ) (t u : Table) (a : IsLeastTyping form slots len t) (b : IsLeastTyping form slots len u) where
  same_frame : (s : ℕ) → frame_at t s ≡ frame_at u s
  same_frame s = by_frame (frame_at t s) refl
    where
      by_frame : (x : Option Frame) → frame_at t s ≡ x → frame_at t s ≡ frame_at u s
      by_frame (Some g) e =
          let (h, there, le) = a.least (frame_at u) b.types s g e in
          let (k, again, ge) = b.least (frame_at t) a.types s h there in
          let same : g ≡ k = let x : Some g ≡ Some k = sym e ∙ again in cc in
          let q : g ≡ h = Leq-antisym g h ((a.types.stands s g e).whole ∙ sym (b.types.stands s h there).whole) le (subst (Leq h) (sym same) ge) in
          e ∙ ap Some q ∙ sym there
      by_frame None e = e ∙ none (frame_at u s) refl
        where
          none : (y : Option Frame) → frame_at u s ≡ y → None ≡ frame_at u s
          none None f = sym f
          none (Some h) f =
              let (k, again, ge) = b.least (frame_at t) a.types s h f in
              cc

  same_tasks : (n : ℕ) → tasks_in slots t len n ≡ tasks_in slots u len n
  same_tasks zero = refl
  same_tasks (suc n) =
      ap (λ xs. xs ++ task_there len n (frame_at t n) (insn_at slots n) ∷ []) (same_tasks n)
      ∙ ap (λ f. tasks_in slots u len n ++ task_there len n f (insn_at slots n) ∷ []) (same_frame n)

pub one_code : IsOneCode
one_code form slots len code code' a b =
    let e = same_tasks form slots len a.table b.table a.least b.least (length slots) in
    written_one opening.Bare (tasks_in slots b.table len (length slots)) code code' (subst (λ ts. IsWritten opening.Bare ts code) e a.written) b.written
