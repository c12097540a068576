-- Each operation that a call comes to has a task that there is code for.
use Rattle.std.proofs.Common.{◌≡◌, ◌≢◌, ℕ, zero, suc, ◌+◌, ◌≤◌, Bool, true, false, not, cond, List, [], ◌∷◌, length, map, Option, Some, None, ℤ, pos, negsuc, ◌+ℤ◌, refl, sym, ap, ◌∙◌, subst, ⊎_elim, arith}
use Rattle.std.specs.Prelude.{◌==◌, ◌&&◌, nat_lt, slice_get, slice_set, slice_index}
use Rattle.std.specs.List.{AllByRecursion}
use Rattle.std.specs.Option.{option_map_or}
use Rattle.std.proofs.lemmas.Bool.{false≢true, cases_lt}
use Rattle.std.proofs.lemmas.Bool.Decides.{nat_tests}
use Rattle.std.proofs.lemmas.List.{get_or-drop, get_or-set_other}
use Rattle.decode.specs.declared.insn.AluOp.{AluOp}
use Rattle.decode.specs.declared.insn.AluOp.TheVariants as alu
use Rattle.decode.specs.declared.insn.Width.{Width}
use Rattle.decode.specs.declared.insn.Width.TheVariants.{W32, W64}
use Rattle.decode.specs.declared.insn.Operand.{Operand}
use Rattle.decode.specs.declared.insn.Operand.TheVariants as operand
use Rattle.decode.specs.declared.insn.Reg.{Reg}
use Rattle.decode.specs.declared.insn.Insn.{Insn}
use Rattle.decode.specs.declared.insn.Insn.TheVariants.{Alu, MovSx, Neg, End, Jump, JumpLong, JumpIf, Call, Exit, Load, LoadSx, StoreReg, StoreImm, Wide}
use Rattle.regtypes.specs.declared.image_form.ImageForm.{ImageForm}
use Rattle.regtypes.specs.declared.image_form.ImageForm.TheVariants.{Sbi1, Sbi2}
use Rattle.regtypes.specs.declared.frame.Kind.{Kind}
use Rattle.regtypes.specs.declared.frame.Kind.TheVariants.{Unset, Num, Len, Place}
use Rattle.regtypes.specs.declared.frame.Frame.{Frame}
use Rattle.decode.specs.declared.flow.Flow.{Flow}
use Rattle.decode.specs.declared.flow.Flow.TheVariants as flow
use Rattle.regtypes.specs.Frame.{kind_at, is_num, entry_frame, LeqKind}
use Rattle.decode.specs.Flow.{flow_of}
use Rattle.regtypes.specs.Exits.{exits_by}
use Rattle.regtypes.specs.Ways.{after, after_called, given, next, taken}
use Rattle.regtypes.specs.Rules.{is_unset, is_place, is_frame_pointer, has, called}
use Rattle.regtypes.specs.Typing.{Table, frame_at, Enters, IsTyping, is_target}
use Rattle.decode.specs.declared.alu_form.Form.{Form}
use Rattle.decode.specs.declared.alu_form.Form.TheVariants.{Copies, Moves, Sets, Computes}
use Rattle.decode.specs.AluForm.{form_of}
use Rattle.decode.specs.declared.attributes.Attributes.{Attributes}
use Rattle.decode.specs.Attributes.{attributes_of, alu_attributes}
use Rattle.regtypes.proofs.Parts.{jump_tests, writes_frame_pointer}
use Rattle.regtypes.proofs.Monotone.{none_holds}
use Rattle.verifier.specs.Least.{IsLeastTyping}
use Rattle.verifier.proofs.LeastTypings.{of_typing, typing_of}
use Rattle.verifier.specs.Places.{target_of}
use Rattle.verifier.specs.Dense.{position, payload_position, dense_of, helper_op, IsDense}
use Rattle.regtypes.proofs.RuleLemmas.{Keeps, kept, Rules, rules_of}
use Rattle.verifier.proofs.RuleLemmas.{target_forward}
use Rattle.dense.specs.declared.op.Op.{Op}
use Rattle.dense.specs.declared.op.Op.TheVariants as op
use Rattle.dense.specs.Acts.{IsWithin}
use Rattle.native.specs.declared.task.SlotTask.{SlotTask}
use Rattle.native.specs.declared.task.SlotTask.TheVariants as task
use Rattle.native.specs.Tasks.{holds_word, is_read, is_eligible}
use Rattle.native.specs.Inside.Operations.{task_for}
use Rattle.native.proofs.FormTasks.{alu_imm_task, alu_reg_task, movsx_task, neg_task, swap_task, jump_imm_task, jump_reg_task, load_task, load_sx_task, store_reg_task, store_imm_task}

-- ---- r10 is known to be no number

-- what is known of r10
abbrev ten : Frame → Kind
ten g = kind_at g.kinds 10

-- what isn't known to be a number isn't where less is known
less_known : (a b : Kind) → is_num a ≡ false → LeqKind a b → is_num b ≡ false
less_known a Unset n l = refl
less_known a Num n l = absurd (false≢true (sym n ∙ l))
less_known a Len n l = absurd (false≢true (sym n ∙ ap is_num l))
less_known a (Place r k) n l = refl

entry_ten : (form : ImageForm) → is_num (ten (entry_frame form)) ≡ false
entry_ten Sbi1 = refl
entry_ten Sbi2 = refl

-- a register that is written isn't r10
not_ten : (r : Reg) → is_frame_pointer r ≡ false → 10 ≢ r.number
not_ten r h e = absurd (false≢true (sym h ∙ ap (λ n. n == 10) (sym e)))

written_ten : (r : Option Reg) (f : List Kind) (k : Kind) → writes_frame_pointer r ≡ false → kind_at (option_map_or (λ (x : Reg). slice_set f x.number k) r f) 10 ≡ kind_at f 10
written_ten None f k h = refl
written_ten (Some r) f k h = get_or-set_other f r.number 10 k Unset (not_ten r h)

-- an instruction that may stand leaves what is known of r10
after_ten : (i : Insn) (f : List Kind) → writes_frame_pointer (attributes_of i).written ≡ false → kind_at (after i f) 10 ≡ kind_at f 10
after_ten i f h = after_either (called i) (attributes_of i) h
  where
    after_either : (helper : Option ℤ) (a : Attributes) → writes_frame_pointer a.written ≡ false → kind_at (after_called helper a f) 10 ≡ kind_at f 10
    after_either (Some z) a h = get_or-drop 6 f 4 Unset
    after_either None a h = written_ten a.written f (given f a) h

-- the frames that know r10 to be a number are left out
abbrev filtered : Option Frame → Option Frame
filtered None = None
filtered (Some g) = cond (is_num (ten g)) None (Some g)

filtered_at : (table : Table) (s : ℕ) → frame_at (map filtered table) s ≡ filtered (frame_at table s)
filtered_at [] s = refl
filtered_at (x ∷ xs) zero = refl
filtered_at (x ∷ xs) (suc s) = filtered_at xs s

-- a frame that is left is one of the table, and doesn't know r10 to be a number
filtered_is : (x : Option Frame) (g : Frame) → filtered x ≡ Some g → (x ≡ Some g) × (is_num (ten g) ≡ false)
filtered_is None g h = cc
filtered_is (Some f) g h = by_test (is_num (ten f)) refl h
  where
    by_test : (b : Bool) → is_num (ten f) ≡ b → cond b None (Some f) ≡ Some g → (Some f ≡ Some g) × (is_num (ten g) ≡ false)
    by_test true e h = cc
    by_test false e h = (h, (let q : f ≡ g = cc in ap (λ x. is_num (ten x)) (sym q) ∙ e))

module _ (form : ImageForm) (slots : List (Option Insn)) (len : ℕ) (table : Table) (least : IsLeastTyping form slots len table) where
  abbrev fewer : Table
  fewer = map filtered table

  typing : IsTyping form slots len table
  typing = typing_of form len slots (length slots) table least.types

  -- a frame of the fewer
  here : (s : ℕ) (g : Frame) → frame_at fewer s ≡ Some g → (frame_at table s ≡ Some g) × (is_num (ten g) ≡ false)
  here s g h = filtered_is (frame_at table s) g (sym (filtered_at table s) ∙ h)

  -- what enters a frame of the table without a number in r10 enters one of the fewer
  enters : (e : ℤ × Frame) → is_num (ten e.1) ≡ false → Enters table e → Enters fewer e
  enters e n (t, g, at, there, leq) =
      let m : is_num (ten g) ≡ false = less_known (ten e.1) (ten g) n (leq.kinds 10) in
      (t, g, at, filtered_at table t ∙ ap filtered there ∙ ap (λ b. cond b None (Some g)) m, leq)

  all_enter : (s : ℕ) (x : Flow) (a b : Frame) → is_num (ten a) ≡ false → is_num (ten b) ≡ false → AllByRecursion (Enters table) (exits_by s x a b) → AllByRecursion (Enters fewer) (exits_by s x a b)
  all_enter s flow.Ends a b m n h = tt
  all_enter s (flow.Leaps d) a b m n h = (enters (pos (s + 1) +ℤ d, b) n h.0, tt)
  all_enter s (flow.Forks d) a b m n h = (enters (pos (s + 1) +ℤ d, b) n h.0, (enters (pos (s + 1), a) m h.1.0, tt))
  all_enter s (flow.Falls k) a b m n h = (enters (pos (s + k), a) m h.0, tt)

  fewer_types : IsTyping form slots len fewer
  fewer_types = record {
    start = enters (pos 0, entry_frame form) (entry_ten form) typing.start;
    whole = λ s g h. typing.whole s g (here s g h).0;
    short = λ s g h. typing.short s g (here s g h).0;
    begins = λ s g h. typing.begins s g (here s g h).0;
    keeps = λ s g i l h b. typing.keeps s g i l (here s g h).0 b;
    leads = λ s g i l h b.
        let x = here s g h in
        let k = rules_of form len i g (kept form slots len table s i g typing x.0 b).local in
        let m : is_num (kind_at (after i g.kinds) 10) ≡ false = ap is_num (after_ten i g.kinds k.written) ∙ x.1 in
        all_enter s (flow_of i) (next i g) (taken i g) m m (typing.leads s g i l x.0 b);
  }

  -- the least typing knows r10 nowhere to be a number
  pub ten_is_no_number : (s : ℕ) (g : Frame) → frame_at table s ≡ Some g → is_num (ten g) ≡ false
  ten_is_no_number s g h =
      let (f, there, leq) = least.least (frame_at fewer) (of_typing form len slots (length slots) fewer fewer_types) s g h in
      let x = here s f there in
      let e : g ≡ f = let y : Some g ≡ Some f = sym h ∙ x.0 in cc in
      ap (λ y. is_num (ten y)) e ∙ x.1

-- ---- registers that hold words

pub both_true : (a b : Bool) → a ≡ true → b ≡ true → (a && b) ≡ true
both_true true b e h = h
both_true false b e h = cc

-- what is set and no place is a number
set_number : (k : Kind) → is_unset k ≡ false → is_place k ≡ false → is_num k ≡ true
set_number Unset u p = cc
set_number Num u p = refl
set_number Len u p = refl
set_number (Place r k) u p = cc

-- a register that is read as a number is none but r0 to r9
read_word : (f : List Kind) (r : Reg) → is_num (kind_at f 10) ≡ false → has is_unset f (Some r) ≡ false → has is_place f (Some r) ≡ false → holds_word r.number ≡ true
read_word f r n u p = ⊎_elim (λ l. grind (arith, nat_tests)) last (cases_lt r.number 10)
  where
    last : 10 ≤ r.number → holds_word r.number ≡ true
    last l =
        let k = r.in_range in
        let e : r.number ≡ 10 = omega arith in
        absurd (false≢true (sym n ∙ ap (λ x. is_num (kind_at f x)) (sym e) ∙ set_number (kind_at f r.number) u p))

-- nor is one that is written
written_word : (r : Reg) → writes_frame_pointer (Some r) ≡ false → holds_word r.number ≡ true
written_word r h =
    let k = r.in_range in
    let n = not_ten r h in
    ⊎_elim (λ l. grind (arith, nat_tests)) (λ l. absurd (n (omega arith))) (cases_lt r.number 10)

pub alu_written : (f : Form) (dst : Reg) (o : Operand) → (alu_attributes f dst o).written ≡ Some dst
alu_written (Copies src) dst o = refl
alu_written (Moves z) dst o = refl
alu_written Sets dst o = refl
alu_written Computes dst o = refl

imm_read : (a : AluOp) (z : ℤ) → is_read a (operand.Imm z) ≡ true
imm_read alu.Mov z = refl
imm_read a z = refl

-- what arithmetic reads of its operand
reg_read : (a : AluOp) (w : Width) (dst src : Reg) → ((alu_attributes (form_of a w (operand.Reg src)) dst (operand.Reg src)).operand ≡ Some src → holds_word src.number ≡ true) → is_read a (operand.Reg src) ≡ true
reg_read alu.Mov w dst src h = refl
reg_read alu.Add W64 dst src h = h refl
reg_read alu.Add W32 dst src h = h refl
reg_read alu.Sub W64 dst src h = h refl
reg_read alu.Sub W32 dst src h = h refl
reg_read a w dst src h = h refl

-- ---- each instruction that a call comes to

-- an operation has a task, and there is code for it at this slot
abbrev pub HasCode : List ℕ → ℕ → Op → Type 0
HasCode pool slot o = (t : SlotTask) × (task_for pool o ≡ Some t) × (is_eligible slot t ≡ true)

module _ (form : ImageForm) (slots : List (Option Insn)) (len : ℕ) (pool : List ℕ) (slot at : ℕ) (g : Frame) (n : is_num (ten g) ≡ false) where
  abbrev op_of : Insn → Op
  op_of i = dense_of len g.kinds slot at i

  -- an operand that is read as a number
  operand_word : (i : Insn) (r : Reg) → Rules form len i g → (attributes_of i).operand ≡ Some r → holds_word r.number ≡ true
  operand_word i r k e =
      read_word g.kinds r n (ap (has is_unset g.kinds) (sym e) ∙ k.set.operand) (ap (has is_place g.kinds) (sym e) ∙ k.operand)

  number_word : (i : Insn) (r : Reg) → Rules form len i g → (attributes_of i).number ≡ Some r → holds_word r.number ≡ true
  number_word i r k e =
      read_word g.kinds r n (ap (has is_unset g.kinds) (sym e) ∙ k.set.number) (ap (has is_place g.kinds) (sym e) ∙ k.number)

  result_word : (i : Insn) (r : Reg) → Rules form len i g → (attributes_of i).written ≡ Some r → holds_word r.number ≡ true
  result_word i r k e = written_word r (ap writes_frame_pointer (sym e) ∙ k.written)

  -- a jump that is allowed goes forward
  forward : (d : ℤ) → not (is_target slots slot (pos (slot + 1) +ℤ d)) ≡ false → nat_lt slot (target_of slot d) ≡ true
  forward d h = let l = (target_forward slots slot (pos (slot + 1) +ℤ d) h).1 in grind (arith, nat_tests)

  helper_code : (z : ℤ) → IsWithin (length pool) (helper_op len g.kinds z) → HasCode pool slot (helper_op len g.kinds z)
  helper_code (pos zero) w = absurd w
  helper_code (pos (suc zero)) w = (task.Send (payload_position len (kind_at g.kinds 2)), refl, refl)
  helper_code (pos (suc (suc zero))) w = (task.Output (payload_position len (kind_at g.kinds 1)), refl, refl)
  helper_code (pos (suc (suc (suc zero)))) w = (task.Me, refl, refl)
  helper_code (pos (suc (suc (suc (suc zero))))) w = (task.From, refl, refl)
  helper_code (pos (suc (suc (suc (suc (suc zero)))))) w = (task.SendSized (payload_position len (kind_at g.kinds 2)), refl, refl)
  helper_code (pos (suc (suc (suc (suc (suc (suc zero))))))) w = (task.OutputSized (payload_position len (kind_at g.kinds 1)), refl, refl)
  helper_code (pos (suc (suc (suc (suc (suc (suc (suc m)))))))) w = absurd w
  helper_code (negsuc m) w = absurd w

  wide_code : (dst : Reg) → at + 1 ≤ length pool → holds_word dst.number ≡ true → HasCode pool slot (op.Wide dst at)
  wide_code dst l h =
      let v = task.Wide dst (slice_index pool at) in
      let t : nat_lt at (length pool) ≡ true = grind (arith, nat_tests) in
      (v, ap (λ b. cond b (Some v) None) t, h)

  insn_code : (i : Insn) → Keeps form slots len slot i g → Rules form len i g → IsWithin (length pool) (op_of i) → HasCode pool slot (op_of i)
  insn_code (Alu a w dst (operand.Imm z)) j k v =
      let i = Alu a w dst (operand.Imm z) in
      (task.Compute a w dst (operand.Imm z), alu_imm_task pool a w dst z, both_true _ _ (result_word i dst k (alu_written (form_of a w (operand.Imm z)) dst (operand.Imm z))) (imm_read a z))
  insn_code (Alu a w dst (operand.Reg src)) j k v =
      let i = Alu a w dst (operand.Reg src) in
      (task.Compute a w dst (operand.Reg src), alu_reg_task pool a w dst src, both_true _ _ (result_word i dst k (alu_written (form_of a w (operand.Reg src)) dst (operand.Reg src))) (reg_read a w dst src (λ e. operand_word i src k e)))
  insn_code (MovSx x dst src) j k v =
      (task.Extend x dst src, movsx_task pool x dst src, both_true _ _ (result_word (MovSx x dst src) dst k refl) (operand_word (MovSx x dst src) src k refl))
  insn_code (Neg w dst) j k v = (task.Negate w dst, neg_task pool w dst, result_word (Neg w dst) dst k refl)
  insn_code (End o b dst) j k v = (task.Reorder o b dst, swap_task pool o b dst, result_word (End o b dst) dst k refl)
  insn_code (Jump d) j k v = (task.Leap (target_of slot d), refl, forward d (none_holds (jump_tests slots slot (Jump d)) j.flow).0)
  insn_code (JumpLong d) j k v = (task.Leap (target_of slot d), refl, forward d (none_holds (jump_tests slots slot (JumpLong d)) j.flow).0)
  insn_code (JumpIf x w dst (operand.Imm z) d) j k v =
      (task.Branch x w dst (operand.Imm z) (target_of slot d), jump_imm_task pool x w dst z (target_of slot d), both_true _ _ (number_word (JumpIf x w dst (operand.Imm z) d) dst k refl) (forward d (none_holds (jump_tests slots slot (JumpIf x w dst (operand.Imm z) d)) j.flow).0))
  insn_code (JumpIf x w dst (operand.Reg src) d) j k v =
      let i = JumpIf x w dst (operand.Reg src) d in
      (task.Branch x w dst (operand.Reg src) (target_of slot d), jump_reg_task pool x w dst src (target_of slot d), both_true _ _ (number_word i dst k refl) (both_true _ _ (operand_word i src k refl) (forward d (none_holds (jump_tests slots slot i) j.flow).0)))
  insn_code (Call z) j k v = helper_code z v
  insn_code Exit j k v = (task.Exit, refl, refl)
  insn_code (Load z dst src d) j k v = (task.Load z dst (position len (kind_at g.kinds src.number) d), load_task pool z dst (position len (kind_at g.kinds src.number) d), result_word (Load z dst src d) dst k refl)
  insn_code (LoadSx z dst src d) j k v = (task.LoadSx z dst (position len (kind_at g.kinds src.number) d), load_sx_task pool z dst (position len (kind_at g.kinds src.number) d), result_word (LoadSx z dst src d) dst k refl)
  insn_code (StoreReg z dst src d) j k v = (task.Store z src (position len (kind_at g.kinds dst.number) d), store_reg_task pool z src (position len (kind_at g.kinds dst.number) d), operand_word (StoreReg z dst src d) src k refl)
  insn_code (StoreImm z dst d imm) j k v = (task.StoreImm z (position len (kind_at g.kinds dst.number) d) imm, store_imm_task pool z (position len (kind_at g.kinds dst.number) d) imm, refl)
  insn_code (Wide dst value) j k v = wide_code dst v (result_word (Wide dst value) dst k refl)

-- where a call may come to, there is code
pub has_code : (form : ImageForm) (slots : List (Option Insn)) (len : ℕ) (table : Table) (ops : List Op) (pool : List ℕ) (s : ℕ) (g : Frame) (o : Op) → IsLeastTyping form slots len table → IsDense slots table len ops pool → frame_at table s ≡ Some g → slice_get ops s ≡ Some o → HasCode pool s o
has_code form slots len table ops pool s g o least d there found =
    let b = (least.types.stands s g there).begins in
    let i = b.0 in
    let st = d.each s g i there b.1 in
    let e : o ≡ dense_of len g.kinds s st.at i = let x : Some o ≡ Some (dense_of len g.kinds s st.at i) = sym found ∙ st.is in cc in
    let k = kept form slots len table s i g (typing_of form len slots (length slots) table least.types) there b.1 in
    subst (HasCode pool s) (sym e) (insn_code form slots len pool s st.at g (ten_is_no_number form slots len table least s g there) i k (rules_of form len i g k.local) st.within)
