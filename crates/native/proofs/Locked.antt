-- r10 stays the end of the stack.
use Rattle.std.proofs.Common.{◌≡◌, ℕ, ◌+◌, ◌/◌, ◌%◌, ◌^◌, ◌≤◌, ℤ, pos, ◌+ℤ◌, Bool, true, false, cond, List, Option, Some, None, refl, sym, ap, ◌∙◌, subst, arith}
use Rattle.std.specs.Prelude.{◌==◌, slice_index, if◌then◌else◌}
use Rattle.std.specs.Option.{option_and_then, option_map_or}
use Rattle.std.proofs.Math.Nat.{mod-eq_of_lt}
use Rattle.std.proofs.lemmas.Bool.Decides.{nat_tests}
use Rattle.decode.specs.declared.insn.Insn.{Insn}
use Rattle.decode.specs.declared.insn.Insn.TheVariants.{Alu, MovSx, Neg, End, Jump, JumpLong, JumpIf, Call, Exit, Load, LoadSx, StoreReg, StoreImm, Wide}
use Rattle.decode.specs.declared.insn.Operand.TheVariants as operand
use Rattle.decode.specs.declared.insn.Width.TheVariants.{W64}
use Rattle.decode.specs.Encoding.{bytes_in, loaded}
use Rattle.operations.specs.Operations.{extension_of, negation_of, reorder_of, holds, sign_extension_of}
use Rattle.regtypes.specs.declared.frame.Region.{Region}
use Rattle.regtypes.specs.declared.frame.Region.TheVariants.{Message, State, Stack}
use Rattle.decode.specs.AluForm.{form_of}
use Rattle.regtypes.specs.Rules.{is_frame_pointer}
use Rattle.spans.specs.declared.kind.SpanKind.{SpanKind}
use Rattle.spans.specs.declared.kind.SpanKind.TheVariants.{Unset, Num, Place}
use Rattle.spans.specs.Frame.{Frame, Leq, LeqKind, at_place, is_num}
use Rattle.spans.specs.Configuration.{Value, Number, At, Configuration, put, own_frame, own_kind}
use Rattle.spans.specs.Memory.{are_numbers, index_in, is_word, load, patched_cells, store, write_at}
use Rattle.spans.specs.Access.{region_size}
use Rattle.spans.specs.Step.{Outcome, Goes, Leaps, Ends, Fault, answers, branches, ends_with, from_number, gives_value, goes_on, operand_value, result_value, step, taken_by}
use Rattle.spans.specs.Ways.{alu_form}
use Rattle.verifier.specs.Span.Rules.{frame_pointer_rule}
use Rattle.spans.specs.Concrete.{array_size}
use Rattle.spans.specs.Shows.{Shows, ShowsWord}
use Rattle.dense.specs.Machine.{machine}
use Rattle.native.proofs.Allowed.{some_none}
use Rattle.native.proofs.Reached.{alu_written}

-- behind a step cell 10 is as it was
abbrev pub Kept : Configuration → Outcome → Type 0
Kept c (Goes d) = d.cells 10 ≡ c.cells 10
Kept c (Leaps d) = d.cells 10 ≡ c.cells 10
Kept c Ends = Unit {0}
Kept c Fault = Unit {0}

abbrev KeptBy : Configuration → Option Configuration → Type 0
KeptBy c None = Unit {0}
KeptBy c (Some d) = d.cells 10 ≡ c.cells 10

other_cell : (c : Configuration) (r : ℕ) (v : Option Value) → (r == 10) ≡ false → (put c r v).cells 10 ≡ c.cells 10
other_cell c r v h = let t : (10 == r) ≡ false = grind (arith, nat_tests) in ap (λ b. cond b v (c.cells 10)) t

gives_kept : (c : Configuration) (r : ℕ) (v : Option Value) → (r == 10) ≡ false → Kept c (gives_value c r v)
gives_kept c r None h = tt
gives_kept c r (Some w) h = other_cell c r (Some w) h

branches_kept : (c : Configuration) (u v : Option Value) (test : ℕ → ℕ → Bool) → Kept c (branches c u v test)
branches_kept c (Some (Number x)) (Some (Number y)) test = by_test (test x y)
  where
    by_test : (b : Bool) → Kept c (if b then Leaps c else Goes c)
    by_test true = refl
    by_test false = refl
branches_kept c (Some (Number x)) (Some (At r k)) test = tt
branches_kept c (Some (Number x)) None test = tt
branches_kept c (Some (At r k)) v test = tt
branches_kept c None v test = tt

answers_kept : (c : Configuration) (answer : ℕ) (o : Option (List ℕ)) → Kept c (answers c answer o)
answers_kept c answer None = tt
answers_kept c answer (Some bytes) = refl

ends_kept : (c : Configuration) (v : Option Value) → Kept c (ends_with v)
ends_kept c None = tt
ends_kept c (Some (Number x)) = tt
ends_kept c (Some (At r k)) = tt

write_kept : (c : Configuration) (r : Region) (u : Option Value) (n a : ℕ) → KeptBy c (write_at c r u n a)
write_kept c Message u n a = tt
write_kept c State (Some (Number x)) n a = refl
write_kept c State (Some (At r k)) n a = tt
write_kept c State None n a = tt
write_kept c Stack None n a = tt
write_kept c Stack (Some (At r k)) n a = by_test (is_word n a)
  where
    by_test : (b : Bool) → KeptBy c (if b then Some (put c (11 + a / 8) (Some (At r k))) else None)
    by_test true = other_cell c (11 + a / 8) (Some (At r k)) (grind (arith, nat_tests))
    by_test false = tt
write_kept c Stack (Some (Number x)) n a = by_tests (is_word n a) (are_numbers c n a)
  where
    by_tests : (b t : Bool) → KeptBy c (if b then Some (put c (11 + a / 8) (Some (Number x))) else if t then Some (record c { cells = patched_cells c n a x }) else None)
    by_tests true t = other_cell c (11 + a / 8) (Some (Number x)) (grind (arith, nat_tests))
    by_tests false true = refl
    by_tests false false = tt

index_kept : (c : Configuration) (r : Region) (u : Option Value) (n : ℕ) (i : Option ℕ) → KeptBy c (option_and_then (write_at c r u n) i)
index_kept c r u n None = tt
index_kept c r u n (Some a) = write_kept c r u n a

store_kept : (state : ℕ) (c : Configuration) (u base : Option Value) (o : ℤ) (n : ℕ) → KeptBy c (store state c u base o n)
store_kept state c u (Some (At r k)) o n = index_kept c r u n (index_in (region_size state r) n (k +ℤ o))
store_kept state c u (Some (Number x)) o n = tt
store_kept state c u None o n = tt

goes_kept : (c : Configuration) (d : Option Configuration) → KeptBy c d → Kept c (goes_on d)
goes_kept c None h = tt
goes_kept c (Some d) h = h

pub step_kept : (state answer : ℕ) (i : Insn) (c : Configuration) → frame_pointer_rule i ≡ None → Kept c (step state answer i c)
step_kept state answer (Alu op w dst o) c h =
    gives_kept c dst.number (result_value (alu_form op w o) (c.cells dst.number) (operand_value w o c)) (ap (λ r. option_map_or is_frame_pointer r false) (sym (alu_written (form_of op w o) dst o)) ∙ some_none _ _ h)
step_kept state answer (MovSx x dst src) c h = gives_kept c dst.number (from_number (extension_of x) (c.cells src.number)) (some_none _ _ h)
step_kept state answer (Neg w dst) c h = gives_kept c dst.number (from_number (negation_of w) (c.cells dst.number)) (some_none _ _ h)
step_kept state answer (End o b dst) c h = gives_kept c dst.number (from_number (reorder_of o b) (c.cells dst.number)) (some_none _ _ h)
step_kept state answer (Wide dst v) c h = gives_kept c dst.number (Some (Number (v % 2 ^ 64))) (some_none _ _ h)
step_kept state answer (Jump d) c h = refl
step_kept state answer (JumpLong d) c h = refl
step_kept state answer (JumpIf x w dst o d) c h = branches_kept c (c.cells dst.number) (operand_value w o c) (holds x w)
step_kept state answer (Call z) c h = answers_kept c answer (taken_by state c z)
step_kept state answer Exit c h = ends_kept c (c.cells 0)
step_kept state answer (Load z dst src d) c h = gives_kept c dst.number (load state c (c.cells src.number) d (bytes_in z)) (some_none _ _ h)
step_kept state answer (LoadSx z dst src d) c h =
    gives_kept c dst.number (from_number (sign_extension_of z) (load state c (c.cells src.number) d (bytes_in (loaded z)))) (some_none _ _ h)
step_kept state answer (StoreReg z dst src d) c h = goes_kept c _ (store_kept state c (c.cells src.number) (c.cells dst.number) d (bytes_in z))
step_kept state answer (StoreImm z dst d imm) c h = goes_kept c _ (store_kept state c (operand_value W64 (operand.Imm imm) c) (c.cells dst.number) d (bytes_in z))

-- ---- what is known of it

-- its word is the end of the array
pub end_word : (len : ℕ) (c : Configuration) (ws mem : List ℕ) → Shows len c (machine ws mem) → c.cells 10 ≡ Some (At Stack (pos 512)) → len ≤ 1024 → slice_index ws 10 ≡ array_size len
end_word len c ws mem shows ten small =
    let w = subst (λ v. ShowsWord len v (slice_index ws 10)) ten (shows.words 10 (omega arith)) in
    w ∙ mod-eq_of_lt (omega (arith, small))

-- and nowhere is it known to be a number
pub no_number : (c : Configuration) (f : Frame) → Leq (own_frame c) f → c.cells 10 ≡ Some (At Stack (pos 512)) → is_num (f 10) ≡ false
no_number c f leq ten = of_kind (f 10) (subst (λ v. LeqKind (own_kind v) (f 10)) ten (leq 10))
  where
    of_kind : (q : SpanKind) → LeqKind (Place Stack (at_place (pos 512))) q → is_num q ≡ false
    of_kind Unset h = refl
    of_kind (Num t) h = absurd h
    of_kind (Place r t) h = refl
