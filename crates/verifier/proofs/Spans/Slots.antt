-- Where an instruction leads that keeps V1 and V2.
use Rattle.std.proofs.Common.{◌≡◌, ℕ, zero, suc, ◌+◌, ◌<◌, ◌<ℤ◌, ◌≤ℤ◌, ◌+ℤ◌, ℤ, pos, negsuc, true, false, inl, inr, List, [], ◌∷◌, length, get_or, Option, Some, None, refl, sym, ap, ◌∙◌, subst, arith}
use Rattle.std.specs.Prelude.{unsigned_abs, nat_lt, is_some, not}
use Rattle.std.specs.List.{AllByRecursion}
use Rattle.std.specs.Option.{option_map}
use Rattle.std.specs.Global.{Box}
use Rattle.std.proofs.lemmas.Bool.{false≢true}
use Rattle.std.proofs.lemmas.Bool.Decides.{nat_tests}
use Rattle.std.proofs.lemmas.Int.{ints}
use Rattle.decode.specs.declared.insn.Insn.{Insn}
use Rattle.decode.specs.declared.insn.Insn.TheVariants.{Alu, MovSx, Neg, End, Jump, JumpLong, JumpIf, Call, Exit, Load, LoadSx, StoreReg, StoreImm, Wide}
use Rattle.decode.specs.Encoding.{Fits}
use Rattle.decode.specs.Slots.{insn_at, size_of, slots_of}
use Rattle.decode.proofs.SlotLemmas.{one_or_two}
use Rattle.decode.specs.Flow.{flow_of}
use Rattle.regtypes.specs.Rules.{first_broken}
use Rattle.regtypes.specs.Typing.{flow_tests, is_target}
use Rattle.regtypes.proofs.Monotone.{none_holds, not_false}
use Rattle.regtypes.proofs.Typings.{within}
use Rattle.spans.specs.declared.cells.Cells.{Cells}
use Rattle.spans.specs.Frame.{Frame, kind_at}
use Rattle.spans.specs.Ways.{Ways}
use Rattle.spans.proofs.Tests.{parts}
use Rattle.spans.specs.Typing.{target}
use Rattle.decode.specs.Distance.{distance}
use Rattle.verifier.specs.Span.Ways.{ways}
use Rattle.verifier.specs.Span.Transfer.{frame_of}
use Rattle.decode.specs.Slots.{Follows}
use Rattle.verifier.specs.Inside.SpanPass.{AreFitting, IsWayWithin}
use Rattle.verifier.specs.Span.Typing.{table_of}
use Rattle.spans.proofs.Typing.{abs_later}

-- ---- jumps

some_of : (o : Option Insn) → is_some o ≡ true → (i : Insn) × (o ≡ Some i)
some_of None h = absurd (false≢true h)
some_of (Some i) h = (i, refl)

below : (m n : ℕ) → nat_lt m n ≡ true → m < n
below m n h = grind (arith, nat_tests)

target_later : (slots : List (Option Insn)) (s : ℕ) (z : ℤ) → is_target slots s z ≡ true → pos s <ℤ z
target_later slots s (pos t) h = let k = below s t (parts (nat_lt s t) (is_some (insn_at slots t)) h).0 in grind (arith, ints)
target_later slots s (negsuc n) h = absurd (false≢true h)

target_begins : (slots : List (Option Insn)) (s : ℕ) (z : ℤ) → is_target slots s z ≡ true → (i : Insn) × (insn_at slots (unsigned_abs z) ≡ Some i)
target_begins slots s (pos t) h = some_of (insn_at slots t) (parts (nat_lt s t) (is_some (insn_at slots t)) h).1
target_begins slots s (negsuc n) h = absurd (false≢true h)

next_later : (s : ℕ) → pos s <ℤ (pos (s + 1) +ℤ pos 0)
next_later s = grind (arith, ints)

abbrev pub Keeps : List (Option Insn) → ℕ → Insn → Type 0
Keeps slots s i = first_broken (flow_tests slots s (flow_of i)) ≡ None

jumps : (slots : List (Option Insn)) (s : ℕ) (i : Insn) → Keeps slots s i → not (is_target slots s (pos (s + 1) +ℤ distance i)) ≡ false → pos s <ℤ (pos (s + 1) +ℤ distance i)
jumps slots s i h k = target_later slots s (pos (s + 1) +ℤ distance i) (not_false (is_target slots s (pos (s + 1) +ℤ distance i)) k)

-- an instruction that keeps V1 jumps to a later slot, or not at all
pub later : (slots : List (Option Insn)) (s : ℕ) (i : Insn) → Keeps slots s i → pos s <ℤ (pos (s + 1) +ℤ distance i)
later slots s (Alu op width dst o) h = next_later s
later slots s (MovSx x dst src) h = next_later s
later slots s (Neg width dst) h = next_later s
later slots s (End order bits dst) h = next_later s
later slots s (Wide dst value) h = next_later s
later slots s (Jump offset) h = jumps slots s (Jump offset) h (none_holds (flow_tests slots s (flow_of (Jump offset))) h).0
later slots s (JumpLong far) h = jumps slots s (JumpLong far) h (none_holds (flow_tests slots s (flow_of (JumpLong far))) h).0
later slots s (JumpIf condition width dst o offset) h = jumps slots s (JumpIf condition width dst o offset) h (none_holds (flow_tests slots s (flow_of (JumpIf condition width dst o offset))) h).0
later slots s (Call helper) h = next_later s
later slots s Exit h = next_later s
later slots s (Load size dst src offset) h = next_later s
later slots s (LoadSx size dst src offset) h = next_later s
later slots s (StoreReg size dst src offset) h = next_later s
later slots s (StoreImm size dst offset imm) h = next_later s

pub target_past : (slots : List (Option Insn)) (s : ℕ) (i : Insn) → Keeps slots s i → s < target s i
target_past slots s i h = abs_later s (pos (s + 1) +ℤ distance i) (later slots s i h)

forward_by : (s : ℕ) (z : ℤ) → pos s <ℤ (pos (s + 1) +ℤ z) → pos 0 ≤ℤ z
forward_by s z h = grind (arith, ints)

pub forward : (slots : List (Option Insn)) (s : ℕ) (i : Insn) → Keeps slots s i → pos 0 ≤ℤ distance i
forward slots s i h = forward_by s (distance i) (later slots s i h)

-- where something leaves by a jump, an instruction begins at its target
pub taken_begins : (slots : List (Option Insn)) (s : ℕ) (i : Insn) (f g : Frame) → Keeps slots s i → (ways i f).1 ≡ Some g → (j : Insn) × (insn_at slots (target s i) ≡ Some j)
taken_begins slots s (Alu op width dst o) f g h e = cc
taken_begins slots s (MovSx x dst src) f g h e = cc
taken_begins slots s (Neg width dst) f g h e = cc
taken_begins slots s (End order bits dst) f g h e = cc
taken_begins slots s (Wide dst value) f g h e = cc
taken_begins slots s (Jump offset) f g h e = target_begins slots s (pos (s + 1) +ℤ offset) (not_false (is_target slots s (pos (s + 1) +ℤ offset)) (none_holds (flow_tests slots s (flow_of (Jump offset))) h).0)
taken_begins slots s (JumpLong far) f g h e = target_begins slots s (pos (s + 1) +ℤ far) (not_false (is_target slots s (pos (s + 1) +ℤ far)) (none_holds (flow_tests slots s (flow_of (JumpLong far))) h).0)
taken_begins slots s (JumpIf condition width dst o offset) f g h e = target_begins slots s (pos (s + 1) +ℤ offset) (not_false (is_target slots s (pos (s + 1) +ℤ offset)) (none_holds (flow_tests slots s (flow_of (JumpIf condition width dst o offset))) h).0)
taken_begins slots s (Call helper) f g h e = cc
taken_begins slots s Exit f g h e = cc
taken_begins slots s (Load size dst src offset) f g h e = cc
taken_begins slots s (LoadSx size dst src offset) f g h e = cc
taken_begins slots s (StoreReg size dst src offset) f g h e = cc
taken_begins slots s (StoreImm size dst offset imm) f g h e = cc

-- ---- the slot behind

before_end : (n m : ℕ) → not (nat_lt n m) ≡ false → n < m
before_end n m h = below n m (not_false (nat_lt n m) h)

-- where something leaves to the slot behind, there is one
pub next_within : (slots : List (Option Insn)) (s : ℕ) (i : Insn) (f g : Frame) → Keeps slots s i → (ways i f).0 ≡ Some g → s + size_of i < length slots
next_within slots s (Alu op width dst o) f g h e = before_end (s + 1) (length slots) (none_holds (flow_tests slots s (flow_of (Alu op width dst o))) h).0
next_within slots s (MovSx x dst src) f g h e = before_end (s + 1) (length slots) (none_holds (flow_tests slots s (flow_of (MovSx x dst src))) h).0
next_within slots s (Neg width dst) f g h e = before_end (s + 1) (length slots) (none_holds (flow_tests slots s (flow_of (Neg width dst))) h).0
next_within slots s (End order bits dst) f g h e = before_end (s + 1) (length slots) (none_holds (flow_tests slots s (flow_of (End order bits dst))) h).0
next_within slots s (Wide dst value) f g h e = before_end (s + 2) (length slots) (none_holds (flow_tests slots s (flow_of (Wide dst value))) h).0
next_within slots s (Jump offset) f g h e = cc
next_within slots s (JumpLong far) f g h e = cc
next_within slots s (JumpIf condition width dst o offset) f g h e = before_end (s + 1) (length slots) (none_holds (flow_tests slots s (flow_of (JumpIf condition width dst o offset))) h).1.0
next_within slots s (Call helper) f g h e = before_end (s + 1) (length slots) (none_holds (flow_tests slots s (flow_of (Call helper))) h).0
next_within slots s Exit f g h e = cc
next_within slots s (Load size dst src offset) f g h e = before_end (s + 1) (length slots) (none_holds (flow_tests slots s (flow_of (Load size dst src offset))) h).0
next_within slots s (LoadSx size dst src offset) f g h e = before_end (s + 1) (length slots) (none_holds (flow_tests slots s (flow_of (LoadSx size dst src offset))) h).0
next_within slots s (StoreReg size dst src offset) f g h e = before_end (s + 1) (length slots) (none_holds (flow_tests slots s (flow_of (StoreReg size dst src offset))) h).0
next_within slots s (StoreImm size dst offset imm) f g h e = before_end (s + 1) (length slots) (none_holds (flow_tests slots s (flow_of (StoreImm size dst offset imm))) h).0

pub next_begins : (slots : List (Option Insn)) (s : ℕ) (i : Insn) (f g : Frame) → Follows slots → insn_at slots s ≡ Some i → Keeps slots s i → (ways i f).0 ≡ Some g → (j : Insn) × (insn_at slots (s + size_of i) ≡ Some j)
next_begins slots s i f g follows b h e = follows s (s + size_of i) i b refl (next_within slots s i f g h e)

pub size_positive : (i : Insn) → 0 < size_of i
size_positive (Wide dst value) = omega arith
size_positive _ = omega arith

-- ---- lists by slots

slot_is : (slots : List (Option Insn)) (s : ℕ) (d : Option Insn) → s < length slots → insn_at slots s ≡ get_or slots s d
slot_is [] s d lt = absurd (omega arith)
slot_is (x ∷ xs) zero d lt = refl
slot_is (x ∷ xs) (suc s) d lt = slot_is xs s d (omega arith)

-- what the list has at a slot of the code is the instruction that begins there
pub insn_is : (slots : List (Option Insn)) (s : ℕ) (d : Option Insn) (o : Option Insn) → s < length slots → get_or slots s d ≡ o → insn_at slots s ≡ o
insn_is slots s d o lt e = slot_is slots s d lt ∙ e

table_is : (table : List (Option (Box Cells))) (s : ℕ) (d : Option (Box Cells)) → s < length table → table_of table s ≡ option_map (λ (b : Box Cells). frame_of b.value) (get_or table s d)
table_is [] s d lt = absurd (omega arith)
table_is (x ∷ xs) zero d lt = refl
table_is (x ∷ xs) (suc s) d lt = table_is xs s d (omega arith)

-- what the table has at a slot is what is known there
pub there_none : (table : List (Option (Box Cells))) (s : ℕ) (d : Option (Box Cells)) → s < length table → get_or table s d ≡ None → table_of table s ≡ None
there_none table s d lt e = table_is table s d lt ∙ ap (option_map (λ (b : Box Cells). frame_of b.value)) e

pub there_some : (table : List (Option (Box Cells))) (s : ℕ) (d : Option (Box Cells)) (b : Box Cells) (x : Cells) → s < length table → get_or table s d ≡ Some b → x ≡ b.value → table_of table s ≡ Some (kind_at x.kinds)
there_some table s d b x lt e v = table_is table s d lt ∙ ap (option_map (λ (b : Box Cells). frame_of b.value)) e ∙ ap (λ (y : Cells). Some (frame_of y)) (sym v)

-- ---- ways

pub way_within : (count to : ℕ) (w : Option Frame) → ((g : Frame) → w ≡ Some g → to < count) → IsWayWithin count to w
way_within count to None h = tt
way_within count to (Some g) h = h g refl

pub taken_within : (slots : List (Option Insn)) (s count : ℕ) (i : Insn) (f : Frame) (w : Ways) → w ≡ ways i f → count ≡ length slots → Keeps slots s i → IsWayWithin count (target s i) w.1
taken_within slots s count i f w e n h = way_within count (target s i) w.1 (λ g k. let j = taken_begins slots s i f g h (ap (λ (v : Ways). v.1) (sym e) ∙ k) in let l = within slots (target s i) j.0 j.1 in omega (arith, l, n))

pub next_way_within : (slots : List (Option Insn)) (s count : ℕ) (i : Insn) (f : Frame) (w : Ways) → w ≡ ways i f → count ≡ length slots → Keeps slots s i → IsWayWithin count (s + size_of i) w.0
next_way_within slots s count i f w e n h = way_within count (s + size_of i) w.0 (λ g k. let l = next_within slots s i f g h (ap (λ (v : Ways). v.0) (sym e) ∙ k) in omega (arith, l, n))

fitting_one : (j : Insn) (rest : List (Option Insn)) → Fits j → AreFitting rest → AreFitting (Some j ∷ rest)
fitting_one j rest f k zero i e = let q : j ≡ i = cc in subst Fits q f
fitting_one j rest f k (suc s) i e = k s i e

fitting_two : (j : Insn) (rest : List (Option Insn)) → Fits j → AreFitting rest → AreFitting (Some j ∷ None ∷ rest)
fitting_two j rest f k zero i e = let q : j ≡ i = cc in subst Fits q f
fitting_two j rest f k (suc zero) i e = cc
fitting_two j rest f k (suc (suc s)) i e = k s i e

-- instructions that fit their fields do so slot by slot
pub are_fitting : (code : List Insn) → AllByRecursion Fits code → AreFitting (slots_of code)
are_fitting [] h = λ s i e. cc
are_fitting (j ∷ js) h = elim (one_or_two j js) [
  | inl one ↦ subst AreFitting (sym one.1) (fitting_one j (slots_of js) h.0 (are_fitting js h.1))
  | inr two ↦ subst AreFitting (sym two.1) (fitting_two j (slots_of js) h.0 (are_fitting js h.1))
]
