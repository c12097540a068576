-- No access leaves the array.
use Rattle.std.proofs.Common.{◌≡◌, ℕ, zero, suc, ◌+◌, ◌≤◌, Bool, true, false, List, Some, None, pos, negsuc, min, refl, arith}
use Rattle.std.specs.Prelude.{nat_le, if◌then◌else◌}
use Rattle.std.specs.Option.{option_map}
use Rattle.std.proofs.lemmas.Bool.Decides.{nat_tests}
use Rattle.decode.specs.declared.insn.Insn.{Insn}
use Rattle.decode.specs.declared.insn.Insn.TheVariants.{Alu, MovSx, Neg, End, Jump, JumpLong, JumpIf, Call, Exit, Load, LoadSx, StoreReg, StoreImm, Wide}
use Rattle.decode.specs.Encoding.{bytes_in, loaded}
use Rattle.operations.specs.Words.{word_of}
use Rattle.operations.specs.Bytes.{le_value}
use Rattle.operations.specs.Operations.{sign_extension_of}
use Rattle.spans.specs.Step as steps
use Rattle.spans.specs.Ways.{Ways}
use Rattle.spans.specs.Configuration.{Configuration}
use Rattle.spans.specs.Memory.{bytes_from, patched_bytes}
use Rattle.spans.specs.Step.{Outcome, step}
use Rattle.spans.specs.Laws.{Lands}
use Rattle.spans.specs.Concrete.{Concrete, ConcreteOutcome, Crash, Ends, Goes, Leaps, address, answers_or_crash, array_size, concrete_step, goes_or_crash, piece, sets_or_crash, write}
use Rattle.spans.specs.Shows.{ShowsOutcome}
use Rattle.spans.specs.Within.{IsWithin, LiesWithin}
use Rattle.spans.specs.CallLaws.{AreAccessesWithin}
use Rattle.spans.proofs.Runs.{runs}

abbrev Ran : ConcreteOutcome → Type 0
Ran (Goes m) = Unit {0}
Ran (Leaps m) = Unit {0}
Ran (Ends x) = Unit {0}
Ran Crash = ⊥

ran : (state : ℕ) (c : Configuration) (o : Outcome) (x : ConcreteOutcome) (w : Ways) → Lands o w → ShowsOutcome state c o x → Ran x
ran state c o (Goes m) w l s = tt
ran state c o (Leaps m) w l s = tt
ran state c o (Ends x) w l s = tt
ran state c (steps.Goes d) Crash w l s = s
ran state c (steps.Leaps d) Crash w l s = s
ran state c steps.Ends Crash w l s = s
ran state c steps.Fault Crash w l s = l

fetched : (state : ℕ) (m : Concrete) (r n a : ℕ) (g : List ℕ → ℕ) → Ran (sets_or_crash m r (option_map g (piece state m n a))) → LiesWithin state n a
fetched state m r n a g = by_test (nat_le (a + n) (array_size state)) (λ e. grind (arith, nat_tests))
  where
    by_test : (t : Bool) → (t ≡ true → a + n ≤ array_size state) → Ran (sets_or_crash m r (option_map g (if t then Some (bytes_from m.array n a) else None))) → a + n ≤ array_size state
    by_test true k h = k refl
    by_test false k h = absurd h

extended : (state : ℕ) (m : Concrete) (r n a : ℕ) (g : ℕ → ℕ) → Ran (sets_or_crash m r (option_map g (option_map le_value (piece state m n a)))) → LiesWithin state n a
extended state m r n a g = by_test (nat_le (a + n) (array_size state)) (λ e. grind (arith, nat_tests))
  where
    by_test : (t : Bool) → (t ≡ true → a + n ≤ array_size state) → Ran (sets_or_crash m r (option_map g (option_map le_value (if t then Some (bytes_from m.array n a) else None)))) → a + n ≤ array_size state
    by_test true k h = k refl
    by_test false k h = absurd h

taken-within : (state answer : ℕ) (m : Concrete) (n a : ℕ) → Ran (answers_or_crash m answer (piece state m n a)) → LiesWithin state n a
taken-within state answer m n a = by_test (nat_le (a + n) (array_size state)) (λ e. grind (arith, nat_tests))
  where
    by_test : (t : Bool) → (t ≡ true → a + n ≤ array_size state) → Ran (answers_or_crash m answer (if t then Some (bytes_from m.array n a) else None)) → a + n ≤ array_size state
    by_test true k h = k refl
    by_test false k h = absurd h

written : (state : ℕ) (m : Concrete) (n a x : ℕ) → Ran (goes_or_crash (write state m n a x)) → (512 ≤ a) × LiesWithin state n a
written state m n a x = by_tests (nat_le 512 a) (nat_le (a + n) (array_size state)) (λ e. grind (arith, nat_tests)) (λ e. grind (arith, nat_tests))
  where
    by_tests : (t u : Bool) → (t ≡ true → 512 ≤ a) → (u ≡ true → a + n ≤ array_size state) → Ran (goes_or_crash (if t then (if u then Some (record m { array = patched_bytes m.array n a x }) else None) else None)) → (512 ≤ a) × (a + n ≤ array_size state)
    by_tests true true j k h = (j refl, k refl)
    by_tests true false j k h = absurd h
    by_tests false u j k h = absurd h

within : (state answer : ℕ) (i : Insn) (m : Concrete) → Ran (concrete_step state answer i m) → IsWithin state i m
within state answer (Alu op width dst o) m h = tt
within state answer (MovSx x dst src) m h = tt
within state answer (Neg width dst) m h = tt
within state answer (End order bits dst) m h = tt
within state answer (Wide dst value) m h = tt
within state answer (Jump offset) m h = tt
within state answer (JumpLong far) m h = tt
within state answer (JumpIf condition width dst o offset) m h = tt
within state answer (Call (pos zero)) m h = tt
within state answer (Call (pos (suc zero))) m h = taken-within state answer m 64 (m.words 2) h
within state answer (Call (pos (suc (suc zero)))) m h = taken-within state answer m 64 (m.words 1) h
within state answer (Call (pos (suc (suc (suc zero))))) m h = tt
within state answer (Call (pos (suc (suc (suc (suc zero)))))) m h = tt
within state answer (Call (pos (suc (suc (suc (suc (suc zero))))))) m h = taken-within state answer m (min (m.words 3) 256) (m.words 2) h
within state answer (Call (pos (suc (suc (suc (suc (suc (suc zero)))))))) m h = taken-within state answer m (min (m.words 2) 256) (m.words 1) h
within state answer (Call (pos (suc (suc (suc (suc (suc (suc (suc n))))))))) m h = tt
within state answer (Call (negsuc n)) m h = tt
within state answer Exit m h = tt
within state answer (Load size dst src offset) m h = fetched state m dst.number (bytes_in size) (address (m.words src.number) offset) le_value h
within state answer (LoadSx size dst src offset) m h = extended state m dst.number (bytes_in (loaded size)) (address (m.words src.number) offset) (sign_extension_of size) h
within state answer (StoreReg size dst src offset) m h = written state m (bytes_in size) (address (m.words dst.number) offset) (m.words src.number) h
within state answer (StoreImm size dst offset imm) m h = written state m (bytes_in size) (address (m.words dst.number) offset) (word_of imm) h

pub accesses-within : AreAccessesWithin
accesses-within state i c m f w l p ic s jf q h =
    let r = runs state 0 i c m f w l (omega arith) p ic s jf q h in
    within state 0 i m (ran state c (step state 0 i c) (concrete_step state 0 i m) w r.0 r.1)
