-- Each word is in the list of them, and is of one instruction.
use Rattle.std.proofs.Common.{◌≡◌, ◌≢◌, ℕ, Bool, true, false, List, [], ◌∷◌, Option, Some, None, refl, sym, ap, ◌∙◌, eqb, cond, nat_lt, ◌<◌}
use Rattle.std.specs.List.{AllByRecursion}
use Rattle.std.proofs.lemmas.Bool.{eqb-true, ltb-true}
use Rattle.decode.specs.declared.insn.AluOp.TheVariants as alu
use Rattle.decode.specs.declared.insn.Width.TheVariants.{W32, W64}
use Rattle.decode.specs.declared.insn.Extension.TheVariants.{W32From8}
use Rattle.decode.specs.declared.insn.ByteOrder.TheVariants.{Little}
use Rattle.decode.specs.declared.insn.SwapBits.TheVariants.{Bits16, Bits32, Bits64}
use Rattle.decode.specs.declared.insn.Condition.TheVariants as condition
use Rattle.decode.specs.declared.insn.Size.TheVariants as size
use Rattle.decode.specs.declared.insn.SignedSize.TheVariants as signed
use Rattle.assemble.specs.declared.mnemonic.TheConstants.{ALL}
use Rattle.assemble.specs.declared.mnemonic.Mnemonic.{Mnemonic}
use Rattle.assemble.specs.declared.mnemonic.Mnemonic.TheVariants.{Alu, MovSx, Neg, End, Jump, JumpIf, Load, LoadSx, StoreReg, StoreImm}
use Rattle.assemble.specs.Inside.Mnemonic.{word}

abbrev same : List ℕ → List ℕ → Bool
same [] [] = true
same [] (y ∷ ys) = false
same (x ∷ xs) [] = false
same (x ∷ xs) (y ∷ ys) = cond (eqb x y) (same xs ys) false

same_true : (a b : List ℕ) → same a b ≡ true → a ≡ b
same_true [] [] e = refl
same_true [] (y ∷ ys) e = absurd cc
same_true (x ∷ xs) [] e = absurd cc
same_true (x ∷ xs) (y ∷ ys) e =
    let step : (b : Bool) → (eqb x y ≡ b) → cond b (same xs ys) false ≡ true → (x ∷ xs) ≡ (y ∷ ys) = λ b. elim b as (λ b. (eqb x y ≡ b) → cond b (same xs ys) false ≡ true → (x ∷ xs) ≡ (y ∷ ys)) [
      | true ↦ λ is t. let head = eqb-true x y is in let rest = same_true xs ys t in (λ i. head i ∷ rest i)
      | false ↦ λ is t. absurd cc
    ] in
    step (eqb x y) refl e

-- the first of these with this word
abbrev find : List ℕ → List Mnemonic → Option Mnemonic
find text [] = None
find text (x ∷ xs) = cond (same (word x) text) (Some x) (find text xs)

abbrev no_control : List ℕ → Bool
no_control [] = true
no_control (c ∷ cs) = cond (nat_lt 32 c) (no_control cs) false

-- not empty, and it does not begin with '#'; no space, no line feed
abbrev is_word : List ℕ → Bool
is_word [] = false
is_word (c ∷ cs) = cond (nat_lt 35 c) (no_control cs) false

-- each is found by its word
found : (m : Mnemonic) → (find (word m) ALL ≡ Some m) × (is_word (word m) ≡ true)
found (Alu alu.Add W32) = (refl, refl)
found (Alu op W32) = (refl, refl)
found (Alu alu.Add W64) = (refl, refl)
found (Alu op W64) = (refl, refl)
found (MovSx W32From8) = (refl, refl)
found (MovSx extension) = (refl, refl)
found (Neg W32) = (refl, refl)
found (Neg W64) = (refl, refl)
found (End Little Bits16) = (refl, refl)
found (End order Bits16) = (refl, refl)
found (End Little Bits32) = (refl, refl)
found (End order Bits32) = (refl, refl)
found (End Little Bits64) = (refl, refl)
found (End order Bits64) = (refl, refl)
found (JumpIf condition.Equal W32) = (refl, refl)
found (JumpIf c W32) = (refl, refl)
found (JumpIf condition.Equal W64) = (refl, refl)
found (JumpIf c W64) = (refl, refl)
found (Load size.Byte) = (refl, refl)
found (Load s) = (refl, refl)
found (LoadSx signed.Byte) = (refl, refl)
found (LoadSx s) = (refl, refl)
found (StoreReg size.Byte) = (refl, refl)
found (StoreReg s) = (refl, refl)
found (StoreImm size.Byte) = (refl, refl)
found (StoreImm s) = (refl, refl)
found Jump = (refl, refl)
found m = (refl, refl)

-- a word is of one instruction
pub one_mnemonic : (m n : Mnemonic) → word m ≡ word n → m ≡ n
one_mnemonic m n e =
    let both : Some m ≡ Some n = sym (found m).0 ∙ ap (λ (t : List ℕ). find t ALL) e ∙ (found n).0 in
    cc

step : (x m : Mnemonic) (xs : List Mnemonic) (text : List ℕ) (b : Bool) → (b ≡ true → text ≡ word x → ⊥) → b ≡ same (word x) text → (same (word x) text ≡ true → text ≡ word x) → (find text xs ≡ Some m → ⊥) → cond b (Some x) (find text xs) ≡ Some m → ⊥
step x m xs text true none is told rest e = none refl (told (sym is))
step x m xs text false none is told rest e = rest e

none_found : (text : List ℕ) (xs : List Mnemonic) → AllByRecursion (λ m. text ≢ word m) xs → (m : Mnemonic) → find text xs ≡ Some m → ⊥
none_found text [] none m e = absurd cc
none_found text (x ∷ xs) none m e = step x m xs text (same (word x) text) (λ _. none.0) refl (λ t. sym (same_true (word x) text t)) (none_found text xs none.1 m) e

-- a text that is none of the words in the list is no mnemonic's
pub every : (text : List ℕ) → AllByRecursion (λ m. text ≢ word m) ALL → (m : Mnemonic) → text ≢ word m
every text none m e = none_found text ALL none m (ap (λ (t : List ℕ). find t ALL) e ∙ (found m).0)

-- ---- the bytes of words

abbrev pub AreAbove : ℕ → List ℕ → Type 0
AreAbove k [] = Unit {0}
AreAbove k (c ∷ cs) = (k < c) × AreAbove k cs

above_step : (k c : ℕ) (cs : List ℕ) (b : Bool) → b ≡ nat_lt k c → (no_control cs ≡ true → AreAbove 32 cs) → cond b (no_control cs) false ≡ true → (k < c) × AreAbove 32 cs
above_step k c cs true is rest e = (ltb-true k c (sym is), rest e)
above_step k c cs false is rest e = absurd cc

above_all : (t : List ℕ) → no_control t ≡ true → AreAbove 32 t
above_all [] e = tt
above_all (c ∷ cs) e = above_step 32 c cs (nat_lt 32 c) refl (above_all cs) e

-- a byte above '#', and none that is a space or a line feed
abbrev pub IsWord : List ℕ → Type 0
IsWord [] = ⊥
IsWord (c ∷ cs) = (35 < c) × AreAbove 32 cs

is_word_so : (t : List ℕ) → is_word t ≡ true → IsWord t
is_word_so [] e = absurd cc
is_word_so (c ∷ cs) e = above_step 35 c cs (nat_lt 35 c) refl (above_all cs) e

-- each mnemonic's word begins above '#', and has neither space nor line feed
pub each_word : (m : Mnemonic) → IsWord (word m)
each_word m = is_word_so (word m) (found m).1
