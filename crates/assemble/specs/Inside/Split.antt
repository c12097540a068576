-- Parts of a line.
use Rattle.std.specs.Prelude.{◌≡◌, ◌≢◌, ◌+◌, ◌==◌, if◌then◌else◌, ◌⊎◌, ℕ, List, [], ◌∷◌, ◌++◌, Contains, codes, Option, Some, None}
use Rattle.std.specs.Borrow.{Bor}
use Rattle.decode.specs.declared.insn.Reg.{Reg}

-- the byte is between the two parts, and not in the first
pub record IsSplit (byte : ℕ) (text front back : List ℕ) : Type 0 where
  pub whole : text ≡ front ++ byte ∷ back
  pub first : ¬ Contains front byte

-- r0 to r10
abbrev pub register_name : Reg → List ℕ
register_name r = if r.number == 10 then codes "r10" else (114 ∷ (48 + r.number) ∷ [])

-- the register of this name, if it is one
abbrev pub IsRegister : List ℕ → Option Reg → Type 0
IsRegister text (Some r) = text ≡ register_name r
IsRegister text None = (r : Reg) → text ≢ register_name r

-- two operands, with a comma and a space between them
abbrev pub AreOperands : List ℕ → Option (Bor (List ℕ) × Bor (List ℕ)) → Type 0
AreOperands text (Some x) = IsSplit 44 text x.0.now (32 ∷ x.1.now)
AreOperands text None = (a b : List ℕ) → IsSplit 44 text a (32 ∷ b) → ⊥

-- in brackets
abbrev pub IsBracketed : List ℕ → Option (Bor (List ℕ)) → Type 0
IsBracketed text (Some x) = text ≡ 91 ∷ (x.now ++ 93 ∷ [])
IsBracketed text None = (x : List ℕ) → text ≢ 91 ∷ (x ++ 93 ∷ [])

-- no plus and no minus
abbrev pub LacksSign : List ℕ → Type 0
LacksSign text = (¬ Contains text 43) × (¬ Contains text 45)

-- a plus or a minus first
abbrev pub BeginsWithSign : List ℕ → Type 0
BeginsWithSign [] = ⊥
BeginsWithSign (c ∷ cs) = (c ≡ 43) ⊎ (c ≡ 45)

-- cut before the first sign
abbrev pub IsCutAtSign : List ℕ → Option (Bor (List ℕ) × Bor (List ℕ)) → Type 0
IsCutAtSign text (Some x) = (text ≡ x.0.now ++ x.1.now) × LacksSign x.0.now × BeginsWithSign x.1.now
IsCutAtSign text None = LacksSign text
