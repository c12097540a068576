-- A text is cut at a byte in one way.
use Rattle.std.proofs.Common.{◌≡◌, ℕ, List, [], ◌∷◌, ◌++◌, refl, sym, subst, zero, suc, arith, ◌∙◌}
use Rattle.std.specs.Prelude.{Contains}
use Rattle.std.proofs.lemmas.List.Elements.{Contains-append_right}
use Rattle.assemble.specs.Inside.Split.{IsSplit}

abbrev pub lacks : ℕ → List ℕ → Type 0
lacks byte [] = Unit {0}
lacks byte (c ∷ cs) = (c ≡ byte → ⊥) × lacks byte cs

-- a text is cut at the first of such bytes in one way
pub one_cut : (byte : ℕ) (a b c d : List ℕ) → lacks byte a → lacks byte c → a ++ byte ∷ b ≡ c ++ byte ∷ d → (a ≡ c) × (b ≡ d)
one_cut byte [] b [] d la lc e = (refl, cc)
one_cut byte [] b (x ∷ xs) d la lc e = absurd (lc.0 cc)
one_cut byte (x ∷ xs) b [] d la lc e = absurd (la.0 cc)
one_cut byte (x ∷ xs) b (y ∷ ys) d la lc e =
    let rest : xs ++ byte ∷ b ≡ ys ++ byte ∷ d = cc in
    let more = one_cut byte xs b ys d la.1 lc.1 rest in
    (cc, more.1)

here : (byte c : ℕ) (cs : List ℕ) → c ≡ byte → Contains (c ∷ cs) byte
here byte c cs e = (0, omega arith, e)

there : (byte c : ℕ) (cs : List ℕ) → Contains cs byte → Contains (c ∷ cs) byte
there byte c cs k = (suc k.0, omega (arith, k.1), k.2)

-- a text that doesn't contain the byte lacks it
pub absent : (byte : ℕ) (a : List ℕ) → ¬ Contains a byte → lacks byte a
absent byte [] h = tt
absent byte (c ∷ cs) h = (λ e. h (here byte c cs e), absent byte cs (λ k. h (there byte c cs k)))

-- and one that lacks it doesn't contain it
pub contains : (byte : ℕ) (a : List ℕ) → lacks byte a → ¬ Contains a byte
contains byte [] la has = absurd (omega (arith, has.1))
contains byte (c ∷ cs) la (zero, lt, e) = la.0 e
contains byte (c ∷ cs) la (suc k, lt, e) = contains byte cs la.1 (k, omega arith, e)

-- what `split_once` gives is one pair of parts
pub one_split : (byte : ℕ) (text a b c d : List ℕ) → IsSplit byte text a b → IsSplit byte text c d → (a ≡ c) × (b ≡ d)
one_split byte text a b c d p q = one_cut byte a b c d (absent byte a p.first) (absent byte c q.first) (sym p.whole ∙ q.whole)

-- a text that is split contains the byte
pub present : (byte : ℕ) (text a b : List ℕ) → IsSplit byte text a b → Contains text byte
present byte text a b s = subst (λ (t : List ℕ). Contains t byte) (sym s.whole) (Contains-append_right a (byte ∷ b) byte (here byte byte b refl))
