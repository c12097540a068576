-- A text is cut at a byte in one way.
use Rattle.std.proofs.Common.{◌≡◌, ◌≢◌, ◌<◌, ℕ, suc, List, [], ◌∷◌, ◌++◌, length, get_or, Option, Some, None, refl, arith, Bor}
use Rattle.std.specs.Option.{MatchOption}
use Rattle.std.proofs.lemmas.Str.Pattern.{IsSplitOnceResult, split_parts}
use Rattle.scenario.specs.Inside.Reads.{Lacks, IsCut}

lacks_of : (byte : ℕ) (bs : List ℕ) → ((i : ℕ) → i < length bs → get_or bs i 0 ≢ byte) → Lacks byte bs
lacks_of byte [] h = tt
lacks_of byte (c ∷ cs) h = (h 0 (omega arith), lacks_of byte cs (λ i lt. h (suc i) (omega (arith, lt))))

from_parts : (byte : ℕ) (bs : List ℕ) (r : Option (Bor (List ℕ) × Bor (List ℕ)))
    → MatchOption r ((i : ℕ) → i < length bs → get_or bs i 0 ≢ byte) (λ x. (bs ≡ x.0.now ++ (byte ∷ x.1.now)) × ((i : ℕ) → i < length x.0.now → get_or x.0.now i 0 ≢ byte))
    → IsCut byte bs r
from_parts byte bs None h = lacks_of byte bs h
from_parts byte bs (Some x) h = (h.0, lacks_of byte x.0.now h.1)

-- what `split_once` gives
pub cut_of : (byte : ℕ) (bs : List ℕ) (r : Option (Bor (List ℕ) × Bor (List ℕ))) → IsSplitOnceResult byte bs r → byte < 128 → IsCut byte bs r
cut_of byte bs r h small = from_parts byte bs r (split_parts byte bs r h small)

pub one_cut : (byte : ℕ) (a b c d : List ℕ) → Lacks byte a → Lacks byte c → a ++ byte ∷ b ≡ c ++ byte ∷ d → (a ≡ c) × (b ≡ d)
one_cut byte [] b [] d la lc e = (refl, cc)
one_cut byte [] b (x ∷ xs) d la lc e = absurd (lc.0 cc)
one_cut byte (x ∷ xs) b [] d la lc e = absurd (la.0 cc)
one_cut byte (x ∷ xs) b (y ∷ ys) d la lc e =
    let rest : xs ++ byte ∷ b ≡ ys ++ byte ∷ d = cc in
    let more = one_cut byte xs b ys d la.1 lc.1 rest in
    (cc, more.1)

-- what has the byte doesn't lack it
pub has_cut : (byte : ℕ) (a b : List ℕ) → Lacks byte (a ++ byte ∷ b) → ⊥
has_cut byte [] b h = h.0 refl
has_cut byte (c ∷ cs) b h = has_cut byte cs b h.1
