-- How many of 0, 1, .. below a number pass a test
use Rattle.std.proofs.Common.{◌≡◌, ℕ, zero, suc, ◌+◌, ◌<◌, ◌≤◌, List, [], ◌∷◌, length, Bool, true, false, refl, sym, ap, ◌∙◌, arith}
use Rattle.std.specs.Prelude.{if◌then◌else◌, ◌==◌, count_by, cond, slice_index_or}
use Rattle.std.proofs.lemmas.Bool.Decides.{nat_tests}
use Rattle.std.proofs.lemmas.List.Sums.{sum_by-cons}
use Rattle.world.specs.World.{put}
use Rattle.world.specs.Bounds.{count_below}
use Rattle.world.specs.Refusals.{one_if}

-- tests that agree below n
pub count_below-same : (f g : ℕ → Bool) (n : ℕ) → ((k : ℕ) → k < n → f k ≡ g k) → count_below f n ≡ count_below g n
count_below-same f g zero same = refl
count_below-same f g (suc n) same =
    let e = count_below-same f g n (λ k h. same k (omega arith)) in
    rw (same n (omega arith), e) refl

-- the first one apart
pub count_below-shift : (f : ℕ → Bool) (n : ℕ) → count_below f (suc n) ≡ (if f 0 then 1 else 0) + count_below (λ k. f (suc k)) n
count_below-shift f zero = refl
count_below-shift f (suc n) = omega (arith, count_below-shift f n)

-- none passes from a on
pub count_below-more : (f : ℕ → Bool) (a j : ℕ) → ((k : ℕ) → a ≤ k → f k ≡ false) → count_below f (a + j) ≡ count_below f a
count_below-more f a zero none = let e : a + 0 ≡ a = omega arith in rw e refl
count_below-more f a (suc j) none =
    let e : a + suc j ≡ suc (a + j) = omega arith in
    rw e (rw (none (a + j) (omega arith)) (omega (arith, count_below-more f a j none)))

-- a test on the elements of a list
pub count_below-list : {X : Type 0} (t : X → Bool) (f : ℕ → Bool) (xs : List X) → ((p : ℕ) (d : X) → p < length xs → t (slice_index_or xs p d) ≡ f p) → count_by t xs ≡ count_below f (length xs)
count_below-list t f [] same = refl
count_below-list t f (x ∷ xs) same =
    let first : t x ≡ f 0 = same 0 x (omega arith) in
    let rest = count_below-list t (λ k. f (suc k)) xs (λ p d h. same (suc p) d (omega arith)) in
    sum_by-cons (λ e. cond (t e) 1 0) x xs ∙ rw (first, rest) (sym (count_below-shift f (length xs)))

put-above : (f : ℕ → Bool) (p n : ℕ) (b : Bool) → n ≤ p → count_below (put f p b) n ≡ count_below f n
put-above f p n b h = count_below-same (put f p b) f n (λ k below. let e : (k == p) ≡ false = grind (arith, nat_tests) in rw e refl)

put-split : (f : ℕ → Bool) (p n : ℕ) (b c : Bool) → (n == p) ≡ c → (c ≡ false → count_below (put f p b) n + one_if (f p) ≡ count_below f n + one_if b) → count_below (put f p b) (suc n) + one_if (f p) ≡ count_below f (suc n) + one_if b
put-split f p n b true e rest =
    let same : n ≡ p = grind (arith, nat_tests) in
    let above = put-above f p n b (omega arith) in
    let at : f n ≡ f p = ap f same in
    rw (e, above) (rw at (swapped b (f p) (count_below f n)))
  where
    swapped : (b c : Bool) (k : ℕ) → (if b then 1 else 0) + k + one_if c ≡ (if c then 1 else 0) + k + one_if b
    swapped true true k = refl
    swapped true false k = omega arith
    swapped false true k = omega arith
    swapped false false k = refl
put-split f p n b false e rest = rw e (omega (arith, rest refl))

-- the answer of one number below n changes
pub count_below-put : (f : ℕ → Bool) (p n : ℕ) (b : Bool) → p < n → count_below (put f p b) n + one_if (f p) ≡ count_below f n + one_if b
count_below-put f p zero b h = absurd (omega arith)
count_below-put f p (suc n) b h = put-split f p n b (n == p) refl (λ ne. count_below-put f p n b (grind (arith, nat_tests)))
