-- The run of numbers that hold
use Rattle.std.proofs.Common.{◌≡◌, ℕ, zero, suc, ◌<◌, ◌≤◌, Bool, true, false, refl, ap, ◌∙◌, arith}
use Rattle.std.specs.Prelude.{if◌then◌else◌, ◌==◌, nat_le}
use Rattle.std.proofs.lemmas.Bool.Decides.{nat_tests}
use Rattle.world.specs.Logs.{all_to, run_to}
use Rattle.theorems.proofs.Tests.{both}

pub all_to-each : (f : ℕ → Bool) (n : ℕ) → all_to f n ≡ true → (m : ℕ) → 0 < m → m ≤ n → f m ≡ true
all_to-each f zero e m a b = absurd (omega arith)
all_to-each f (suc n) e m a b = split (m == suc n) refl (both (f (suc n)) (all_to f n) e) (all_to-each f n)
  where
    split : (c : Bool) → (m == suc n) ≡ c → (f (suc n) ≡ true) × (all_to f n ≡ true) → (all_to f n ≡ true → (k : ℕ) → 0 < k → k ≤ n → f k ≡ true) → f m ≡ true
    split true e h less = let same : m ≡ suc n = grind (arith, nat_tests) in ap f same ∙ h.0
    split false e h less = less h.1 m a (grind (arith, nat_tests))

pub all_to-all : (f : ℕ → Bool) (n : ℕ) → ((m : ℕ) → 0 < m → m ≤ n → f m ≡ true) → all_to f n ≡ true
all_to-all f zero all = refl
all_to-all f (suc n) all =
    let last : f (suc n) ≡ true = all (suc n) (omega arith) (omega arith) in
    let less : all_to f n ≡ true = all_to-all f n (λ m a b. all m a (omega arith)) in
    rw (last, less) refl

-- a run is at most n, and all numbers up to its end hold
pub run_to-is : (f : ℕ → Bool) (n : ℕ) → (run_to f n ≤ n) × ((m : ℕ) → 0 < m → m ≤ run_to f n → f m ≡ true)
run_to-is f zero = (omega arith, λ m a b. absurd (omega arith))
run_to-is f (suc n) = split (all_to f (suc n)) refl (run_to-is f n)
  where
    split : (b : Bool) → all_to f (suc n) ≡ b → (run_to f n ≤ n) × ((m : ℕ) → 0 < m → m ≤ run_to f n → f m ≡ true)
        → ((if b then suc n else run_to f n) ≤ suc n) × ((m : ℕ) → 0 < m → m ≤ (if b then suc n else run_to f n) → f m ≡ true)
    split true e less = (omega arith, all_to-each f (suc n) e)
    split false e less = (let l : run_to f n ≤ n = less.0 in omega arith, less.1)

-- and no number up to which all hold is greater
pub run_to-most : (f : ℕ → Bool) (n k : ℕ) → k ≤ n → ((m : ℕ) → 0 < m → m ≤ k → f m ≡ true) → k ≤ run_to f n
run_to-most f zero k l all = omega arith
run_to-most f (suc n) k l all = split (all_to f (suc n)) refl (nat_le k n) refl (run_to-most f n k)
  where
    split : (b : Bool) → all_to f (suc n) ≡ b → (c : Bool) → nat_le k n ≡ c → (k ≤ n → ((m : ℕ) → 0 < m → m ≤ k → f m ≡ true) → k ≤ run_to f n) → k ≤ (if b then suc n else run_to f n)
    split true e c t less = l
    split false e true t less = less (grind (arith, nat_tests)) all
    split false e false t less = absurd (let same : k ≡ suc n = grind (arith, nat_tests) in let u : all_to f k ≡ true = all_to-all f k all in let v : all_to f (suc n) ≡ true = rw same at u in cc)

-- if all hold, the run is all of them
pub run_to-whole : (f : ℕ → Bool) (n : ℕ) → ((m : ℕ) → 0 < m → m ≤ n → f m ≡ true) → run_to f n ≡ n
run_to-whole f n all = let a : run_to f n ≤ n = (run_to-is f n).0 in let b : n ≤ run_to f n = run_to-most f n n (omega arith) all in omega arith

-- if more numbers hold, no run is shorter
pub run_to-more : (f g : ℕ → Bool) (n : ℕ) → ((m : ℕ) → f m ≡ true → g m ≡ true) → run_to f n ≤ run_to g n
run_to-more f g n more = let i = run_to-is f n in run_to-most g n (run_to f n) i.0 (λ m a b. more m (i.1 m a b))

-- a number that doesn't hold ends it
pub run_to-ends : (f : ℕ → Bool) (n : ℕ) → f (suc n) ≡ false → run_to f (suc n) ≡ run_to f n
run_to-ends f n e = rw e refl
