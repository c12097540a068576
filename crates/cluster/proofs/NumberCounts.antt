-- A history has a message for each number that one has of it
use Rattle.std.proofs.Common.{◌≡◌, ℕ, zero, suc, ◌+◌, ◌<◌, ◌≤◌, List, [], ◌∷◌, ◌++◌, length, take, drop, Bool, true, false, refl, subst, arith}
use Rattle.std.specs.Prelude.{Some, if◌then◌else◌}
use Rattle.world.specs.declared.message.Message.{Message}
use Rattle.world.specs.History.{nth}
use Rattle.world.specs.Bounds.{count_below}
use Rattle.theorems.proofs.ListLemmas.{take-next, take-take, take-length, nth-within}
use Rattle.cluster.specs.Memory.{how_many}
use Rattle.cluster.proofs.MemoryLemmas.{many-take}

-- one message more behind the first k, if it passes the test
many-more : (test : Message → Bool) (k : ℕ) (h : List Message) (m : Message) → k ≤ length h → test m ≡ true → suc (how_many test (drop k h)) ≤ how_many test (drop k (h ++ m ∷ []))
many-more test zero [] m l e = rw e (omega arith)
many-more test zero (x ∷ h) m l e = let r : suc (how_many test (drop 0 h)) ≤ how_many test (drop 0 (h ++ m ∷ [])) = many-more test zero h m (omega arith) e in omega arith
many-more test (suc k) [] m l e = absurd (omega arith)
many-more test (suc k) (x ∷ h) m l e = many-more test k h m (omega arith) e

-- numbers above s, each of a message of h that passes the test
module _ (test : Message → Bool) (s : ℕ) (h : List Message) (f : ℕ → Bool) (is : (m : ℕ) → f m ≡ true → (s < m) × (x : Message) × (nth h m ≡ Some x) × (test x ≡ true)) where
  -- up to k there are no more of them than such messages
  few-up-to : (k : ℕ) → count_below f (suc k) ≤ how_many test (drop s (take k h))
  few-up-to zero = split (f 0) refl
    where
      split : (t : Bool) → f 0 ≡ t → (if t then 1 else 0) + 0 ≤ how_many test (drop s (take 0 h))
      split true e = absurd (let l : s < 0 = (is 0 e).0 in omega arith)
      split false e = omega arith
  few-up-to (suc k) = split (f (suc k)) refl (few-up-to k)
    where
      split : (t : Bool) → f (suc k) ≡ t → count_below f (suc k) ≤ how_many test (drop s (take k h)) → (if t then 1 else 0) + count_below f (suc k) ≤ how_many test (drop s (take (suc k) h))
      split true e r =
          let t = is (suc k) e in
          let low : s < suc k = t.0 in
          let high : suc k ≤ length h = (nth-within h (suc k) t.1 t.2).1 in
          let long : length (take k h) ≡ k = take-length h k (omega arith) in
          let more : suc (how_many test (drop s (take k h))) ≤ how_many test (drop s (take k h ++ t.1 ∷ [])) = many-more test s (take k h) t.1 (omega arith) t.3 in
          rw (take-next h k t.1 t.2) (omega arith)
      split false e r =
          let more : how_many test (drop s (take k (take (suc k) h))) ≤ how_many test (drop s (take (suc k) h)) = many-take test s k (take (suc k) h) in
          let same : take k (take (suc k) h) ≡ take k h = take-take h k (suc k) (omega arith) in
          let P : List Message → Type 0 = λ z. how_many test (drop s z) ≤ how_many test (drop s (take (suc k) h)) in
          let less : how_many test (drop s (take k h)) ≤ how_many test (drop s (take (suc k) h)) = subst P same more in
          omega arith

  pub few-numbers : (k : ℕ) → count_below f k ≤ how_many test (drop s h)
  few-numbers zero = omega arith
  few-numbers (suc k) =
      let a : count_below f (suc k) ≤ how_many test (drop s (take k h)) = few-up-to k in
      let b : how_many test (drop s (take k h)) ≤ how_many test (drop s h) = many-take test s k h in
      omega arith
