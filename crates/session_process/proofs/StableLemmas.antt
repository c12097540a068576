-- What a checkpoint keeps of logs and senders, and that it acknowledges them
use Rattle.std.proofs.Common.{◌≡◌, ℕ, zero, suc, ◌+◌, ◌<◌, ◌≤◌, List, [], ◌∷◌, length, map, set, replicate, Bool, true, false, refl, sym, ap, ◌∙◌, arith}
use Rattle.std.specs.Prelude.{◌==◌, ◌&&◌, cond, count_by, slice_index_or}
use Rattle.std.specs.List.{list_all}
use Rattle.std.proofs.lemmas.Bool.Decides.{nat_tests}
use Rattle.std.proofs.lemmas.List.{get_or-set_same, get_or-set_other}
use Rattle.std.proofs.lemmas.List.Sums.{sum_by-cons}
use Rattle.limits.specs.declared.TheConstants.{PARTIES}
use Rattle.rsn.specs.Receipts.{run_of}
use Rattle.sender_log.specs.Queue.{TheQueue, no_queue}
use Rattle.checkpoint.specs.Saved.{TheKept, is_sender, kept_of, nothing_kept, queue_again}

pub at-map : {X Y : Type 0} (f : X → Y) (xs : List X) (d : ℕ) (e : X) → slice_index_or (map f xs) d (f e) ≡ f (slice_index_or xs d e)
at-map f [] d e = refl
at-map f (x ∷ xs) zero e = refl
at-map f (x ∷ xs) (suc d) e = at-map f xs d e

-- what is kept for a destination is what its queue has
pub kept-at : (queues : List TheQueue) (d : ℕ) → slice_index_or (map kept_of queues) d nothing_kept ≡ kept_of (slice_index_or queues d no_queue)
kept-at queues d = at-map kept_of queues d no_queue

-- and back
pub queue-at : (queues : List TheKept) (d : ℕ) → slice_index_or (map queue_again queues) d no_queue ≡ queue_again (slice_index_or queues d nothing_kept)
queue-at queues d = at-map queue_again queues d nothing_kept

-- no process above n sent any
pub none-above : (me n x : ℕ) → n < x → (xs : List ℕ) → list_all (is_sender me n) xs ≡ true → count_by (λ y. y == x) xs ≡ 0
none-above me n x above [] all = refl
none-above me n x above (y ∷ xs) all = by_sender (is_sender me n y) refl all (none-above me n x above xs)
  where
    by_sender : (b : Bool) → is_sender me n y ≡ b → (b && list_all (is_sender me n) xs) ≡ true → (list_all (is_sender me n) xs ≡ true → count_by (λ z. z == x) xs ≡ 0) → count_by (λ z. z == x) (y ∷ xs) ≡ 0
    by_sender true e rest before =
        let apart : (y == x) ≡ false = grind (arith, nat_tests) in
        sum_by-cons (λ z. cond (z == x) 1 0) y xs ∙ rw apart (omega (arith, before rest))
    by_sender false e rest before = absurd cc

-- one more of a row of counts is set
module _ (counts : List ℕ) (f : ℕ → ℕ) (k n : ℕ) (inside : k < length counts) (is : n ≡ f k) where
  pub counts-below : ((x : ℕ) → x < k → slice_index_or counts x 0 ≡ f x) → (x : ℕ) → x < k + 1 → slice_index_or (set counts k n) x 0 ≡ f x
  counts-below before x low = by_place (x == k) refl
    where
      by_place : (b : Bool) → (x == k) ≡ b → slice_index_or (set counts k n) x 0 ≡ f x
      by_place true e =
          let same : x ≡ k = grind (arith, nat_tests) in
          ap (λ j. slice_index_or (set counts k n) j 0) same ∙ get_or-set_same counts k n 0 inside ∙ is ∙ sym (ap f same)
      by_place false e = get_or-set_other counts k x n 0 (grind (arith, nat_tests)) ∙ before x (grind (arith, nat_tests))

  pub counts-above : ((x : ℕ) → x < PARTIES → k ≤ x → slice_index_or counts x 0 ≡ 0) → (x : ℕ) → x < PARTIES → k + 1 ≤ x → slice_index_or (set counts k n) x 0 ≡ 0
  counts-above before x small high = get_or-set_other counts k x n 0 (λ e. absurd (omega (arith, e, high))) ∙ before x small (omega (arith, high))

-- of queues that nothing was sent to, nothing is kept
pub none-kept : (n : ℕ) → map kept_of (replicate n no_queue) ≡ replicate n nothing_kept
none-kept zero = refl
none-kept (suc n) = ap (λ ks. nothing_kept ∷ ks) (none-kept n)

-- a list that has one value everywhere
pub at-replicate : {X : Type 0} (n d : ℕ) (x : X) → slice_index_or (replicate n x) d x ≡ x
at-replicate zero d x = refl
at-replicate (suc n) zero x = refl
at-replicate (suc n) (suc d) x = at-replicate n d x

-- where all are acknowledged the run is all
pub run-replicate : (n : ℕ) → run_of (replicate n true) ≡ n
run-replicate zero = refl
run-replicate (suc n) = ap suc (run-replicate n)
