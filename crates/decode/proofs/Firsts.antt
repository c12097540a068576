-- Which of several causes is the first.
use Rattle.std.proofs.Common.{◌≡◌, List, [], ◌∷◌, refl, sym, ap, subst, ◌∙◌, inl, inr}
use Rattle.decode.specs.First.{IsFirst}

-- a cause that holds is the first of those that it heads
pub stops : {Q : Type 0} (P : Q → Type 0) (q : Q) (qs : List Q) → P q → IsFirst P (q ∷ qs) q
unfolding IsFirst
stops P q qs holds = inl (refl, holds)

-- a cause that doesn't hold is passed over
pub passes : {Q : Type 0} (q : Q) (P : Q → Type 0) (qs : List Q) (r : Q) → (¬ P q) → IsFirst P qs r → IsFirst P (q ∷ qs) r
unfolding IsFirst
passes q P qs r fine later = inr (fine, later)

-- the first cause holds
pub first_holds : {Q : Type 0} (P : Q → Type 0) (qs : List Q) (r : Q) → IsFirst P qs r → P r
unfolding IsFirst
first_holds P [] r first = absurd first
first_holds P (q ∷ qs) r (inl here) = subst P (sym here.0) here.1
first_holds P (q ∷ qs) r (inr later) = first_holds P qs r later.1

-- and there is one first cause only
pub first_once : {Q : Type 0} (P : Q → Type 0) (qs : List Q) (r s : Q) → IsFirst P qs r → IsFirst P qs s → r ≡ s
unfolding IsFirst
first_once P [] r s a b = absurd a
first_once P (q ∷ qs) r s (inl a) (inl b) = a.0 ∙ sym b.0
first_once P (q ∷ qs) r s (inl a) (inr b) = absurd (b.0 a.1)
first_once P (q ∷ qs) r s (inr a) (inl b) = absurd (a.0 b.1)
first_once P (q ∷ qs) r s (inr a) (inr b) = first_once P qs r s a.1 b.1
