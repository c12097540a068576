-- Texts, one after the other.
use Rattle.std.proofs.Common.{◌≡◌, ◌∙◌, ℕ, ◌+◌, List, ◌++◌, sym, ap, add-one, append_assoc, append-nil}
use Rattle.listing.specs.Listing.{texts_below}

-- one text more
pub texts_more : (text : ℕ → List ℕ) (n : ℕ) (start old new : List ℕ) → old ≡ start ++ texts_below text n → new ≡ old ++ text n → new ≡ start ++ texts_below text (n + 1)
unfolding texts_below
texts_more text n start old new before written =
    written ∙ ap (λ t. t ++ text n) before ∙ append_assoc start (texts_below text n) (text n) ∙ ap (λ k. start ++ texts_below text k) (sym (add-one n))

-- none yet
pub texts_none : (text : ℕ → List ℕ) (start : List ℕ) → start ≡ start ++ texts_below text 0
unfolding texts_below
texts_none text start = sym (append-nil start)

-- one text after another
pub joined : (old a mid b new text : List ℕ) → mid ≡ old ++ a → new ≡ mid ++ b → a ++ b ≡ text → new ≡ old ++ text
joined old a mid b new text e h t = h ∙ ap (λ x. x ++ b) e ∙ append_assoc old a b ∙ ap (λ x. old ++ x) t
