-- One moment more.
use Rattle.std.proofs.Common.{◌≡◌, ◌∙◌, ℕ, ◌+◌, ◌<◌, List, [], ◌∷◌, ◌++◌, fold, length, take, get_or, sym, ap}
use Rattle.std.proofs.lemmas.List.{take_more}
use Rattle.std.proofs.lemmas.List.Sums.{fold-append}

-- after the one at i
pub one_more_moment : {S X : Type 0} (f : S → X → S) (first : S) (xs : List X) (i : ℕ) (d x : X) (old new : S) → i < length xs → x ≡ get_or xs i d
    → old ≡ fold f first (take i xs) → new ≡ f old x → new ≡ fold f first (take (i + 1) xs)
one_more_moment f first xs i d x old new lt is before more =
    more ∙ ap (λ o. f o x) before ∙ sym (fold-append f first (take i xs) (x ∷ []))
    ∙ ap (λ y. fold f first (take i xs ++ y ∷ [])) is
    ∙ ap (fold f first) (sym (take_more xs i d lt))
