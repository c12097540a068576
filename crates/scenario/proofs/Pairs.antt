-- Two values with a space between them.
use Rattle.std.proofs.Common.{◌≡◌, ℕ, List, ◌∷◌, ◌++◌, Some, None, sym, ap₂, subst, ◌∙◌}
use Rattle.scenario.specs.Inside.Reads.{Lacks, Reads, spaced, Both}
use Rattle.scenario.proofs.Cuts.{one_cut, has_cut}

module _ {A B : Type 0} (f : A → List ℕ) (g : B → List ℕ) (F : A → Type 0) (G : B → Type 0) (text : List ℕ) where
  -- what has no space is no pair
  pub no_space : Lacks 32 text → Reads (spaced f g) (Both F G) text None
  no_space lacks v fits is = has_cut 32 (f v.0) (g v.1) (subst (λ (t : List ℕ). Lacks 32 t) is lacks)

  module _ (fine : (a : A) → F a → Lacks 32 (f a)) (x y : List ℕ) (whole : text ≡ x ++ 32 ∷ y) (first : Lacks 32 x) where
    parts : (v : A × B) → F v.0 → text ≡ spaced f g v → (x ≡ f v.0) × (y ≡ g v.1)
    parts v fits is = one_cut 32 x y (f v.0) (g v.1) first (fine v.0 fits) (sym whole ∙ is)

    -- nor is what has no left part
    pub no_left : Reads f F x None → Reads (spaced f g) (Both F G) text None
    no_left none v fits is = none v.0 fits.0 (parts v fits.0 is).0

    -- nor what has no right part
    pub no_right : Reads g G y None → Reads (spaced f g) (Both F G) text None
    no_right none v fits is = none v.1 fits.1 (parts v fits.0 is).1

  -- both parts make the pair
  pub both_parts : (x y : List ℕ) (a : A) (b : B) → text ≡ x ++ 32 ∷ y → Reads f F x (Some a) → Reads g G y (Some b) → Reads (spaced f g) (Both F G) text (Some (a, b))
  both_parts x y a b whole left right = (whole ∙ ap₂ (λ l r. l ++ 32 ∷ r) left.0 right.0, (left.1, right.1))
