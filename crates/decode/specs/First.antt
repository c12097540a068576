-- The first of several causes.
use Rattle.std.specs.Prelude.{◌≡◌, ◌⊎◌, List, [], ◌∷◌}

-- r is the first of these causes that holds
unfoldable pub IsFirst : {Q : Type 0} → (Q → Type 0) → List Q → Q → Type 0
IsFirst Holds [] r = ⊥
IsFirst Holds (q ∷ qs) r = ((r ≡ q) × Holds q) ⊎ ((¬ Holds q) × IsFirst Holds qs r)
