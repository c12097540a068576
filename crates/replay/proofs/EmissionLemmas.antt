-- The payloads for one destination
use Rattle.std.proofs.Common.{◌≡◌, ℕ, List, [], ◌∷◌, ◌++◌, Bool, true, false, refl, ap}
use Rattle.std.specs.Prelude.{if◌then◌else◌, ◌==◌}
use Rattle.helpers.specs.declared.effects.Sent.{Sent}
use Rattle.replay.specs.Emission.{payloads_to}

pub payloads_to-append : (d : ℕ) (xs ys : List Sent) → payloads_to d (xs ++ ys) ≡ payloads_to d xs ++ payloads_to d ys
payloads_to-append d [] ys = refl
payloads_to-append d (x ∷ xs) ys = split (x.dst == d) (payloads_to-append d xs ys)
  where
    split : (b : Bool) → payloads_to d (xs ++ ys) ≡ payloads_to d xs ++ payloads_to d ys
        → (if b then x.payload ∷ payloads_to d (xs ++ ys) else payloads_to d (xs ++ ys)) ≡ (if b then x.payload ∷ payloads_to d xs else payloads_to d xs) ++ payloads_to d ys
    split true e = ap (λ zs. x.payload ∷ zs) e
    split false e = e
