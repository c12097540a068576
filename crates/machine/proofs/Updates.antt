-- One key of a function, or one place of a list, changes
use Rattle.std.proofs.Common.{◌≡◌, ◌≢◌, ℕ, suc, ◌-◌, ◌<◌, ◌≤◌, List, length, Bool, true, false, refl, sym, ap, ◌∙◌, subst, arith, set}
use Rattle.std.specs.Prelude.{if◌then◌else◌, ◌==◌, slice_index_or}
use Rattle.std.proofs.lemmas.Bool.Decides.{nat_tests}
use Rattle.std.proofs.lemmas.List.{get_or-set_same, get_or-set_other, length-set}
use Rattle.world.specs.World.{put}

put-split : {X : Type 0} (f g : ℕ → X) (k : ℕ) (x : X) → g k ≡ x → ((j : ℕ) → j ≢ k → g j ≡ f j) → (j : ℕ) (b : Bool) → (j == k) ≡ b → (if b then x else f j) ≡ g j
put-split f g k x now others j true e = let same : j ≡ k = grind (arith, nat_tests) in sym (ap g same ∙ now)
put-split f g k x now others j false e = sym (others j (grind (arith, nat_tests)))

-- a function that has x at k and is f elsewhere
pub put-is : {X : Type 0} (f g : ℕ → X) (k : ℕ) (x : X) → g k ≡ x → ((j : ℕ) → j ≢ k → g j ≡ f j) → (j : ℕ) → put f k x j ≡ g j
put-is f g k x now others j = put-split f g k x now others j (j == k) refl

set-split : {X : Type 0} (P : ℕ → Bool → X → Type 0) (xs : List X) (to : ℕ) (y : X) → 0 < to → to ≤ length xs → P (to - 1) true y → ((p : ℕ) (d : X) → p < length xs → P p false (slice_index_or xs p d))
    → (p : ℕ) (d : X) → p < length xs → (b : Bool) → (suc p == to) ≡ b → P p b (slice_index_or (set xs (to - 1) y) p d)
set-split P xs to y positive within now others p d h true e =
    let same : p ≡ to - 1 = grind (arith, nat_tests) in
    let inside : to - 1 < length xs = omega arith in
    let at : slice_index_or (set xs (to - 1) y) p d ≡ y = ap (λ q. slice_index_or (set xs (to - 1) y) q d) same ∙ get_or-set_same xs (to - 1) y d inside in
    subst (P p true) (sym at) (subst (λ q. P q true y) (sym same) now)
set-split P xs to y positive within now others p d h false e =
    let apart : p ≢ to - 1 = grind (arith, nat_tests) in
    subst (P p false) (sym (get_or-set_other xs (to - 1) p y d apart)) (others p d h)

-- what holds of each process of a list, and of the new one of number to, holds after it has changed
pub set-is : {X : Type 0} (P : ℕ → Bool → X → Type 0) (xs : List X) (to : ℕ) (y : X) → 0 < to → to ≤ length xs → P (to - 1) true y → ((p : ℕ) (d : X) → p < length xs → P p false (slice_index_or xs p d))
    → (p : ℕ) (d : X) → p < length (set xs (to - 1) y) → P p (suc p == to) (slice_index_or (set xs (to - 1) y) p d)
set-is P xs to y positive within now others p d h = set-split P xs to y positive within now others p d (let e = length-set xs (to - 1) y in omega (arith, e, h)) (suc p == to) refl
