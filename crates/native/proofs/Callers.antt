-- The registers that belong to the caller, one by one.
use Rattle.std.proofs.Common.{◌≡◌, ℕ, zero, suc, Some, subst}
use Rattle.std.specs.Prelude.{slice_get}
use Rattle.x86.specs.Machine.{State, value}
use Rattle.native.specs.Worked.{KeepsCallers, callers}

pub keeps_callers : (c last : State) → value last 3 ≡ value c 3 → value last 5 ≡ value c 5 → value last 12 ≡ value c 12 → value last 13 ≡ value c 13 → value last 14 ≡ value c 14 → value last 15 ≡ value c 15 → KeepsCallers c last
keeps_callers c last rbx rbp r12 r13 r14 r15 = kept
  where
    Kept : ℕ → Type 0
    Kept r = value last r ≡ value c r

    kept : (k r : ℕ) → slice_get callers k ≡ Some r → value last r ≡ value c r
    kept zero r g = let e : 3 ≡ r = cc in subst Kept e rbx
    kept (suc zero) r g = let e : 5 ≡ r = cc in subst Kept e rbp
    kept (suc (suc zero)) r g = let e : 12 ≡ r = cc in subst Kept e r12
    kept (suc (suc (suc zero))) r g = let e : 13 ≡ r = cc in subst Kept e r13
    kept (suc (suc (suc (suc zero)))) r g = let e : 14 ≡ r = cc in subst Kept e r14
    kept (suc (suc (suc (suc (suc zero))))) r g = let e : 15 ≡ r = cc in subst Kept e r15
    kept (suc (suc (suc (suc (suc (suc k)))))) r g = cc
