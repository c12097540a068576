-- Why a call is not answered.
use Rattle.std.proofs.Common.{◌≡◌, ◌≢◌, refl}
use Rattle.page_calls.specs.Calls.{Call, IsNotCall}
use Rattle.page_calls.specs.declared.misfit.Misfit.{Misfit}
use Rattle.page_calls.specs.declared.misfit.Misfit.TheVariants.{Shape, Memory, Room}

-- parts that don't fit are the call's
pub not-call : (c : Call) → (e : Misfit) → e ≢ Room → (e ≡ Shape → IsNotCall c Shape) → IsNotCall c e
not-call c Shape room shape = shape refl
not-call c Memory room shape = tt {0}
not-call c Room room shape = room refl
