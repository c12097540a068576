-- The worked runs of what a node keeps
use Rattle.std.proofs.Common.{inl, inr, ℕ, List, take, refl, arith}
use Rattle.world.specs.declared.message.Message.{Message}
use Rattle.world.specs.Worked.{relaying}
use Rattle.cluster.specs.Cluster.{opening}
use Rattle.cluster.specs.Rules.{IsAll, Run}
use Rattle.cluster.specs.WorkedPieces.{one_after}
use Rattle.cluster.specs.WorkedSizes.{told_and_dies, saved_lost, MemoryIsFilled, ToldAgain, SavedMayBeLost}
use Rattle.cluster.proofs.Chains.{◌▸◌, few, apart, of-one}

pub memory-is-filled : MemoryIsFilled
memory-is-filled g x = (refl, refl, refl, refl, refl, refl, refl, refl, refl, refl, refl, refl, refl, refl, refl)

told-and-dies : (g : ℕ → List Message → List ℕ) (x : List ℕ) → Run (opening 1 (relaying 0 g)) (told_and_dies x)
told-and-dies g x =
    (omega arith, omega arith)
    ▸ (omega arith, omega arith, apart 0 1 refl, (refl, refl, omega arith, omega arith, refl))
    ▸ (inl refl, ((omega arith, omega arith), refl, refl, refl, refl, few 0 (omega arith)))
    ▸ ((omega arith, omega arith), refl, refl)
    ▸ (omega arith, omega arith, apart 1 0 refl, (refl, refl, record { message = _; at = refl; sender = refl; ssn = refl }))
    ▸ (inl refl, (refl, refl, refl))
    ▸ (inl refl, ((omega arith, omega arith), refl, refl, omega arith, refl))
    ▸ (omega arith, omega arith, apart 1 0 refl, (refl, refl, omega arith, omega arith, refl))
    ▸ (inl refl, (refl, refl))
    ▸ (omega arith, omega arith, apart 0 1 refl, (refl, refl))
    ▸ (inl refl, refl)
    ▸ ((omega arith, omega arith), λ e. absurd (cc))
    ▸ ((omega arith, omega arith), refl)
    ▸ (omega arith, omega arith, apart 1 0 refl, (refl, refl, refl))
    ▸ (inl refl, (omega arith, inl refl))
    ▸ (omega arith, omega arith, apart 0 1 refl, (refl, refl, refl, λ v e. absurd (cc), λ m a e. refl))
    ▸ (inl refl, (refl, refl, omega arith, refl))
    ▸ ((omega arith, omega arith), refl, of-one (λ q. IsAll ((one_after g (take 17 (told_and_dies x))).told 1 q)) refl, omega arith, refl, refl)
    ▸ ((omega arith, omega arith), refl, refl)
    ▸ (omega arith, omega arith, apart 1 0 refl, (refl, refl, refl, refl, refl))
    ▸ (inl refl, (refl, refl, refl, λ m e. absurd (cc)))
    ▸ (omega arith, omega arith, apart 0 1 refl, (refl, refl, refl, λ m e. absurd (cc), refl, refl, λ v e. absurd (cc), λ ssn a e. refl))
    ▸ (inl refl, (refl, refl, refl, refl))
    ▸ tt

pub told-again : ToldAgain
told-again g x = (told-and-dies g x, refl, refl, refl, refl, refl)

makes-up : (g : ℕ → List Message → List ℕ) (x y : List ℕ) → Run (opening 1 (relaying 0 g)) (saved_lost x y)
makes-up g x y =
    (omega arith, omega arith)
    ▸ (omega arith, omega arith, apart 0 1 refl, (refl, refl, omega arith, omega arith, refl))
    ▸ (inl refl, ((omega arith, omega arith), refl, refl, refl, refl, few 0 (omega arith)))
    ▸ ((omega arith, omega arith), refl, refl)
    ▸ ((omega arith, omega arith), refl, refl)
    ▸ ((omega arith, omega arith), refl)
    ▸ ((omega arith, omega arith), refl, refl)
    ▸ (omega arith, omega arith, apart 1 0 refl, (refl, refl))
    ▸ (omega arith, omega arith)
    ▸ (omega arith, omega arith, apart 0 1 refl, (refl, refl, omega arith, omega arith, refl))
    ▸ (inl refl, ((omega arith, omega arith), refl, refl, refl, refl, few 0 (omega arith)))
    ▸ ((omega arith, omega arith), refl, refl)
    ▸ ((omega arith, omega arith), refl, refl)
    ▸ ((omega arith, omega arith), refl)
    ▸ ((omega arith, omega arith), refl, refl)
    ▸ (omega arith, omega arith, apart 1 0 refl, (refl, refl))
    ▸ (inl refl, refl)
    ▸ (inr (inr (inl refl)), refl)
    ▸ tt

pub saved-may-be-lost : SavedMayBeLost
saved-may-be-lost g x y = (makes-up g x y, refl, refl, refl, refl)
