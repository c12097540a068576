-- The worked runs of deaths
use Rattle.std.proofs.Common.{◌≡◌, inl, inr, ℕ, List, ◌++◌, take, refl, arith}
use Rattle.world.specs.declared.message.Message.{Message}
use Rattle.world.specs.Worked.{relaying}
use Rattle.cluster.specs.Cluster.{opening}
use Rattle.cluster.specs.Rules.{IsAll, Run, after_run}
use Rattle.cluster.specs.WorkedPieces.{resumes, restores, no_numbers}
use Rattle.cluster.specs.WorkedDeaths.{gap_closed, told_again, not_durable, durable, two_answer, NumberIsLost, DiesWhileCollecting, DiesAtCheckpoint, AllHaveToAnswer}
use Rattle.cluster.proofs.Chains.{◌▸◌, few, apart, of-one, one-of-three}

-- the run in which the RSN of the first message is lost
pub closes : (g : ℕ → List Message → List ℕ) (x y : List ℕ) → Run (opening 1 (relaying 0 g)) (gap_closed x y)
closes g x y =
    (omega arith, omega arith)
    ▸ (omega arith, omega arith, apart 0 1 refl, (refl, refl, omega arith, omega arith, refl))
    ▸ (inl refl, ((omega arith, omega arith), refl, refl, refl, refl, few 0 (omega arith)))
    ▸ ((omega arith, omega arith), refl, refl)
    ▸ (omega arith, omega arith)
    ▸ (omega arith, omega arith, apart 0 1 refl, (refl, refl, omega arith, omega arith, refl))
    ▸ (inl refl, ((omega arith, omega arith), refl, refl, refl, refl, few 1 (omega arith)))
    ▸ ((omega arith, omega arith), refl, refl)
    ▸ (omega arith, omega arith, apart 1 0 refl, (refl, refl, record { message = _; at = refl; sender = refl; ssn = refl }))
    ▸ (omega arith, omega arith, apart 1 0 refl, (refl, refl, record { message = _; at = refl; sender = refl; ssn = refl }))
    ▸ (inl refl, (refl, refl, refl))
    ▸ (inl refl, ((omega arith, omega arith), refl, refl, omega arith, refl))
    ▸ ((omega arith, omega arith), λ e. absurd (cc))
    ▸ ((omega arith, omega arith), refl)
    ▸ (omega arith, omega arith, apart 1 0 refl, (refl, refl, refl))
    ▸ (inl refl, (omega arith, inl refl))
    ▸ (omega arith, omega arith, apart 0 1 refl, (refl, refl, refl, λ v e. absurd (cc), λ m a e. refl))
    ▸ (inl refl, (refl, refl, omega arith, refl))
    ▸ ((omega arith, omega arith), refl, of-one (λ q. IsAll ((after_run (opening 1 (relaying 0 g)) (take 18 (gap_closed x y))).told 1 q)) refl, omega arith, refl, refl)
    ▸ (omega arith, omega arith, apart 1 0 refl, (refl, refl, refl, refl, refl))
    ▸ (inl refl, (refl, refl, refl, λ m e. absurd (cc)))
    ▸ (omega arith, omega arith, apart 0 1 refl, (refl, refl, refl, λ m e. absurd (cc), refl, refl, λ v e. absurd (cc), λ ssn a e. refl))
    ▸ (inl refl, (refl, refl, refl, refl))
    ▸ (inr (inr (inr (inr (inr (inr (inr (inr (inl refl)))))))), ((omega arith, omega arith), refl, refl, refl, refl, few 0 (omega arith)))
    ▸ ((omega arith, omega arith), refl, refl)
    ▸ tt

pub number-is-lost : NumberIsLost
number-is-lost g x y = (closes g x y, refl, refl, refl, refl, refl, refl, refl)

tells-again : (g : ℕ → List Message → List ℕ) (x : List ℕ) → Run (opening 1 (relaying 0 g)) (told_again x)
tells-again g x =
    (omega arith, omega arith)
    ▸ (omega arith, omega arith, apart 0 1 refl, (refl, refl, omega arith, omega arith, refl))
    ▸ (inl refl, ((omega arith, omega arith), refl, refl, refl, refl, few 0 (omega arith)))
    ▸ ((omega arith, omega arith), refl, refl)
    ▸ (omega arith, omega arith, apart 1 0 refl, (refl, refl, record { message = _; at = refl; sender = refl; ssn = refl }))
    ▸ (inl refl, (refl, refl, refl))
    ▸ ((omega arith, omega arith), λ e. absurd (cc))
    ▸ ((omega arith, omega arith), refl)
    ▸ (omega arith, omega arith, apart 1 0 refl, (refl, refl, refl))
    ▸ (inl refl, (omega arith, inl refl))
    ▸ (omega arith, omega arith, apart 0 1 refl, (refl, refl, refl, λ v e. absurd (cc), λ m a e. refl))
    ▸ ((omega arith, omega arith), λ e. absurd (cc))
    ▸ ((omega arith, omega arith), refl)
    ▸ (omega arith, omega arith, apart 1 0 refl, (refl, refl, refl))
    ▸ (inl refl, (omega arith, inl refl))
    ▸ (omega arith, omega arith, apart 0 1 refl, (refl, refl, refl, λ v e. absurd (cc), λ m a e. refl))
    ▸ (inl refl, (refl, refl, omega arith, refl))
    ▸ ((omega arith, omega arith), refl, of-one (λ q. IsAll ((after_run (opening 1 (relaying 0 g)) (take 17 (told_again x))).told 1 q)) refl, omega arith, refl, refl)
    ▸ ((omega arith, omega arith), refl, refl)
    ▸ (omega arith, omega arith, apart 1 0 refl, (refl, refl, refl, refl, refl))
    ▸ (inl refl, (refl, refl, refl, λ m e. absurd (cc)))
    ▸ (omega arith, omega arith, apart 0 1 refl, (refl, refl, refl, λ m e. absurd (cc), refl, refl, λ v e. absurd (cc), λ ssn a e. refl))
    ▸ (inl refl, (refl, refl, refl, refl))
    ▸ tt

pub dies-while-collecting : DiesWhileCollecting
dies-while-collecting g x = (tells-again g x, inl refl, λ may. let e : ◌≡◌ {A = ℕ} 2 3 = may.1.1 in absurd (omega arith), refl, refl)

loses : (g : ℕ → List Message → List ℕ) (x : List ℕ) → Run (opening 1 (relaying 0 g)) (not_durable x)
loses g x =
    (omega arith, omega arith)
    ▸ (omega arith, omega arith, apart 0 1 refl, (refl, refl, omega arith, omega arith, refl))
    ▸ (inl refl, ((omega arith, omega arith), refl, refl, refl, refl, few 0 (omega arith)))
    ▸ ((omega arith, omega arith), refl, refl)
    ▸ ((omega arith, omega arith), refl, refl)
    ▸ ((omega arith, omega arith), λ e. absurd (cc))
    ▸ ((omega arith, omega arith), refl)
    ▸ (omega arith, omega arith, apart 1 0 refl, (refl, refl, refl))
    ▸ (inl refl, (omega arith, inl refl))
    ▸ (omega arith, omega arith, apart 0 1 refl, (refl, refl, refl, λ v e. absurd (cc), λ m a e. refl))
    ▸ (inl refl, (refl, refl, omega arith, refl))
    ▸ ((omega arith, omega arith), refl, of-one (λ q. IsAll ((after_run (opening 1 (relaying 0 g)) (take 11 (not_durable x))).told 1 q)) refl, omega arith, refl, refl)
    ▸ tt

keeps : (g : ℕ → List Message → List ℕ) (x : List ℕ) → Run (opening 1 (relaying 0 g)) (durable x)
keeps g x =
    (omega arith, omega arith)
    ▸ (omega arith, omega arith, apart 0 1 refl, (refl, refl, omega arith, omega arith, refl))
    ▸ (inl refl, ((omega arith, omega arith), refl, refl, refl, refl, few 0 (omega arith)))
    ▸ ((omega arith, omega arith), refl, refl)
    ▸ ((omega arith, omega arith), refl, refl)
    ▸ ((omega arith, omega arith), refl)
    ▸ ((omega arith, omega arith), λ e. absurd (cc))
    ▸ ((omega arith, omega arith), refl)
    ▸ (omega arith, omega arith, apart 1 0 refl, (refl, refl, refl))
    ▸ (inl refl, (omega arith, inl refl))
    ▸ (omega arith, omega arith, apart 0 1 refl, (refl, refl, refl, λ v e. absurd (cc), λ m a e. refl))
    ▸ (inl refl, (refl, refl, omega arith, refl))
    ▸ ((omega arith, omega arith), refl, of-one (λ q. IsAll ((after_run (opening 1 (relaying 0 g)) (take 12 (durable x))).told 1 q)) refl, omega arith, refl, refl)
    ▸ tt

pub dies-at-checkpoint : DiesAtCheckpoint
dies-at-checkpoint g x = (loses g x, keeps g x, refl, refl, λ may. let e = may.1 in cc, λ may. let e = may.1 in cc, λ may. let e : ◌≡◌ {A = ℕ} 1 0 = may.3.1 in absurd (omega arith))

all-answer : (g : ℕ → List Message → List ℕ) → Run (opening 3 (relaying 0 g)) (two_answer ++ resumes 1 3 2 0 ++ restores 1 3 2 1 no_numbers)
all-answer g =
    ((omega arith, omega arith), λ e. absurd (cc))
    ▸ ((omega arith, omega arith), refl)
    ▸ (omega arith, omega arith, apart 1 0 refl, (refl, refl, refl))
    ▸ (inl refl, (omega arith, inl refl))
    ▸ (omega arith, omega arith, apart 0 1 refl, (refl, refl, refl, λ v e. absurd (cc), λ m a e. refl))
    ▸ (inl refl, (refl, refl, omega arith, refl))
    ▸ (omega arith, omega arith, apart 1 2 refl, (refl, refl, refl))
    ▸ (inl refl, (omega arith, inl refl))
    ▸ (omega arith, omega arith, apart 2 1 refl, (refl, refl, refl, λ v e. absurd (cc), λ m a e. refl))
    ▸ (inl refl, (refl, refl, omega arith, refl))
    ▸ (omega arith, omega arith, apart 1 3 refl, (refl, refl, refl))
    ▸ (inl refl, (omega arith, inl refl))
    ▸ (omega arith, omega arith, apart 3 1 refl, (refl, refl, refl, λ v e. absurd (cc), λ m a e. refl))
    ▸ (inl refl, (refl, refl, omega arith, refl))
    ▸ ((omega arith, omega arith), refl, one-of-three (λ q. IsAll ((after_run (opening 3 (relaying 0 g)) (take 14 (two_answer ++ resumes 1 3 2 0 ++ restores 1 3 2 1 no_numbers))).told 1 q)) refl refl refl, omega arith, refl, refl)
    ▸ (omega arith, omega arith, apart 1 2 refl, (refl, refl, refl, refl, refl))
    ▸ (inl refl, (refl, refl, refl, λ m e. absurd (cc)))
    ▸ (omega arith, omega arith, apart 2 1 refl, (refl, refl, refl, λ m e. absurd (cc), refl, refl, λ v e. absurd (cc), λ ssn a e. refl))
    ▸ (inl refl, ((omega arith, omega arith), refl, refl, refl, refl, omega arith))
    ▸ (omega arith, omega arith, apart 1 0 refl, (refl, refl, refl, refl, refl))
    ▸ (inl refl, (refl, refl, refl, λ m e. absurd (cc)))
    ▸ (omega arith, omega arith, apart 0 1 refl, (refl, refl, refl, λ m e. absurd (cc), refl, refl, λ v e. absurd (cc), λ ssn a e. refl))
    ▸ (inl refl, (refl, refl, refl, refl))
    ▸ (omega arith, omega arith, apart 1 3 refl, (refl, refl, refl, refl, refl))
    ▸ (inl refl, (refl, refl, refl, λ m e. absurd (cc)))
    ▸ (omega arith, omega arith, apart 3 1 refl, (refl, refl, refl, λ m e. absurd (cc), refl, refl, λ v e. absurd (cc), λ ssn a e. refl))
    ▸ (inl refl, ((omega arith, omega arith), refl, refl, refl, refl, omega arith))
    ▸ tt

pub all-have-to-answer : AllHaveToAnswer
all-have-to-answer g = (all-answer g, refl, refl)
