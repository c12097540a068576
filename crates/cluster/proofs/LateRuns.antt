-- The worked runs of late packets
use Rattle.std.proofs.Common.{◌≡◌, inl, inr, ℕ, ◌<◌, List, take, refl, arith}
use Rattle.world.specs.declared.message.Message.{Message}
use Rattle.world.specs.Worked.{relaying}
use Rattle.theorems.specs.WorkedOverlap.{passing}
use Rattle.cluster.specs.Cluster.{opening}
use Rattle.cluster.specs.Rules.{IsAll, Run, after_run, message}
use Rattle.cluster.specs.WorkedLate.{renumbered, second_return, job_told, both_back, old_ask_answered, LateNumberIsDropped, LateResumeIsDropped, OldAnswerIsDropped, OpenJobComesFirst, HeardComesBack, OldAskIsHeard}
use Rattle.cluster.specs.WorkedPieces.{number_recorded}
use Rattle.cluster.specs.WorkedDeaths.{gap_closed}
use Rattle.cluster.proofs.Chains.{◌▸◌, then-run, few, apart, of-one, one-of-two, two-of-two}
use Rattle.cluster.proofs.DeathRuns.{closes}

pub late-number-is-dropped : LateNumberIsDropped
late-number-is-dropped g x y = (inr (inr (inr (inl refl))), λ may. let e : ◌≡◌ {A = ℕ} 1 2 = may.1.1 in absurd (omega arith))

renumbers : (g : ℕ → List Message → List ℕ) (x y : List ℕ) → Run (opening 1 (relaying 0 g)) (renumbered x y)
renumbers g x y =
    then-run (opening 1 (relaying 0 g)) (gap_closed x y) (number_recorded 2 1 1) (closes g x y)
    ((omega arith, omega arith, apart 1 0 refl, (refl, refl, record { message = _; at = refl; sender = refl; ssn = refl })) ▸ (inl refl, (refl, refl, refl)) ▸ tt)

pub late-resume-is-dropped : LateResumeIsDropped
late-resume-is-dropped g x y = (
  renumbers g x y,
  inr (inr (inr (inl refl))),
  inr (inr (inr (inr (inr (inl refl))))),
  λ may. let e = may.1.2 in cc,
  λ may. let e : ◌<◌ 2 2 = may.1.0 in absurd (omega arith),
  refl,
)

returns-twice : (g : ℕ → List Message → List ℕ) (x y : List ℕ) → Run (opening 1 (relaying 0 g)) (second_return x y)
returns-twice g x y =
    (omega arith, omega arith)
    ▸ (omega arith, omega arith, apart 0 1 refl, (refl, refl, omega arith, omega arith, refl))
    ▸ (inl refl, ((omega arith, omega arith), refl, refl, refl, refl, few 0 (omega arith)))
    ▸ ((omega arith, omega arith), refl, refl)
    ▸ (omega arith, omega arith, apart 1 0 refl, (refl, refl, record { message = _; at = refl; sender = refl; ssn = refl }))
    ▸ (inl refl, (refl, refl, refl))
    ▸ ((omega arith, omega arith), λ e. absurd (cc))
    ▸ ((omega arith, omega arith), refl)
    ▸ (omega arith, omega arith, apart 1 0 refl, (refl, refl, refl))
    ▸ (inl refl, (omega arith, inl refl))
    ▸ (omega arith, omega arith, apart 0 1 refl, (refl, refl, refl, λ v e. absurd (cc), λ m a e. refl))
    ▸ (inl refl, (refl, refl, omega arith, refl))
    ▸ ((omega arith, omega arith), refl, of-one (λ q. IsAll ((after_run (opening 1 (relaying 0 g)) (take 12 (second_return x y))).told 1 q)) refl, omega arith, refl, refl)
    ▸ ((omega arith, omega arith), refl, refl)
    ▸ (omega arith, omega arith, apart 1 0 refl, (refl, refl, refl, refl, refl))
    ▸ (inl refl, (refl, refl, refl, λ m e. absurd (cc)))
    ▸ (omega arith, omega arith, apart 0 1 refl, (refl, refl, refl, λ m e. absurd (cc), refl, refl, λ v e. absurd (cc), λ ssn a e. refl))
    ▸ (inl refl, (refl, refl, refl, refl))
    ▸ (omega arith, omega arith)
    ▸ (omega arith, omega arith, apart 0 1 refl, (refl, refl, omega arith, omega arith, refl))
    ▸ (inl refl, ((omega arith, omega arith), refl, refl, refl, refl, few 0 (omega arith)))
    ▸ ((omega arith, omega arith), refl, refl)
    ▸ (omega arith, omega arith, apart 1 0 refl, (refl, refl, record { message = _; at = refl; sender = refl; ssn = refl }))
    ▸ (inl refl, (refl, refl, refl))
    ▸ (inl refl, ((omega arith, omega arith), refl, refl, omega arith, refl))
    ▸ ((omega arith, omega arith), λ e. absurd (cc))
    ▸ ((omega arith, omega arith), refl)
    ▸ (omega arith, omega arith, apart 1 0 refl, (refl, refl, refl))
    ▸ (inl refl, (omega arith, inl refl))
    ▸ (omega arith, omega arith, apart 0 1 refl, (refl, refl, refl, λ v e. absurd (cc), λ m a e. refl))
    ▸ (inl refl, (refl, refl, omega arith, refl))
    ▸ ((omega arith, omega arith), refl, of-one (λ q. IsAll ((after_run (opening 1 (relaying 0 g)) (take 31 (second_return x y))).told 1 q)) refl, omega arith, refl, refl)
    ▸ tt

pub old-answer-is-dropped : OldAnswerIsDropped
old-answer-is-dropped g x y = (returns-twice g x y, inr (inr (inr (inr (inr (inl refl))))), λ may. let e : ◌≡◌ {A = ℕ} 2 3 = may.1.1 in absurd (omega arith), refl)

finishes-first : (g : ℕ → List Message → List ℕ) (x y : List ℕ) → Run (opening 2 (passing g)) (job_told x y)
finishes-first g x y =
    (omega arith, omega arith)
    ▸ (omega arith, omega arith, apart 0 1 refl, (refl, refl, omega arith, omega arith, refl))
    ▸ (inl refl, ((omega arith, omega arith), refl, refl, refl, refl, few 0 (omega arith)))
    ▸ ((omega arith, omega arith), refl, refl)
    ▸ (omega arith, omega arith)
    ▸ (omega arith, omega arith, apart 0 1 refl, (refl, refl, omega arith, omega arith, refl))
    ▸ (inl refl, ((omega arith, omega arith), refl, refl, refl, refl, few 1 (omega arith)))
    ▸ ((omega arith, omega arith), refl, refl)
    ▸ (omega arith, omega arith, apart 1 0 refl, (refl, refl, record { message = _; at = refl; sender = refl; ssn = refl }))
    ▸ (inl refl, (refl, refl, refl))
    ▸ (omega arith, omega arith, apart 1 0 refl, (refl, refl, record { message = _; at = refl; sender = refl; ssn = refl }))
    ▸ (inl refl, (refl, refl, refl))
    ▸ (inr (inr (inl refl)), ((omega arith, omega arith), refl, refl, omega arith, refl))
    ▸ (inl refl, ((omega arith, omega arith), refl, refl, omega arith, refl))
    ▸ (omega arith, omega arith, apart 1 2 refl, (refl, refl, omega arith, omega arith, refl))
    ▸ (omega arith, omega arith, apart 1 2 refl, (refl, refl, omega arith, omega arith, refl))
    ▸ (inr (inl refl), ((omega arith, omega arith), refl, refl, refl, refl, few 0 (omega arith)))
    ▸ ((omega arith, omega arith), λ e. absurd (cc))
    ▸ ((omega arith, omega arith), refl)
    ▸ (omega arith, omega arith, apart 1 0 refl, (refl, refl, refl))
    ▸ (inl refl, (omega arith, inl refl))
    ▸ (omega arith, omega arith, apart 0 1 refl, (refl, refl, refl, λ v e. absurd (cc), λ m a e. refl))
    ▸ (inl refl, (refl, refl, omega arith, refl))
    ▸ (omega arith, omega arith, apart 1 2 refl, (refl, refl, refl))
    ▸ (inl refl, (omega arith, inl refl))
    ▸ (omega arith, omega arith, apart 2 1 refl, (refl, refl, refl, λ v e. absurd (cc), λ m a e. refl))
    ▸ (inl refl, (refl, refl, omega arith, refl))
    ▸ ((omega arith, omega arith), refl, one-of-two (λ q. IsAll ((after_run (opening 2 (passing g)) (take 27 (job_told x y))).told 1 q)) refl refl, omega arith, refl, refl)
    ▸ ((omega arith, omega arith), refl, refl)
    ▸ ((omega arith, omega arith), refl, refl)
    ▸ (omega arith, omega arith, apart 1 2 refl, (refl, refl, refl, refl, refl))
    ▸ ((omega arith, omega arith), refl, refl)
    ▸ (inl refl, (refl, refl, refl, λ m e. absurd (cc)))
    ▸ (omega arith, omega arith, apart 2 1 refl, (refl, refl, refl, λ m e. absurd (cc), refl, refl, λ v e. absurd (cc), λ ssn a e. refl))
    ▸ (inl refl, ((omega arith, omega arith), refl, refl, refl, refl, omega arith))
    ▸ (omega arith, omega arith, apart 1 0 refl, (refl, refl, refl, refl, refl))
    ▸ (inl refl, (refl, refl, refl, λ m e. absurd (cc)))
    ▸ (omega arith, omega arith, apart 0 1 refl, (refl, refl, refl, λ m e. absurd (cc), refl, refl, λ v e. absurd (cc), λ ssn a e. refl))
    ▸ (inl refl, (refl, refl, refl, refl))
    ▸ tt

pub open-job-comes-first : OpenJobComesFirst
open-job-comes-first g x y = (
  finishes-first g x y,
  λ may. may.1.3 (message 1 1 x) refl refl,
  λ numbers may. may.3.3 (message 1 1 x) refl refl,
  inr (inr (inr (inr (inr (inl refl))))),
  λ may. let e : ◌≡◌ {A = ℕ} 1 2 = may.1.3 in absurd (omega arith),
  refl,
  refl,
)

both-return : (g : ℕ → List Message → List ℕ) (x : List ℕ) → Run (opening 2 (passing g)) (both_back x)
both-return g x =
    (omega arith, omega arith)
    ▸ (omega arith, omega arith, apart 0 1 refl, (refl, refl, omega arith, omega arith, refl))
    ▸ (inl refl, ((omega arith, omega arith), refl, refl, refl, refl, few 0 (omega arith)))
    ▸ ((omega arith, omega arith), refl, refl)
    ▸ (omega arith, omega arith, apart 1 0 refl, (refl, refl, record { message = _; at = refl; sender = refl; ssn = refl }))
    ▸ (inl refl, (refl, refl, refl))
    ▸ (inl refl, ((omega arith, omega arith), refl, refl, omega arith, refl))
    ▸ (omega arith, omega arith, apart 1 2 refl, (refl, refl, omega arith, omega arith, refl))
    ▸ (inl refl, ((omega arith, omega arith), refl, refl, refl, refl, few 0 (omega arith)))
    ▸ ((omega arith, omega arith), refl, refl)
    ▸ (omega arith, omega arith, apart 2 1 refl, (refl, refl, record { message = _; at = refl; sender = refl; ssn = refl }))
    ▸ ((omega arith, omega arith), λ e. absurd (cc))
    ▸ ((omega arith, omega arith), refl)
    ▸ (omega arith, omega arith, apart 2 0 refl, (refl, refl, refl))
    ▸ (inl refl, (omega arith, inl refl))
    ▸ (omega arith, omega arith, apart 0 2 refl, (refl, refl, refl, λ v e. absurd (cc), λ m a e. refl))
    ▸ (inl refl, (refl, refl, omega arith, refl))
    ▸ (omega arith, omega arith, apart 2 1 refl, (refl, refl, refl))
    ▸ (inl refl, (omega arith, inl refl))
    ▸ (omega arith, omega arith, apart 1 2 refl, (refl, refl, refl, λ v e. absurd (cc), λ m a e. refl))
    ▸ (inl refl, (refl, refl, omega arith, refl))
    ▸ ((omega arith, omega arith), refl, two-of-two (λ q. IsAll ((after_run (opening 2 (passing g)) (take 21 (both_back x))).told 2 q)) refl refl, omega arith, refl, refl)
    ▸ (omega arith, omega arith, apart 2 0 refl, (refl, refl, refl, refl, refl))
    ▸ (inl refl, (refl, refl, refl, λ m e. absurd (cc)))
    ▸ (omega arith, omega arith, apart 0 2 refl, (refl, refl, refl, λ m e. absurd (cc), refl, refl, λ v e. absurd (cc), λ ssn a e. refl))
    ▸ (inl refl, (refl, refl, refl, refl))
    ▸ (omega arith, omega arith, apart 2 1 refl, (refl, refl, refl, refl, refl))
    ▸ (inl refl, (refl, refl, refl, λ m e. absurd (cc)))
    ▸ (omega arith, omega arith, apart 1 2 refl, (refl, refl, refl, λ m e. absurd (cc), refl, refl, λ v e. absurd (cc), λ ssn a e. refl))
    ▸ (inl refl, ((omega arith, omega arith), refl, refl, refl, refl, omega arith))
    ▸ ((omega arith, omega arith), λ e. absurd (cc))
    ▸ ((omega arith, omega arith), refl)
    ▸ (omega arith, omega arith, apart 1 0 refl, (refl, refl, refl))
    ▸ (inl refl, (omega arith, inl refl))
    ▸ (omega arith, omega arith, apart 0 1 refl, (refl, refl, refl, λ v e. absurd (cc), λ m a e. refl))
    ▸ (inl refl, (refl, refl, omega arith, refl))
    ▸ (omega arith, omega arith, apart 1 2 refl, (refl, refl, refl))
    ▸ (inl refl, (omega arith, inl refl))
    ▸ (omega arith, omega arith, apart 2 1 refl, (refl, refl, refl, λ v e. absurd (cc), λ m a e. refl))
    ▸ (inl refl, (refl, refl, omega arith, refl))
    ▸ ((omega arith, omega arith), refl, one-of-two (λ q. IsAll ((after_run (opening 2 (passing g)) (take 40 (both_back x))).told 1 q)) refl refl, omega arith, refl, refl)
    ▸ ((omega arith, omega arith), refl, refl)
    ▸ (omega arith, omega arith, apart 1 0 refl, (refl, refl, refl, refl, refl))
    ▸ (inl refl, (refl, refl, refl, λ m e. absurd (cc)))
    ▸ (omega arith, omega arith, apart 0 1 refl, (refl, refl, refl, λ m e. absurd (cc), refl, refl, λ v e. absurd (cc), λ ssn a e. refl))
    ▸ (inl refl, (refl, refl, refl, refl))
    ▸ (omega arith, omega arith, apart 1 2 refl, (refl, refl, refl, refl, refl))
    ▸ (inl refl, (refl, refl, refl, λ m e. absurd (cc)))
    ▸ (omega arith, omega arith, apart 2 1 refl, (refl, refl, refl, λ m e. absurd (cc), refl, refl, λ v e. absurd (cc), λ ssn a e. refl))
    ▸ (inl refl, ((omega arith, omega arith), refl, refl, refl, refl, omega arith))
    ▸ tt

pub heard-comes-back : HeardComesBack
heard-comes-back g x = (both-return g x, refl, inr (inr (inr (inr (inr (inr (inr (inr (inr (inr (inr (inr (inr (inr (inr (inr (inl refl)))))))))))))))), λ may. let e : ◌≡◌ {A = ℕ} 1 2 = may.1.1 in absurd (omega arith))

pub is-told-again : (g : ℕ → List Message → List ℕ) → Run (opening 2 (passing g)) old_ask_answered
is-told-again g =
    ((omega arith, omega arith), λ e. absurd (cc))
    ▸ ((omega arith, omega arith), refl)
    ▸ (omega arith, omega arith, apart 1 0 refl, (refl, refl, refl))
    ▸ (inl refl, (omega arith, inl refl))
    ▸ (omega arith, omega arith, apart 0 1 refl, (refl, refl, refl, λ v e. absurd (cc), λ m a e. refl))
    ▸ (inl refl, (refl, refl, omega arith, refl))
    ▸ (omega arith, omega arith, apart 1 2 refl, (refl, refl, refl))
    ▸ (inl refl, (omega arith, inl refl))
    ▸ (omega arith, omega arith, apart 2 1 refl, (refl, refl, refl, λ v e. absurd (cc), λ m a e. refl))
    ▸ (inl refl, (refl, refl, omega arith, refl))
    ▸ ((omega arith, omega arith), refl, one-of-two (λ q. IsAll ((after_run (opening 2 (passing g)) (take 10 (old_ask_answered))).told 1 q)) refl refl, omega arith, refl, refl)
    ▸ (omega arith, omega arith, apart 1 0 refl, (refl, refl, refl, refl, refl))
    ▸ (inl refl, (refl, refl, refl, λ m e. absurd (cc)))
    ▸ (omega arith, omega arith, apart 0 1 refl, (refl, refl, refl, λ m e. absurd (cc), refl, refl, λ v e. absurd (cc), λ ssn a e. refl))
    ▸ (inl refl, (refl, refl, refl, refl))
    ▸ (omega arith, omega arith, apart 1 2 refl, (refl, refl, refl, refl, refl))
    ▸ (inl refl, (refl, refl, refl, λ m e. absurd (cc)))
    ▸ (omega arith, omega arith, apart 2 1 refl, (refl, refl, refl, λ m e. absurd (cc), refl, refl, λ v e. absurd (cc), λ ssn a e. refl))
    ▸ (inl refl, ((omega arith, omega arith), refl, refl, refl, refl, omega arith))
    ▸ ((omega arith, omega arith), λ e. absurd (cc))
    ▸ ((omega arith, omega arith), refl)
    ▸ (omega arith, omega arith, apart 2 1 refl, (refl, refl, refl))
    ▸ (inl refl, (omega arith, inl refl))
    ▸ (inr (inr (inr (inr (inr (inr (inl refl)))))), (omega arith, inr refl))
    ▸ (omega arith, omega arith, apart 1 2 refl, (refl, refl, refl, λ v e. absurd (cc), λ m a e. refl))
    ▸ (inl refl, (refl, refl, omega arith, refl))
    ▸ (omega arith, omega arith, apart 2 0 refl, (refl, refl, refl))
    ▸ (inl refl, (omega arith, inl refl))
    ▸ (omega arith, omega arith, apart 0 2 refl, (refl, refl, refl, λ v e. absurd (cc), λ m a e. refl))
    ▸ (inl refl, (refl, refl, omega arith, refl))
    ▸ ((omega arith, omega arith), refl, two-of-two (λ q. IsAll ((after_run (opening 2 (passing g)) (take 30 (old_ask_answered))).told 2 q)) refl refl, omega arith, refl, refl)
    ▸ (omega arith, omega arith, apart 2 0 refl, (refl, refl, refl, refl, refl))
    ▸ (inl refl, (refl, refl, refl, λ m e. absurd (cc)))
    ▸ (omega arith, omega arith, apart 0 2 refl, (refl, refl, refl, λ m e. absurd (cc), refl, refl, λ v e. absurd (cc), λ ssn a e. refl))
    ▸ (inl refl, (refl, refl, refl, refl))
    ▸ (omega arith, omega arith, apart 2 1 refl, (refl, refl, refl, refl, refl))
    ▸ (inl refl, (refl, refl, refl, λ m e. absurd (cc)))
    ▸ (omega arith, omega arith, apart 1 2 refl, (refl, refl, refl, λ m e. absurd (cc), refl, refl, λ v e. absurd (cc), λ ssn a e. refl))
    ▸ (inl refl, ((omega arith, omega arith), refl, refl, refl, refl, omega arith))
    ▸ tt

pub old-ask-is-heard : OldAskIsHeard
old-ask-is-heard g = (is-told-again g, refl, refl, refl, refl, refl)
