-- One that is up passes on to nothing, and one that is held stays
use Rattle.std.proofs.Common.{◌≡◌, Result, Err, IfErr, refl, true, false, sym, subst}
use Rattle.recovery.specs.declared.lifecycle.Stalled.{Stalled}
use Rattle.recovery.specs.declared.lifecycle.Lifecycle.{Lifecycle}
use Rattle.recovery.specs.declared.lifecycle.Lifecycle.TheVariants.{Up, Collecting}
use Rattle.recovery.specs.Transitions.{is_node, Passes, has_heard, is_held, IsHeld}

pub passes-up : (c : Lifecycle) → is_node c ≡ true → Passes c c
passes-up (Up n) e = record { told = Up n; ran = Up n; asks = Up n; recovers = refl; finishes = refl; begins = refl; returns = refl }
passes-up c e = absurd (cc)

pub up-is-free : (c : Lifecycle) → is_node c ≡ true → is_held c ≡ false
up-is-free (Up n) e = refl
up-is-free c e = absurd (cc)

pub heard-stays : (c : Lifecycle) → has_heard c ≡ true → Passes c c
heard-stays (Collecting n) e = record { told = Collecting n; ran = Collecting n; asks = Collecting n; recovers = refl; finishes = refl; begins = refl; returns = refl }
heard-stays c e = absurd (cc)

-- so it is answered
pub first-held : (r : Result Lifecycle Stalled) (c : Lifecycle) (h : Stalled) (why : Stalled) → r ≡ Err why → why ≡ h → h.lifecycle ≡ c → has_heard c ≡ true → IsHeld h.cause c → IfErr r (λ x. Passes c x.lifecycle × IsHeld x.cause x.lifecycle)
first-held r c h why is same stays heard because =
    let P : Stalled → Type 0 = λ x. Passes c x.lifecycle × IsHeld x.cause x.lifecycle in
    let Q : Lifecycle → Type 0 = λ d. Passes c d × IsHeld h.cause d in
    let all : P h = subst Q (sym stays) (heard-stays c heard, because) in
    subst (λ (x : Result Lifecycle Stalled). IfErr x P) (sym is) (subst P (sym same) all)
