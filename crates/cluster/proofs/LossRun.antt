-- The run in which a node is told that what it had is lost
use Rattle.std.proofs.Common.{inl, inr, ℕ, List, refl, arith}
use Rattle.world.specs.declared.message.Message.{Message}
use Rattle.world.specs.History.{Payload}
use Rattle.theorems.specs.WorkedOverlap.{passing}
use Rattle.cluster.specs.Rules.{message}
use Rattle.cluster.specs.Cluster.{durable_opening}
use Rattle.cluster.specs.Exact.{Steps}
use Rattle.cluster.specs.WorkedDurable.{none_durable, told_of_loss}
use Rattle.cluster.proofs.Cases.{for-two, live-dead}
use Rattle.cluster.proofs.Chains.{◌▸◌, few}

pub told-of-loss : (g : ℕ → List Message → List ℕ) (x : Payload) → Steps (durable_opening 2 (passing g) none_durable) (told_of_loss x)
told-of-loss g x =
    (((omega arith, omega arith), tt), tt)
    ▸ (((omega arith, omega arith, (λ e. omega arith), (refl, refl, omega arith, omega arith, refl)), λ e. absurd (cc)), tt)
    ▸ (((inl refl, ((omega arith, omega arith), refl, refl, refl, refl, few 0 (omega arith))), tt), tt)
    ▸ ((((omega arith, omega arith), refl, refl), tt), tt)
    ▸ ((((omega arith, omega arith), refl, refl), tt), tt)
    ▸ ((((omega arith, omega arith), refl), tt), tt)
    ▸ ((((omega arith, omega arith), refl, refl), tt), tt)
    ▸ (((omega arith, omega arith, (λ e. omega arith), (refl, refl, omega arith, omega arith, refl)), λ e. absurd (cc)), tt)
    ▸ (((inl refl, ((omega arith, omega arith), refl, refl, refl, refl, few 0 (omega arith))), tt), tt)
    ▸ ((((omega arith, omega arith), refl, refl), tt), tt)
    ▸ (((omega arith, omega arith, (λ e. omega arith), (refl, refl, record { message = message 1 1 x; at = refl; sender = refl; ssn = refl })), tt), tt)
    ▸ (((inl refl, (refl, refl, refl)), tt), tt)
    ▸ (((inl refl, ((omega arith, omega arith), refl, refl, omega arith, refl)), tt), tt)
    ▸ (((omega arith, omega arith, (λ e. omega arith), (refl, refl, omega arith, omega arith, refl)), λ e. absurd (cc)), tt)
    ▸ (((inl refl, (refl, refl)), tt), tt)
    ▸ ((((omega arith, omega arith), live-dead), tt), tt)
    ▸ ((((omega arith, omega arith), live-dead), tt), tt)
    ▸ ((((omega arith, omega arith), refl), tt), tt)
    ▸ ((((omega arith, omega arith), refl), tt), tt)
    ▸ (((omega arith, omega arith, (λ e. omega arith), (refl, refl, refl)), tt), tt)
    ▸ (((inl refl, (omega arith, inl refl)), tt), tt)
    ▸ (((omega arith, omega arith, (λ e. omega arith), (refl, refl, refl, (λ v e. absurd (cc)), λ m _ _. refl)), tt), tt)
    ▸ (((inl refl, (refl, refl, omega arith, refl)), tt), inl refl)
    ▸ (((omega arith, omega arith, (λ e. omega arith), (refl, refl, refl)), tt), tt)
    ▸ (((inl refl, (omega arith, inr refl)), tt), tt)
    ▸ ((inl refl, refl, inr (refl, refl)), tt)
    ▸ (((λ e. omega arith), (refl, refl, omega arith, refl)), inl refl)
    ▸ ((((omega arith, omega arith), refl, for-two _ refl refl, omega arith, refl, refl), tt), tt)
    ▸ tt
