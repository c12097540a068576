use Rattle.std.proofs.Common.{inl, inr, refl, arith}
use Rattle.cluster.proofs.Cases.{for-two, live-dead}
use Rattle.cluster.proofs.Chains.{◌▸◌, few}
use Rattle.cluster.proofs.durable_rows.durable_nodes_keep.Goals as goal

pub returns : goal.returns
returns c g x = (
  ((omega arith, omega arith), tt)
      ▸ ((omega arith, omega arith, (λ e. omega arith), (refl, refl, omega arith, omega arith, refl)), λ _. omega arith)
      ▸ ((inl refl, ((omega arith, omega arith), refl, refl, refl, refl, few 0 (omega arith))), tt)
      ▸ (((omega arith, omega arith), refl, refl), tt)
      ▸ (((omega arith, omega arith), refl, refl), tt)
      ▸ (((omega arith, omega arith), refl), tt)
      ▸ (((omega arith, omega arith), refl, refl), tt)
      ▸ ((omega arith, omega arith, (λ e. omega arith), (refl, refl, omega arith, omega arith, refl)), λ _. omega arith)
      ▸ ((inl refl, ((omega arith, omega arith), refl, refl, refl, refl, few 0 (omega arith))), tt)
      ▸ (((omega arith, omega arith), refl, refl), tt)
      ▸ (((omega arith, omega arith), refl, refl), tt)
      ▸ (((omega arith, omega arith), refl), tt)
      ▸ (((omega arith, omega arith), refl, refl), tt)
      ▸ ((omega arith, omega arith, (λ e. omega arith), (refl, refl, omega arith, omega arith, refl)), λ _. omega arith)
      ▸ ((inl refl, (refl, refl)), tt)
      ▸ (((omega arith, omega arith), live-dead), tt)
      ▸ (((omega arith, omega arith), live-dead), tt)
      ▸ (((omega arith, omega arith), refl), tt)
      ▸ (((omega arith, omega arith), refl), tt)
      ▸ ((omega arith, omega arith, (λ e. omega arith), (refl, refl, refl)), tt)
      ▸ ((inl refl, (omega arith, inl refl)), tt)
      ▸ ((omega arith, omega arith, (λ e. omega arith), (refl, refl, refl, (λ v e. absurd (cc)), λ m _ _. refl)), tt)
      ▸ ((inl refl, (refl, refl, omega arith, refl)), tt)
      ▸ ((omega arith, omega arith, (λ e. omega arith), (refl, refl, refl)), tt)
      ▸ ((inl refl, (omega arith, inr refl)), tt)
      ▸ (inl refl, refl, inr (refl, refl))
      ▸ ((λ e. omega arith), (refl, refl, omega arith, refl))
      ▸ (((omega arith, omega arith), refl, for-two _ refl refl, omega arith, refl, refl), tt)
      ▸ tt,
  refl,
  refl,
)
