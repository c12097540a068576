pub mod PlanLemmas
pub mod EmissionLemmas
pub mod AgreementLemmas
