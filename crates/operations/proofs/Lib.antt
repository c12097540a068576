pub mod BitLemmas
pub mod DivisionLemmas
pub mod Bounds
pub mod WordLemmas
pub mod ByteLemmas
