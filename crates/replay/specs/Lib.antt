pub mod Emission
pub mod Task
pub mod Plan
pub mod Agreement
