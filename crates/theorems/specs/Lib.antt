pub mod Growth
pub mod Single
pub mod Kept
pub mod Recovery
pub mod Orphans
pub mod Invariants
pub mod WorkedOverlap
