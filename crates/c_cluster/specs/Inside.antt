-- Definitions for the crate's own functions. No public contract reaches them.
pub mod Held
