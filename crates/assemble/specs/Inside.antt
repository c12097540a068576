-- Definitions for the crate's own functions. No public contract reaches them.
pub mod Words
pub mod Spelled
pub mod Split
pub mod Reads
pub mod Mnemonic
pub mod Loop
