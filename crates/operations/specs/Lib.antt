pub mod Words
pub mod Bits
pub mod Arithmetic
pub mod ByteSwap
pub mod Conditions
pub mod Operations
pub mod Bytes
