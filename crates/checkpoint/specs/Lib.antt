pub mod Saved
pub mod Format
pub mod FaultNumbers
pub mod Reader
pub mod Laws
pub mod Inside
