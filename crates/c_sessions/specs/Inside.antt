-- What the crate's own functions say to one another. No public contract reaches it.
pub mod Held
pub mod Loads
pub mod Calls
