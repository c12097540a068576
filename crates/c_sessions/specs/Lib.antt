pub mod Inside
pub mod Places
pub mod Session
pub mod Lifetime
pub mod Queries
pub mod Entries
pub mod Schedule
