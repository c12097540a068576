pub mod Gateway
pub mod Calls
pub mod Stands
pub mod Since
pub mod Bytes
pub mod Written
