pub mod Shares
pub mod Continues
pub mod Runs
