pub mod Numbers
pub mod Places
pub mod Forms
pub mod Plain
pub mod Effects
pub mod Runs
