mod Reasons
pub mod Texts
mod Together
mod Ways
mod Words
mod Written
