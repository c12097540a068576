pub mod Answers
pub mod Calls
pub mod Label
pub mod Bundles
