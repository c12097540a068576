pub mod Calls
pub mod Fields
pub mod Lines
pub mod Style
