pub mod Payload
pub mod Effects
pub mod Helpers
