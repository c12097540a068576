-- Definitions for the crate's own functions. No public contract reaches them.
pub mod Header
pub mod Pass
pub mod Places
pub mod Dense
pub mod Image
pub mod SpanPass
