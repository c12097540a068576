-- Calls of processes by their stages, which only the proofs need: a call of a host is one of them, and acts behind it
pub mod Process
pub mod System
