pub mod Peer
pub mod Store
pub mod Format
pub mod Faults
pub mod Changes
pub mod Laws
pub mod Inside
