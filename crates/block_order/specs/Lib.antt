pub mod Placement
pub mod Order
pub mod Blocks
pub mod Ordered
pub mod Laws
