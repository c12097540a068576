pub mod Bundles
pub mod Loosened
pub mod OnHeap
pub mod Steps
pub mod Overwritten
