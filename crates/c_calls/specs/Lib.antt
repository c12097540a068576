pub mod Inside
pub mod Nodes
