pub mod Inside
pub mod Gateways
pub mod Nodes
