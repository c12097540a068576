pub mod Lent
pub mod OpenedValue
