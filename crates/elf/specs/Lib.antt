pub mod Function
pub mod Inside
pub mod Object
pub mod Refusal
