pub mod Live
pub mod Inside
