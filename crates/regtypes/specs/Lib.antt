pub mod Frame
pub mod Exits
pub mod Rules
pub mod Ways
pub mod Typing
pub mod Inside
