pub mod Draw
pub mod Inside
pub mod Live
pub mod Program
pub mod Report
pub mod Run
pub mod Tell
