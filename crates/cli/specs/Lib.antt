pub mod Asks
pub mod Program
