-- What only the proof needs
pub mod Journals
pub mod Agrees
pub mod Simulation
