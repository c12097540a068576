pub mod Layout
pub mod Calls
pub mod Arrays
pub mod Exports
pub mod Runs
pub mod MachineCode
pub mod CallRecord
