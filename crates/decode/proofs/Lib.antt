pub mod Forms
pub mod Firsts
pub mod Faults
pub mod Once
pub mod OneFault
pub mod SlotLemmas
pub mod Layouts
