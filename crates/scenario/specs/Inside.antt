-- What the crate's own functions say to one another.
pub mod Loop
pub mod Reads
