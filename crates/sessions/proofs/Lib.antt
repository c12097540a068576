pub mod FoldLemmas
pub mod HandlerLemmas
pub mod Rooms
pub mod Steps
mod JobLemmas
mod SeatLemmas
mod Own
mod Together
mod Numbers
pub mod Driven
mod LoggedLemmas
