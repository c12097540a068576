mod Results
mod Openings
pub mod Fronts
mod Workings
pub mod Rooms
mod Holdings
mod Lifecycles
pub mod Bounds
pub mod Constancy
mod OwnBounds
mod Bounded
mod Ranges
mod Questions
mod Writes
mod Within
mod Suspensions
