pub mod Run
pub mod Columns
pub mod Models
pub mod Page
pub mod Label
pub mod Marks
pub mod Picture
