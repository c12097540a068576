pub mod Mail
pub mod Outbox
pub mod Stable
pub mod Mode
pub mod Process
pub mod Outside
pub mod Wire
