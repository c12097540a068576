pub mod Buffer
pub mod Bundle
pub mod Outbox
