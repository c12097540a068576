pub mod MailLemmas
pub mod OutboxLemmas
pub mod StableLemmas
pub mod OutsideLemmas
pub mod WireLemmas
