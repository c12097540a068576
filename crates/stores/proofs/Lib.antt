pub mod PeerLemmas
pub mod Peers
pub mod StoredCodecs
pub mod StoredLemmas
pub mod StoreLemmas
pub mod ChangeCodecs
pub mod ApplyLemmas
pub mod Entries
