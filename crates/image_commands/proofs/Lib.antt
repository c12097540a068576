mod AsmLemmas
pub mod FaultLemmas
mod HeadLemmas
mod JudgedLemmas
pub mod LoadLemmas
mod MigrateLemmas
mod PackLemmas
