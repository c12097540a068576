pub mod Reports
pub mod CallLemmas
pub mod FirstFailure
pub mod Laid
pub mod AsByFile
pub mod CallRecords
pub mod FlatRuns
pub mod SpanRuns
