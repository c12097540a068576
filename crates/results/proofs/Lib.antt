pub mod ResultsLemmas
