mod RequestLemmas
mod RowLemmas
mod TakenLemmas
mod WalkLemmas
