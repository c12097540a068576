mod ColumnLemmas
mod PageLemmas
mod MarkLemmas
