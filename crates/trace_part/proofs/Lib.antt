pub mod ChoiceLemmas
pub mod ForwardLemmas
pub mod LatestLemmas
pub mod PairRowLemmas
pub mod RowLemmas
mod SearchLemmas
pub mod ToldLemmas
pub mod WriterTableLemmas
