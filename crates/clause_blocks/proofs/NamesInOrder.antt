-- Which name stands before which.
pub mod LastWriterLemmas
pub mod SortedLemmas
pub mod StandLemmas
