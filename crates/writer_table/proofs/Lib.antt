pub mod NumberLemmas
pub mod OrderedLemmas
pub mod RunLemmas
pub mod TableLemmas
pub mod WriterLemmas
