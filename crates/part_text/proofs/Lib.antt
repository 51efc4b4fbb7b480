pub mod NameLineLemmas
pub mod PartTextLemmas
