pub mod ListLemmas
pub mod MeaningLemmas
pub mod PlaceLemmas
pub mod StartLemmas
pub mod TripleLemmas
