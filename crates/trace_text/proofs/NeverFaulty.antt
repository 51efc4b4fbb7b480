-- A text that spells a trace has no fault.
pub mod ApartLemmas
pub mod ClearLemmas
pub mod OwnReferenceLemmas
pub mod StatedLemmas
pub mod ToldLemmas
pub mod TraceClearLemmas
