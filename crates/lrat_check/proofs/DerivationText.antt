-- The text of a derivation: what it spells, and its faults.
pub mod ClearLemmas
pub mod DerivationTextLemmas
pub mod ListLemmas
pub mod LratLawLemmas
pub mod LratLineLemmas
pub mod LratStepLemmas
pub mod LratWrittenLemmas
pub mod ShortNumberLemmas
