pub mod Counting
pub mod DerivationText
pub mod Justifying
pub mod OtherCubeLemmas
pub mod PieceLemmas
pub mod RefusalLemmas
pub mod SoundLemmas
