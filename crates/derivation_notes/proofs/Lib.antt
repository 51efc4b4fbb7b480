pub mod RefutedLemmas
