pub mod Balance
pub mod CloseLemmas
pub mod OpenLemmas
pub mod TwoRules
