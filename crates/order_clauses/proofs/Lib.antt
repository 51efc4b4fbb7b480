pub mod ClauseLemmas
pub mod ReasonLemmas
pub mod VariableLemmas
