pub mod FaultLemmas
pub mod PieceLemmas
pub mod WordLemmas
