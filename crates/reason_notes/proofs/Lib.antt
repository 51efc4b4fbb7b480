pub mod AppendLemmas
pub mod DistinctLemmas
pub mod ExplainLemmas
pub mod ListedLemmas
pub mod MadeLemmas
pub mod NotedLemmas
pub mod TooFewLemmas
