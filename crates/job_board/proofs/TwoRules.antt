-- The rules of the two channels, step by step.
pub mod JobRuleLemmas
pub mod LawLemmas
pub mod MergeLemmas
pub mod PassLemmas
pub mod ResultRuleLemmas
pub mod StepLemmas
pub mod ViewLemmas
pub mod WorkerLemmas
