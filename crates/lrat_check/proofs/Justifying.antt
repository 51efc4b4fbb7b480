-- How a step is justified: what the hints make true.
pub mod CheckLemmas
pub mod GroupLemmas
pub mod PropagationLemmas
pub mod RatLemmas
pub mod RefuteLemmas
pub mod TrailLemmas
