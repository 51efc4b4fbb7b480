pub mod DroppedReads
pub mod ExpandLemmas
pub mod KeptTrace
pub mod PartsLemmas
pub mod RunLemmas
