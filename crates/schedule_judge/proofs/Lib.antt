pub mod ComeLemmas
pub mod EarlyLemmas
pub mod EndingLemmas
pub mod MemoryLemmas
pub mod OvertakenLemmas
pub mod PlaceLemmas
pub mod ProgramOrderLemmas
pub mod WalkLemmas
