pub mod CountedLemmas
pub mod InOrder
pub mod LineWords
pub mod NamedLocations
pub mod NeverFaulty
pub mod OneTraceLemmas
pub mod Reading
pub mod Writing
