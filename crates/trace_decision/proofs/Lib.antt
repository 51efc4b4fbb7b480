pub mod DecideLemmas
pub mod GrownLemmas
pub mod InCubeLemmas
pub mod RoundLemmas
