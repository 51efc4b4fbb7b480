pub mod ClosedLemmas
pub mod ForcedLemmas
pub mod RiseLemmas
pub mod RowLemmas
pub mod TimeLemmas
