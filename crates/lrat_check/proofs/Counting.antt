-- Active clauses, and the counts of their literals.
pub mod ActiveLemmas
pub mod AddedLemmas
pub mod ChangeLemmas
pub mod CountLemmas
pub mod HiddenLemmas
pub mod KeptLemmas
