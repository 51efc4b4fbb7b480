-- A model has one order, and it is a legal schedule.
pub mod ModelChoiceLemmas
pub mod ModelClauseLemmas
pub mod ModelLegalLemmas
pub mod ModelOrderLemmas
pub mod ModelReadLemmas
