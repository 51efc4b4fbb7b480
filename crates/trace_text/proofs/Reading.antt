-- A text without a fault spells a trace: what is gathered from its statements.
pub mod ArrangedLemmas
pub mod CountLemmas
pub mod EntryLemmas
pub mod EntryOfLemmas
pub mod GatherLemmas
pub mod GatheredLemmas
pub mod LocationLemmas
pub mod NumberLemmas
pub mod SeenLemmas
pub mod TraceReadLemmas
