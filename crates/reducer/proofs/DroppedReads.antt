-- Schedules and values with the dropped reads and without them.
pub mod InterleavingLemmas
pub mod ReadLemmas
pub mod RepeatLemmas
pub mod ScheduleLemmas
pub mod ValueLemmas
