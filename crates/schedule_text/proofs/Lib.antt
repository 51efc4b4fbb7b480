pub mod OpNameLemmas
pub mod ScheduleLemmas
pub mod ScheduleTextLemmas
pub mod ScheduleWrittenLemmas
