-- A legal schedule has a model.
pub mod ScheduleChoiceLemmas
pub mod ScheduleLawLemmas
pub mod ScheduleModelLemmas
pub mod ScheduleOrderLemmas
pub mod ScheduleValueLemmas
pub mod VariableRangeLemmas
