pub mod ScheduleCauses
pub mod ScheduleLine
pub mod ScheduleText
pub mod ScheduleWritten
