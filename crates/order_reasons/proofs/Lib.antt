pub mod CountReasons
pub mod OrderReasons
pub mod ScheduleModel
pub mod SourceReasons
pub mod WaitReasons
