pub mod ClauseList
pub mod InPieces
pub mod ModelToSchedule
pub mod NamesInOrder
pub mod NumbersOfNames
pub mod ScheduleToModel
pub mod TransitivityClauses
