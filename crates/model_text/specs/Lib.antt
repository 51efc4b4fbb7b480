pub mod ModelCauses
pub mod ModelFirstFault
pub mod ModelProgress
pub mod ModelText
