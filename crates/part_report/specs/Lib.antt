pub mod PartEngine
pub mod PartRecheckEngine
