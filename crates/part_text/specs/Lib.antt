pub mod NameLine
pub mod PartText
