pub mod Longer
pub mod PlaceTable
pub mod Runs
pub mod WriterClasses
pub mod Writers
