pub mod Accepted
pub mod Gathered
pub mod LineClauses
pub mod Members
pub mod Reading
pub mod Refused
pub mod RefusedByTrace
pub mod Taken
