pub mod WordRule
pub mod Seats
