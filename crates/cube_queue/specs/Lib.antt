pub mod Faults
pub mod Participants
pub mod Workers
