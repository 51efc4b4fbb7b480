pub mod Counting
pub mod EventCauses
pub mod Machine
pub mod Run
