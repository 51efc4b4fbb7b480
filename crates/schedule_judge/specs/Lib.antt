pub mod Come
pub mod Endings
pub mod Memory
pub mod Survey
pub mod Tables
pub mod Walk
