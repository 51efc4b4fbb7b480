pub mod Examples
pub mod Meanings
pub mod Runs
pub mod Starts
