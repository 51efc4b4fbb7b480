pub mod Orders
pub mod Reasons
pub mod Sources
pub mod Counting
pub mod Waiting
