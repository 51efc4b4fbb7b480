pub mod Closed
pub mod Forced
pub mod Order
pub mod Raised
pub mod Room
pub mod Rows
pub mod Times
