pub mod Accounts
pub mod ChannelRules
pub mod InFlight
pub mod Merge
pub mod Pairs
pub mod Seats
