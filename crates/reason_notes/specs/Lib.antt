pub mod Noted
pub mod Words
