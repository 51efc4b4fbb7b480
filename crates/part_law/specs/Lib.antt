pub mod Derived
pub mod Part
