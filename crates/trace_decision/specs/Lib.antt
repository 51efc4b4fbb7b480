pub mod Decision
pub mod InCube
pub mod Rounds
