pub mod Findings
pub mod Hinted
pub mod Named
pub mod Surveyed
pub mod WordSet
