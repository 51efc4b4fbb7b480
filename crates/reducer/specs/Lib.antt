pub mod Expansion
pub mod Named
pub mod ReduceCauses
pub mod Reduced
pub mod Reduction
pub mod Runs
