pub mod BoolLemmas
pub mod Cutting
pub mod Decimals
pub mod FaultLemmas
pub mod LastLemmas
pub mod ListLemmas
