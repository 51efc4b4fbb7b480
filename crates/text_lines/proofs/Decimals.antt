-- Numbers and the digits that are written of them.
pub mod DigitLemmas
pub mod IntegerLemmas
pub mod NumberLemmas
pub mod PlainLemmas
pub mod SolverLemmas
