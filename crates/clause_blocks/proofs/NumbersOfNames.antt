-- Names of operations and their numbers.
pub mod OperationLemmas
pub mod OperationNumberLemmas
pub mod OrderLiteralLemmas
pub mod VariableLemmas
pub mod WriterNumberLemmas
