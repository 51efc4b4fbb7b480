pub mod LiteralLemmas
pub mod WrittenLemmas
