pub mod BlockLemmas
pub mod EngineLemmas
pub mod FormLemmas
pub mod PlainLemmas
pub mod ReadingLemmas
pub mod VerdictLemmas
