-- The results are those of the leaves that were asked for.
pub mod AnswerLemmas
pub mod PartLemmas
pub mod ResultLemmas
