-- Jobs and results that weigh the same.
pub mod AccountLemmas
pub mod AnswerLemmas
pub mod TotalLemmas
