pub mod CauseLemmas
pub mod DistinctLemmas
pub mod ElementLemmas
mod Examples
pub mod JudgementLemmas
pub mod KnownOrderLemmas
pub mod LimitLemmas
pub mod NameByteLemmas
pub mod NameLemmas
pub mod OrderLemmas
pub mod ProcessOrderLemmas
pub mod ScheduleLimitLemmas
pub mod ValueLemmas
pub mod WrittenLemmas
