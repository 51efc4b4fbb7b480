-- What the words of a line say.
pub mod HighLemmas
pub mod KnownLemmas
pub mod LineLemmas
pub mod ReferenceLemmas
pub mod SaidLemmas
pub mod SpanLemmas
pub mod SpellLemmas
pub mod TimedLemmas
