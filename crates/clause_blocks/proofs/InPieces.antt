-- What is made and sent in pieces.
pub mod LineRunLemmas
pub mod PieceLemmas
pub mod RangeSentLemmas
pub mod SentLemmas
pub mod StepLemmas
