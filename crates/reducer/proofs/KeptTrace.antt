-- The operations that are kept, and the trace that they make.
pub mod BoundsLemmas
pub mod CopyLemmas
pub mod KeptLemmas
pub mod PairLemmas
pub mod TraceLemmas
