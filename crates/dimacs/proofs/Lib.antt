pub mod ChunkLemmas
pub mod DigitLemmas
pub mod ModelLemmas
pub mod SinkLemmas
pub mod TranscriptValues
pub mod VariableLemmas
