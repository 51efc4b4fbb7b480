pub mod CnfBodyLemmas
pub mod CnfLawLemmas
pub mod CnfLineLemmas
pub mod CnfNumberLemmas
pub mod CnfReaderLemmas
pub mod CnfTextLemmas
pub mod CnfWrittenLemmas
