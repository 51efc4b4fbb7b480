pub mod ModelNumberLemmas
pub mod ModelReadLemmas
pub mod ModelTextLemmas
