pub mod AgreedLemmas
mod Examples
pub mod PartLemmas
pub mod TraceLemmas
