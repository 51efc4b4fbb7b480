pub mod ModelLemmas
pub mod NameLemmas
pub mod OrderLemmas
