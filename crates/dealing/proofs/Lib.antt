pub mod ListLemmas
pub mod TimesLemmas
pub mod CountedLemmas
pub mod RunLemmas
pub mod DealtLemmas
