-- The text of a certificate: what it spells, and its faults.
pub mod EitherLemmas
pub mod HeaderLemmas
pub mod LineCutLemmas
pub mod SectionCutLemmas
pub mod SectionLemmas
pub mod SectionReadLemmas
pub mod TextLawLemmas
pub mod WriteLemmas
pub mod WrittenLemmas
