-- Lines and words of a text: how they are cut off, kept and ended.
pub mod CutLemmas
pub mod KeptLemmas
pub mod LineLemmas
pub mod TakeLemmas
