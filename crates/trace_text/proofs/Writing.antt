-- The canonical text of a trace spells it.
pub mod LineTextLemmas
pub mod TraceWrittenLemmas
pub mod WritableLemmas
