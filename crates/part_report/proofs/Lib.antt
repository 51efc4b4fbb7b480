mod PartLemmas
mod PartRecheckLemmas
