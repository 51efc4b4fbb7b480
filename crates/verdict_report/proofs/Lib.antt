mod AdmittedLemmas
mod DecodeLemmas
pub mod EngineLemmas
mod LegalTextLemmas
mod MeaningLemmas
mod PieceLemmas
mod RecheckLemmas
mod VerifyLemmas
mod WrittenTextLemmas
