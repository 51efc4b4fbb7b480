mod CoreNameLemmas
mod FindingLemmas
mod NamedLemmas
mod SurveyedLemmas
