mod CommandLemmas
mod EnterLemmas
mod EntryLemmas
mod FoundLemmas
mod GivenLemmas
