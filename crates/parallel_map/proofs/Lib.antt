pub mod CallerLemmas
pub mod ShareLemmas
