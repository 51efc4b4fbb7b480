pub mod AllResults
pub mod CountLemmas
pub mod JobsPut
pub mod PairLemmas
pub mod Workers
