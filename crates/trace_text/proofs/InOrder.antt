-- Values and pairs in order.
pub mod OrderedLemmas
pub mod PairOrderLemmas
pub mod RisingLemmas
pub mod SortLemmas
