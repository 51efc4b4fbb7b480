-- The jobs of leaves, in the order in which they are put.
pub mod JobLemmas
pub mod LeafLemmas
pub mod PutLemmas
