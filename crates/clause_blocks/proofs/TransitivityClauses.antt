-- The clauses of transitivity: how many there are, and what makes them true.
pub mod CountLemmas
pub mod RankLemmas
pub mod TripleLemmas
