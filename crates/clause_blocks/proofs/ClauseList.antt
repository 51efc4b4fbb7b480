-- The clause list: its families, their variables, and how many clauses there are.
pub mod FamilyLemmas
pub mod FewLemmas
pub mod FinalLemmas
pub mod FormulaLemmas
pub mod ListLemmas
pub mod PartLemmas
pub mod ReadLemmas
