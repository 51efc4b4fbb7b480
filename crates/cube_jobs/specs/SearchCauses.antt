-- The numbers and the names of the causes for which a search has no results.
use Rattle.std.specs.Prelude.{ℕ, List, codes}
use Rattle.cube_jobs.specs.declared.search_fault.SearchCause.{SearchCause}
use Rattle.cube_jobs.specs.declared.search_fault.SearchCause.TheVariants.{Cut, NoThread}

abbrev pub cause_number : SearchCause → ℕ
cause_number Cut = 2
cause_number NoThread = 3

abbrev pub cause_name : SearchCause → List ℕ
cause_name Cut = codes "Cut"
cause_name NoThread = codes "NoThread"
