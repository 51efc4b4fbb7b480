-- The literals that a derivation adds.
use Rattle.std.specs.Prelude.{Bool, true, List}
use Rattle.std.specs.List.{list_all}
use Rattle.dimacs.specs.Literal.{is_clause}
use Rattle.lrat_check.specs.declared.derivation.Step.{Step}
use Rattle.lrat_check.specs.declared.derivation.Step.TheVariants.{Addition, Deletion}

-- the literals that it adds, if it adds any, are a clause
abbrev pub is_step : Step → Bool
is_step (Addition id literals hints) = is_clause literals
is_step (Deletion first ids) = true

abbrev pub are_steps : List Step → Bool
are_steps steps = list_all is_step steps
