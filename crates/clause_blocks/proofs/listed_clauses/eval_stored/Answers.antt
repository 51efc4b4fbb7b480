use Rattle.std.proofs.Common.{sym, ◌∙◌}
use Rattle.dimacs.specs.Assignment.{value_of}
use Rattle.dimacs.proofs.ModelLemmas.{first_at, model_at}
use Rattle.clause_blocks.proofs.listed_clauses.eval_stored.Goals as goal

pub returns-in-Some-clause-first : goal.returns-in-Some-clause-first
returns-in-Some-clause-first c = first_at (value_of c.args.assignment.now) c.args.stored.now c.in-Some.place (sym c.first_false.ensures ∙ c.in-Some.is)

pub returns-in-None-clause-model : goal.returns-in-None-clause-model
returns-in-None-clause-model c = model_at (value_of c.args.assignment.now) c.args.stored.now (sym c.first_false.ensures ∙ c.in-None.is)
