use Rattle.trace_decision.proofs.InCubeLemmas.{holds_schedules}
use Rattle.trace_decision.proofs.laws.schedules_are_where_models_are.Goals as goal

pub returns : goal.returns
returns c t cubes ok given = holds_schedules t ok cubes given
