use Rattle.std.proofs.Common.{◌≡◌, true, length, take}
use Rattle.std.specs.List.{list_all, flat_map}
use Rattle.trace_semantics.specs.Judgement.{has_come}
use Rattle.trace_semantics.specs.Trace.{first_names}
use Rattle.schedule_judge.proofs.judge.has_all.Given as goal

abbrev pub invariant-loop-process : goal.invariant-loop-process
invariant-loop-process l = list_all (has_come l.survey.names.now) (flat_map (λ p. first_names p.name (length p.operations)) (take l.process-index l.processes)) ≡ true
