use Rattle.std.proofs.Common.{◌≡◌, ◌++◌}
use Rattle.trace_semantics.specs.Trace.{first_names}
use Rattle.survey_verdict.proofs.core_names.push_names.Given as goal

abbrev pub invariant-loop-k : goal.invariant-loop-k
invariant-loop-k l = l.names.items ≡ l.initial.names.items ++ first_names l.process.name l.k
