-- What is decided of a trace with a hint.
use Rattle.std.specs.Prelude.{◌≡◌, ◌⊎◌, Bool, true, false, List}
use Rattle.cube_jobs.specs.Options.{OptionsValue}
use Rattle.surveyor.specs.declared.Overview.{Overview}
use Rattle.survey_verdict.specs.declared.surveyed.Surveyed.{Surveyed}
use Rattle.survey_verdict.specs.declared.surveyed.Surveyed.TheVariants.{Decided}
use Rattle.survey_verdict.specs.Findings.{FollowsFromSome}
use Rattle.trace_decision.specs.declared.decision.Decision.TheVariants.{Consistent}
use Rattle.trace_semantics.specs.declared.operation.OpName.{OpName}
use Rattle.trace_semantics.specs.Legal.{IsLegal}
use Rattle.trace_semantics.specs.Trace.{TraceValue}

-- these names are a legal schedule of the trace exactly if this is true
abbrev pub IsLegalExactlyIf : Bool → TraceValue → List OpName → Type 0
IsLegalExactlyIf true t names = IsLegal t names
IsLegalExactlyIf false t names = IsLegal t names → ⊥

-- what is decided is that the hint is a legal schedule, if it is one, and else it follows from something that is found so
abbrev pub FollowsWithHint : OptionsValue → TraceValue → List OpName → (Overview → Type 0) → Surveyed → Type 0
FollowsWithHint options t hint IsFound surveyed =
    (IsLegal t hint × (surveyed ≡ Decided (Consistent hint))) ⊎ ((IsLegal t hint → ⊥) × FollowsFromSome options t IsFound surveyed)
