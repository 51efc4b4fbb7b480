-- What follows from what a surveyor finds.
use Rattle.std.specs.Prelude.{◌≡◌, ◌⊎◌, ⊤, ℕ, min, List, Option, Some, None}
use Rattle.cube_jobs.specs.Options.{OptionsValue}
use Rattle.reason_check.specs.Accepted.{IsAcceptedReasons}
use Rattle.surveyor.specs.declared.Extent.{Extent}
use Rattle.surveyor.specs.declared.Finding.{Finding}
use Rattle.surveyor.specs.declared.Finding.TheVariants.{Core, Nothing, Reasons, Schedule}
use Rattle.surveyor.specs.declared.Overview.{Overview}
use Rattle.survey_verdict.specs.declared.surveyed.Surveyed.{Surveyed}
use Rattle.survey_verdict.specs.declared.surveyed.Surveyed.TheVariants.{Decided, Reasoned, Refuted, Undecided}
use Rattle.survey_verdict.specs.Surveyed.{IsSurveyed, IsUnrefutedChoice, core_of}
use Rattle.trace_decision.specs.declared.decision.Decision.TheVariants.{Consistent}
use Rattle.trace_semantics.specs.declared.operation.OpName.{OpName}
use Rattle.trace_semantics.specs.Legal.{HasNoSchedule, IsLegal}
use Rattle.trace_semantics.specs.Trace.{TraceValue, operation_count, operation_names}

-- these names, if they are a legal schedule of the trace
abbrev pub IsJudged : TraceValue → List OpName → Option (List OpName) → Type 0
IsJudged t names (Some schedule) = (schedule ≡ names) × IsLegal t schedule
IsJudged t names None = IsLegal t names → ⊥

-- the text is a certificate of reasons of this many clauses that is accepted of the trace, which so has no legal schedule; of none nothing is said
abbrev pub IsAcceptedSome : TraceValue → List ℕ → Option ℕ → Type 0
IsAcceptedSome t text (Some clauses) = IsAcceptedReasons t text clauses × HasNoSchedule t
IsAcceptedSome t text None = ⊤

-- what is decided is this core
abbrev pub HasCore : List OpName → Surveyed → Type 0
HasCore names (Decided decision) = ⊥
HasCore names (Refuted core) = core.names ≡ names
HasCore names (Reasoned reasons) = ⊥
HasCore names (Undecided extent) = ⊥

-- what is decided is the certificate of reasons with this text
abbrev pub HasReasons : List ℕ → Surveyed → Type 0
HasReasons text (Decided decision) = ⊥
HasReasons text (Refuted core) = ⊥
HasReasons text (Reasoned reasons) = reasons.text.items ≡ text
HasReasons text (Undecided extent) = ⊥

-- what is decided is what was found: the schedule, or the core, in the order of the trace, or the certificate of reasons
abbrev pub IsAsFound : TraceValue → Finding → Surveyed → Type 0
IsAsFound t (Schedule names) surveyed = surveyed ≡ Decided (Consistent names.items)
IsAsFound t (Core names) surveyed = HasCore (core_of t names.items) surveyed
IsAsFound t (Reasons text) surveyed = HasReasons text.items surveyed
IsAsFound t Nothing surveyed = ⊥

-- What was found shows nothing: the schedule is not legal, or a search with these options need not refute the part of the core, which is true
-- of each core. Of a certificate of reasons nothing is said here: that each one that should be accepted is used is tested.
abbrev pub ShowsNothing : OptionsValue → TraceValue → Finding → Type 0
ShowsNothing options t (Schedule names) = IsLegal t names.items → ⊥
ShowsNothing options t (Core names) = IsUnrefutedChoice options t (core_of t names.items)
ShowsNothing options t (Reasons text) = ⊤
ShowsNothing options t Nothing = ⊤

-- what is decided by what was found, or that it shows nothing
abbrev pub IsShownBy : OptionsValue → TraceValue → Finding → Option Surveyed → Type 0
IsShownBy options t finding (Some surveyed) = IsSurveyed options t surveyed × IsAsFound t finding surveyed
IsShownBy options t finding None = ShowsNothing options t finding

-- what is decided of the whole trace after a survey that came this far: the core has all operations, and what is not decided is left with
-- the numbers of the survey
abbrev pub IsOfWhole : TraceValue → Extent → Surveyed → Type 0
IsOfWhole t extent (Decided decision) = ⊤
IsOfWhole t extent (Refuted core) = core.names ≡ operation_names t
IsOfWhole t extent (Reasoned reasons) = ⊥
IsOfWhole t extent (Undecided told) = told ≡ extent

-- what is decided of the whole trace is so
abbrev pub IsDecidedWhole : OptionsValue → TraceValue → Extent → Surveyed → Type 0
IsDecidedWhole options t extent surveyed = IsSurveyed options t surveyed × IsOfWhole t extent surveyed

-- the numbers of a survey, of which no more operations are said to be placed than the trace has
abbrev pub extent_within : TraceValue → Extent → Extent
extent_within t extent = record { placed = min extent.placed (operation_count t); undecided = extent.undecided; steps = extent.steps }

-- what is decided is what was found, or else, if that shows nothing, it is as the rest says
abbrev pub IsFoundOr : OptionsValue → TraceValue → Finding → (Surveyed → Type 0) → Surveyed → Type 0
IsFoundOr options t finding Otherwise surveyed = IsAsFound t finding surveyed ⊎ (ShowsNothing options t finding × Otherwise surveyed)

-- what is decided is the first of the two findings that shows something, or else what a search of the whole trace decides
abbrev pub FollowsFrom : OptionsValue → TraceValue → Overview → Surveyed → Type 0
FollowsFrom options t overview = IsFoundOr options t overview.finding (IsFoundOr options t overview.otherwise (IsOfWhole t (extent_within t overview.extent)))

-- what is decided follows from something that is found so
abbrev pub FollowsFromSome : OptionsValue → TraceValue → (Overview → Type 0) → Surveyed → Type 0
FollowsFromSome options t IsFound surveyed = (overview : Overview) × IsFound overview × FollowsFrom options t overview surveyed
