-- The outcome of a batch, by its verdicts.
use Rattle.std.specs.Prelude.{Bool, true, false, ◌||◌, List, [], ◌∷◌, Option, None, Some, Result, Ok, Err}
use Rattle.std.specs.List.{list_any}
use Rattle.batch_report.specs.declared.piece_verdict.PieceVerdict.{PieceVerdict}
use Rattle.batch_report.specs.declared.piece_verdict.PieceVerdict.TheVariants.{Refuted, RefutedCore, Reasoned, Open, Undecided, Refused}
use Rattle.batch_report.specs.declared.tally.VerdictTally.{VerdictTally}
use Rattle.verdict_report.specs.declared.fault.Fault.{Fault}
use Rattle.verdict_report.specs.declared.fault.Fault.TheVariants.{Device}
use Rattle.verdict_report.specs.declared.status.Status.{Status}
use Rattle.verdict_report.specs.declared.status.Status.TheVariants.{Yes, No, Unknown}

-- a device failed
abbrev pub is_device : Fault → Bool
is_device Device = true
is_device fault = false

abbrev pub is_failure : PieceVerdict → Bool
is_failure (Refused fault) = is_device fault
is_failure verdict = false

-- the trace has no legal schedule
abbrev pub is_no : PieceVerdict → Bool
is_no (Refuted cubes) = true
is_no (RefutedCore operations cubes) = true
is_no (Reasoned operations reasons) = true
is_no verdict = false

-- the trace is not decided
abbrev pub is_unknown : PieceVerdict → Bool
is_unknown (Open open_cubes) = true
is_unknown (Undecided placed undecided) = true
is_unknown verdict = false

-- the refusal, if the piece is refused
abbrev pub refusal_in : PieceVerdict → Option Fault
refusal_in (Refused fault) = Some fault
refusal_in verdict = None

abbrev pub or_refusal : Option Fault → Option Fault → Option Fault
or_refusal (Some fault) other = Some fault
or_refusal None other = other

-- the first refusal
abbrev pub first_refusal : List PieceVerdict → Option Fault
first_refusal [] = None
first_refusal (verdict ∷ verdicts) = or_refusal (refusal_in verdict) (first_refusal verdicts)

-- the outcome: that a device failed, or else that some trace has no legal schedule, or else the first refusal, or else that some trace is not decided,
-- or else that each has one
abbrev pub outcome_by : (has_failed has_no : Bool) (refusal : Option Fault) (has_unknown : Bool) → Result Status Fault
outcome_by true has_no refusal has_unknown = Err Device
outcome_by false true refusal has_unknown = Ok No
outcome_by false false (Some fault) has_unknown = Err fault
outcome_by false false None true = Ok Unknown
outcome_by false false None false = Ok Yes

abbrev pub outcome : List PieceVerdict → Result Status Fault
outcome verdicts = outcome_by (list_any is_failure verdicts) (list_any is_no verdicts) (first_refusal verdicts) (list_any is_unknown verdicts)

-- ---- as it is counted

-- of no verdict
abbrev pub no_tally : VerdictTally
no_tally = record { has_failed = false; has_no = false; refusal = None; has_unknown = false }

abbrev pub outcome_of_tally : VerdictTally → Result Status Fault
outcome_of_tally tally = outcome_by tally.has_failed tally.has_no tally.refusal tally.has_unknown

abbrev pub tally_with : VerdictTally → PieceVerdict → VerdictTally
tally_with tally verdict = record {
  has_failed = tally.has_failed || is_failure verdict;
  has_no = tally.has_no || is_no verdict;
  refusal = or_refusal tally.refusal (refusal_in verdict);
  has_unknown = tally.has_unknown || is_unknown verdict;
}

abbrev pub tally_with_all : VerdictTally → List PieceVerdict → VerdictTally
tally_with_all tally [] = tally
tally_with_all tally (verdict ∷ verdicts) = tally_with_all (tally_with tally verdict) verdicts
