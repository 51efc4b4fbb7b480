-- Certificates of reasons that are refused.
use Rattle.std.specs.Prelude.{◌≡◌, ◌+◌, ⊤, ℕ, ℤ, false, List, [], ◌∷◌}
use Rattle.lrat_check.specs.Checked.{IsRefused}
use Rattle.lrat_check.specs.LratFaults.{HasLratFault}
use Rattle.lrat_check.specs.LratText.{SpellsDerivation}
use Rattle.lrat_check.specs.declared.derivation.Step.{Step as DerivationStep}
use Rattle.lrat_check.specs.declared.lrat_fault.LratCause.{LratCause}
use Rattle.lrat_check.specs.declared.refusal.StepFault.{StepFault}
use Rattle.order_clauses.specs.declared.reason_list.ReasonList.{ReasonList}
use Rattle.reason_clauses.specs.declared.cause.ReasonCause.{ReasonCause}
use Rattle.reason_clauses.specs.declared.cause.ReasonCause.TheVariants.{BadHeader}
use Rattle.reason_check.specs.RefusedByTrace.{IsRefusedByTrace}
use Rattle.reason_check.specs.Reading.{AreBefore, IsReadBehind, IsReadOn, IsBehindMark}
use Rattle.reason_check.specs.declared.reasons_fault.ReasonsFault.{ReasonsFault}
use Rattle.reason_check.specs.declared.reasons_fault.ReasonsFault.TheVariants.{OutOfMemory as NoMemory, Line, Lrat, Step}
use Rattle.reason_text.specs.Header.{begins_reasons}
use Rattle.reason_text.specs.LineFault.{HasLineFault}
use Rattle.reason_text.specs.ReasonLine.{IsReasonLine}
use Rattle.reason_text.specs.declared.reason_line.ReasonLine.{ReasonLine}
use Rattle.text_lines.specs.Lines.{lines_of}
use Rattle.text_lines.specs.Words.{words_of}
use Rattle.text_lines.specs.declared.fault.PlacedFault.{PlacedFault}
use Rattle.text_lines.specs.declared.fault.PlacedFault.TheVariants.{OutOfMemory as Exhausted, At}
use Rattle.text_lines.specs.declared.plain_fault.PlainFault.{PlainFault}
use Rattle.text_lines.specs.declared.plain_fault.PlainFault.TheVariants.{OutOfMemory, For}
use Rattle.trace_semantics.specs.Trace.{TraceValue}

-- the fault of the line at this place, for its refusal
abbrev pub fault_of_line : PlainFault ReasonCause → ℕ → ReasonsFault
fault_of_line OutOfMemory place = NoMemory
fault_of_line (For cause) place = Line cause place

-- why the line with these words is refused: for a fault of the words, or for what the line says of the trace
pub data IsRefusedLine (t : TraceValue) (words : List (List ℕ)) (cause : ReasonCause) : Type 0 where
  ByWords : HasLineFault t words cause → IsRefusedLine t words cause
  ByTrace : (line : ReasonLine) → IsReasonLine t words line → IsRefusedByTrace t line cause → IsRefusedLine t words cause

-- The first line is no header; or all lines in front of one were read and make clauses, of which none is empty, and this one is refused. Its
-- place is counted from 1.
pub data IsRefusedAt (t : TraceValue) (text : List ℕ) (cause : ReasonCause) (place : ℕ) : Type 0 where
  NoHeader : begins_reasons text ≡ false → cause ≡ BadHeader → place ≡ 1 → IsRefusedAt t text cause place
  AtLine : (list : ReasonList) (before : ℕ) (line : List ℕ) (rest : List (List ℕ)) → IsReadBehind t text list before (line ∷ rest) → place ≡ before + 1 → IsRefusedLine t (words_of line) cause → IsRefusedAt t text cause place

-- where the lines in front of the derivation are read, one of them is refused, if any
abbrev pub IsRefusedReading : TraceValue → List ℕ → ReasonsFault → Type 0
IsRefusedReading t text NoMemory = ⊤
IsRefusedReading t text (Line cause place) = IsRefusedAt t text cause place
IsRefusedReading t text (Lrat cause place) = ⊥
IsRefusedReading t text (Step fault place) = ⊥

-- the fault of the step at this place
abbrev pub fault_of_step : PlacedFault StepFault → ReasonsFault
fault_of_step Exhausted = NoMemory
fault_of_step (At fault place) = Step fault place

-- the fault of the text of a derivation in front of which this many lines stand
abbrev pub fault_of_lrat : ℕ → PlacedFault LratCause → ReasonsFault
fault_of_lrat before Exhausted = NoMemory
fault_of_lrat before (At cause line) = Lrat cause (before + line)

-- The text of a derivation for these clauses, behind this many lines, is refused: it has its first fault of a line for this cause, and the place is
-- that of the line, counted from the certificate's first; or this step of it is refused.
abbrev pub IsRefusedDerivation : List (List ℤ) → ℕ → List ℕ → ReasonsFault → Type 0
IsRefusedDerivation clauses before text NoMemory = ⊤
IsRefusedDerivation clauses before text (Line cause place) = ⊥
IsRefusedDerivation clauses before text (Lrat cause place) = (line : ℕ) × HasLratFault text cause line × (place ≡ before + line)
IsRefusedDerivation clauses before text (Step fault place) = (steps : List DerivationStep) × SpellsDerivation text steps × IsRefused clauses [] steps fault place

-- all lines in front of the derivation were read and make clauses, of which none is empty, and it is refused for them
abbrev pub IsRefusedBehind : TraceValue → List ℕ → ReasonsFault → Type 0
IsRefusedBehind t text fault =
    (list : ReasonList) × (rest : List (List ℕ)) × (derivation : List ℕ) × (before : ℕ) × IsReadOn t text list rest × IsBehindMark derivation rest × AreBefore text (lines_of derivation) before × IsRefusedDerivation list.clauses.items before derivation fault

-- the certificate is refused: a line in front of the derivation, or else the derivation
abbrev pub IsRefusedReasons : TraceValue → List ℕ → ReasonsFault → Type 0
IsRefusedReasons t text NoMemory = ⊤
IsRefusedReasons t text (Line cause place) = IsRefusedAt t text cause place
IsRefusedReasons t text (Lrat cause place) = IsRefusedBehind t text (Lrat cause place)
IsRefusedReasons t text (Step fault place) = IsRefusedBehind t text (Step fault place)
