-- Why lines of a certificate are refused.
use Rattle.std.proofs.Common.{◌≡◌, ◌+◌, true, ℕ, ℤ, List, ◌∷◌, refl, sym, subst}
use Rattle.std.specs.Prelude.{Some, Result, Ok, Err, IfErr, IsErrAnd}
use Rattle.lrat_check.specs.LratFaults.{HasLratFault}
use Rattle.lrat_check.specs.declared.lrat_fault.LratCause.{LratCause}
use Rattle.order_clauses.specs.declared.reason_list.ReasonList.{ReasonList}
use Rattle.reason_clauses.specs.RefusedBy.{IsRefusedBy}
use Rattle.reason_clauses.specs.declared.cause.ReasonCause.{ReasonCause}
use Rattle.reason_check.specs.Reading.{IsReadBehind, IsReadUpTo}
use Rattle.reason_check.specs.Refused.{IsRefusedDerivation, IsRefusedLine, IsRefusedReading, IsRefusedReasons, ByTrace, AtLine, fault_of_line, fault_of_lrat}
use Rattle.reason_check.specs.RefusedByTrace.{IsRefusedByTrace}
use Rattle.reason_check.specs.declared.clause_lines.DerivationText.{DerivationText}
use Rattle.reason_check.specs.declared.line_clause.LineOutcome.{LineOutcome}
use Rattle.reason_check.specs.declared.reasons_fault.ReasonsFault.{ReasonsFault}
use Rattle.reason_check.specs.declared.reasons_fault.ReasonsFault.TheVariants.{OutOfMemory as NoMemory, Line, Lrat, Step}
use Rattle.reason_text.specs.OperationNumbers.{HoldsTrace}
use Rattle.reason_text.specs.ReasonLine.{IsReasonLine}
use Rattle.reason_text.specs.declared.operation_table.OperationTable.{OperationTable}
use Rattle.reason_text.specs.declared.reason_line.ReasonLine.{ReasonLine}
use Rattle.text_lines.specs.Words.{words_of}
use Rattle.text_lines.specs.Fault.{IsRefusal}
use Rattle.text_lines.specs.declared.fault.PlacedFault.{PlacedFault}
use Rattle.text_lines.specs.declared.fault.PlacedFault.TheVariants.{OutOfMemory as Exhausted, At}
use Rattle.text_lines.specs.declared.plain_fault.PlainFault.{PlainFault}
use Rattle.text_lines.specs.declared.plain_fault.PlainFault.TheVariants.{OutOfMemory, For}
use Rattle.trace_semantics.specs.Trace.{TraceValue}

module _ (t : TraceValue) where
  -- a line that was read is refused by the trace
  pub refused_by_trace : (words : List (List ℕ)) (line : ReasonLine) (table : OperationTable) → IsReasonLine t words line → (r : Result LineOutcome (PlainFault ReasonCause)) → IfErr r (IsRefusedBy (IsRefusedByTrace t line)) →
      IfErr r (λ refusal. HoldsTrace table → IsRefusedBy (IsRefusedLine t words) refusal)
  refused_by_trace words line table is (Ok outcome) h = tt
  refused_by_trace words line table is (Err OutOfMemory) h = λ holds. tt
  refused_by_trace words line table is (Err (For cause)) h = λ holds. ByTrace line is h

  -- and with it the text, at this line
  pub refused_at_line : (text : List ℕ) (list : ReasonList) (before : ℕ) (line : List ℕ) (rest : List (List ℕ)) → IsReadBehind t text list before (line ∷ rest) → (refusal : PlainFault ReasonCause) → IsRefusedBy (IsRefusedLine t (words_of line)) refusal →
      IsRefusedReading t text (fault_of_line refusal (before + 1))
  refused_at_line text list before line rest read OutOfMemory h = tt
  refused_at_line text list before line rest read (For cause) h = AtLine list before line rest read refl h

  module _ (text : List ℕ) (list : ReasonList) (derivation : DerivationText) (read : IsReadUpTo t text list (Some derivation)) where
    -- the derivation is refused, and with it the text
    refused_behind : (fault : ReasonsFault) → IsRefusedDerivation list.clauses.items derivation.before derivation.text.now fault → IsRefusedReasons t text fault
    refused_behind NoMemory h = tt
    refused_behind (Line cause place) h = absurd h
    refused_behind (Lrat cause place) h = (list, read.0, derivation.text.now, derivation.before, read.1, read.2, read.3, h)
    refused_behind (Step fault place) h = (list, read.0, derivation.text.now, derivation.before, read.1, read.2, read.3, h)

    pub derivation_refused : {A : Type 0} (r : Result A ReasonsFault) (fault : ReasonsFault) → IsErrAnd r (λ other. other ≡ fault) → IsRefusedDerivation list.clauses.items derivation.before derivation.text.now fault → IfErr r (IsRefusedReasons t text)
    derivation_refused (Ok x) fault e h = absurd e
    derivation_refused (Err other) fault e h = refused_behind other (subst (λ (f : ReasonsFault). IsRefusedDerivation list.clauses.items derivation.before derivation.text.now f) (sym e) h)

-- the text of a derivation is refused for its first fault
pub refused_text : (clauses : List (List ℤ)) (before : ℕ) (text : List ℕ) (fault : PlacedFault LratCause) → IsRefusal (HasLratFault text) fault → IsRefusedDerivation clauses before text (fault_of_lrat before fault)
refused_text clauses before text Exhausted h = tt
refused_text clauses before text (At cause line) h = (line, h, refl)
