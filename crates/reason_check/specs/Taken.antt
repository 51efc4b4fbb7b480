-- What comes of a line.
use Rattle.std.specs.Prelude.{◌≡◌, ◌≢◌, ◌⊎◌, ◌↔◌, true, ℤ, List, [], ◌∷◌, ◌++◌, length}
use Rattle.std.specs.List.{list_all}
use Rattle.dimacs.specs.Literal.{is_clause_up_to}
use Rattle.order_clauses.specs.Appended.{HasSameClauses}
use Rattle.order_clauses.specs.OrderVariables.{IsExtended}
use Rattle.order_clauses.specs.ReasonList.{named_pairs}
use Rattle.order_clauses.specs.declared.reason_list.ReasonList.{ReasonList}
use Rattle.order_reasons.specs.Orders.{orders_said}
use Rattle.reason_check.specs.LineClauses.{IsClauseOfLine, MakeClauses, is_silent}
use Rattle.reason_check.specs.declared.line_clause.LineOutcome.{LineOutcome}
use Rattle.reason_check.specs.declared.line_clause.LineOutcome.TheVariants.{More, Refuted, Derivation}
use Rattle.reason_text.specs.declared.reason_line.ReasonLine.{ReasonLine}
use Rattle.reason_text.specs.declared.reason_line.ReasonLine.TheVariants.{Derivation as DerivationLine}
use Rattle.trace_semantics.specs.declared.operation.OpName.{OpName}
use Rattle.trace_semantics.specs.Trace.{TraceValue}

-- the clauses of the list are over its variables
abbrev pub AreOver : ReasonList → Type 0
AreOver list = list_all (is_clause_up_to (length list.variables)) list.clauses.items ≡ true

-- the list has the clauses that the lines make
pub record AreMade (t : TraceValue) (lines : List ReasonLine) (list : ReasonList) : Type 0 where
  pub over : AreOver list
  pub made : MakeClauses t list.variables lines list.clauses.items

-- the list has one clause more, of this kind, and perhaps more variables; what came of the line is `Refuted` exactly where the clause is empty, and never `Derivation`
pub record HasNext (t : TraceValue) (Is : List (OpName × OpName) → Type 0) (old new : ReasonList) (outcome : LineOutcome) : Type 0 where
  pub clause : List ℤ
  pub appended : new.clauses.items ≡ old.clauses.items ++ clause ∷ []
  pub extended : IsExtended old.variables new.variables
  pub over : is_clause_up_to (length new.variables) clause ≡ true
  pub is : Is (orders_said (named_pairs t new.variables) clause)
  pub ended : (outcome ≡ Refuted) ↔ (clause ≡ [])
  pub goes_on : outcome ≢ Derivation

-- no clause comes of the line
abbrev pub IsPassed : ReasonList → ReasonList → LineOutcome → Type 0
IsPassed old new outcome = HasSameClauses old new × (outcome ≡ More)

-- the line makes a clause, or is silent, or begins the derivation
abbrev pub IsTaken : TraceValue → ReasonLine → ReasonList → ReasonList → LineOutcome → Type 0
IsTaken t line old new outcome =
    HasNext t (IsClauseOfLine t line) old new outcome ⊎ (((is_silent line ≡ true) × IsPassed old new outcome) ⊎ ((line ≡ DerivationLine) × (new ≡ old) × (outcome ≡ Derivation)))
