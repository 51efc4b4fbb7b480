-- Lines that were read, and a derivation that was checked, are a certificate that is accepted.
use Rattle.std.proofs.Common.{◌≡◌, ◌⊎◌, ℕ, ℤ, List, [], ◌∷◌, inl, inr, subst, length}
use Rattle.std.specs.Prelude.{Some, None}
use Rattle.std.specs.List.{AllZip}
use Rattle.text_lines.specs.Lines.{lines_of}
use Rattle.trace_semantics.specs.Trace.{TraceValue}
use Rattle.lrat_check.specs.Checked.{IsAccepted}
use Rattle.lrat_check.specs.LratText.{AreStepLines, IsStepLine}
use Rattle.lrat_check.specs.declared.derivation.Step.{Step}
use Rattle.order_clauses.specs.declared.reason_list.ReasonList.{ReasonList}
use Rattle.reason_check.specs.Accepted.{EndsEmpty, HasDerivation, IsAcceptedReasons, NoneIsEmpty}
use Rattle.reason_check.specs.Reading.{IsBehindMark, IsDerivationFor, IsReadOn, IsReadTo, IsReadUpTo}
use Rattle.reason_check.specs.declared.clause_lines.DerivationText.{DerivationText}

-- no lines are no steps, which are not accepted
no_steps : (clauses : List (List ℤ)) (steps : List Step) → AllZip IsStepLine [] steps → IsAccepted clauses [] steps → ⊥
no_steps clauses [] h accepted = accepted
no_steps clauses (step ∷ steps) h accepted = absurd h

module _ (t : TraceValue) (text : List ℕ) (list : ReasonList) (count : ℕ) (counted : count ≡ length list.clauses.items) where
  accepted : (rest : List (List ℕ)) → IsReadTo t text list rest → EndsEmpty list.clauses.items ⊎ (NoneIsEmpty list.clauses.items × HasDerivation list.clauses.items rest) → IsAcceptedReasons t text count
  accepted rest h refuted = record {
    header = h.header;
    front = h.front;
    rest = rest;
    parts = h.parts;
    headed = h.headed;
    lines = h.lines;
    read = h.read;
    variables = list.variables;
    clauses = list.clauses.items;
    over = h.made.over;
    made = h.made.made;
    counted = counted;
    refuted = refuted;
  }

  pub accepted_empty : IsReadUpTo t text list None → IsAcceptedReasons t text count
  accepted_empty (rest, h, empty) = accepted rest h (inl empty)

  derived : (behind : List ℕ) (rest : List (List ℕ)) → IsReadOn t text list rest → IsBehindMark behind rest → IsDerivationFor list.clauses.items behind → IsAcceptedReasons t text count
  derived behind rest h (inl (mark, parts, marked)) (steps, spelled, ok) =
      accepted rest h.0 (inr (h.1, record { mark = mark; behind = lines_of behind; parts = parts; marked = marked; steps = steps; derived = spelled; accepted = ok }))
  derived behind rest h (inr (none, ends)) (steps, spelled, ok) =
      let at : AreStepLines [] steps = subst (λ (l : List (List ℕ)). AreStepLines l steps) ends spelled in
      absurd (no_steps list.clauses.items steps at.lines_are ok)

  pub accepted_derived : (derivation : DerivationText) → IsReadUpTo t text list (Some derivation) → IsDerivationFor list.clauses.items derivation.text.now → IsAcceptedReasons t text count
  accepted_derived derivation (rest, h, behind, _) d = derived derivation.text.now rest h behind d
