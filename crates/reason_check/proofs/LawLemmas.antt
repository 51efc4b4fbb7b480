-- A certificate of reasons that is accepted of a trace shows that it has no legal schedule.
use Rattle.std.proofs.Common.{◌≡◌, ◌⊎◌, ℕ, ℤ, List, [], ◌∷◌, true, refl, sym, inl, inr, subst, map, length}
use Rattle.std.specs.List.{AllZip, Contains, filter, list_all}
use Rattle.std.proofs.lemmas.Bool.{and_parts, and_from}
use Rattle.dimacs.specs.Literal.{is_clause}
use Rattle.dimacs.specs.Models.{HasNoModelIn}
use Rattle.trace_semantics.specs.declared.operation.OpName.{OpName}
use Rattle.trace_semantics.specs.Legal.{HasNoSchedule}
use Rattle.trace_semantics.specs.Trace.{TraceValue, IsTrace}
use Rattle.trace_semantics.proofs.ElementLemmas.{cases_in, in_middle, none_in}
use Rattle.restriction.proofs.OrderedPairLemmas.{all_from}
use Rattle.lrat_check.specs.Derivation.{are_steps}
use Rattle.lrat_check.specs.LratText.{is_id, is_id_number, is_lrat_step}
use Rattle.lrat_check.specs.declared.derivation.Step.{Step}
use Rattle.lrat_check.specs.declared.derivation.Step.TheVariants.{Addition, Deletion}
use Rattle.lrat_check.proofs.SoundLemmas.{no_model, formula_no_zero}
use Rattle.order_reasons.specs.Orders.{HoldsOfSchedules, orders_said}
use Rattle.order_reasons.specs.Sources.{IsSourceClause}
use Rattle.order_reasons.proofs.CountReasons.{counted}
use Rattle.order_reasons.proofs.OrderReasons.{cycle_holds, pair_stands, times_stand}
use Rattle.order_reasons.proofs.WaitReasons.{first_waits}
use Rattle.order_reasons.proofs.ScheduleModel.{no_schedule as unsatisfiable}
use Rattle.order_reasons.proofs.SourceReasons.{last_writers_barred, lost_final, sources_barred}
use Rattle.order_clauses.specs.Numbered.{named}
use Rattle.order_clauses.specs.ReasonList.{named_pairs}
use Rattle.order_clauses.specs.declared.order_pair.OrderPair.{OrderPair}
use Rattle.reason_clauses.specs.Made.{IsCycleOf, IsLastOf}
use Rattle.reason_counting.proofs.CountLemmas.{too_few}
use Rattle.reason_text.specs.declared.reason_line.ReasonLine.{ReasonLine}
use Rattle.reason_text.specs.declared.reason_line.ReasonLine.TheVariants.{Skipped, Cycle, Before, Ended, Variable, Source, Last, TooFew, Counting, Waiting, Derivation}
use Rattle.reason_check.specs.Accepted.{IsAcceptedReasons, EndsEmpty, HasDerivation, NoneIsEmpty}
use Rattle.reason_check.specs.LineClauses.{IsClauseOfLine}
use Rattle.reason_check.proofs.LineLemmas.{Made, speaks}

-- steps that can be written add clauses
steps_of_clauses : (steps : List Step) → list_all is_lrat_step steps ≡ true → are_steps steps ≡ true
steps_of_clauses [] h = refl
steps_of_clauses (Addition id literals hints ∷ steps) h =
    let parts = and_parts (is_lrat_step (Addition id literals hints)) (list_all is_lrat_step steps) h in
    let step = and_parts (is_id id) _ parts.0 in
    and_from (is_clause literals) _ (and_parts (is_clause literals) (list_all is_id_number hints) step.1).0 (steps_of_clauses steps parts.1)
steps_of_clauses (Deletion first ids ∷ steps) h = steps_of_clauses steps (and_parts (is_lrat_step (Deletion first ids)) (list_all is_lrat_step steps) h).1

module _ (t : TraceValue) (ok : IsTrace t) where
  cycle_turned : (names : List OpName) (clause : List (OpName × OpName)) → IsCycleOf t names clause → HoldsOfSchedules t clause
  cycle_turned [] clause h = absurd h
  cycle_turned (first ∷ rest) clause h = λ schedule legal. cycle_holds t schedule legal.interleaving clause first rest h

  last_barred : (location : List ℕ) (clause : List (OpName × OpName)) → IsLastOf t location clause → HoldsOfSchedules t clause
  last_barred location clause (inl bars) schedule legal =
      elim (last_writers_barred t schedule legal clause location (λ s. ⊥) bars) [
        | inl holds ↦ holds
        | inr at ↦ absurd (at.2)
      ]
  last_barred location clause (inr lost) schedule legal = absurd (lost_final t schedule legal [] location lost)

  source_barred : (r : OpName) (clause : List (OpName × OpName)) → IsSourceClause t clause r → HoldsOfSchedules t clause
  source_barred r clause h schedule legal =
      elim (sources_barred t schedule legal clause r (λ s. ⊥) h) [
        | inl holds ↦ holds
        | inr at ↦ absurd (at.1)
      ]

  -- the clause of a line holds in each legal schedule
  clause_holds : (line : ReasonLine) (clause : List (OpName × OpName)) → IsClauseOfLine t line clause → HoldsOfSchedules t clause
  clause_holds Skipped clause h = absurd h
  clause_holds (Cycle operations) clause h = cycle_turned (map (named t) operations.items) clause h
  clause_holds (Before pair) clause h = λ schedule legal. pair_stands t schedule legal.interleaving clause (named t pair.first) (named t pair.second) h
  clause_holds (Ended pair) clause h = λ schedule legal. times_stand t schedule legal.interleaving clause (named t pair.first) (named t pair.second) h
  clause_holds (Variable pair) clause h = absurd h
  clause_holds (Source reader pieces) clause h = source_barred (named t reader) clause h
  clause_holds (Last location pieces) clause h = last_barred location.now clause h
  clause_holds (TooFew location value) clause h = subst (λ (l : List (OpName × OpName)). HoldsOfSchedules t l) (sym h.0) (too_few t ok location.now value h.1)
  clause_holds (Counting parts) clause h = λ schedule legal. counted t schedule legal clause h.0 h.1 h.2
  clause_holds (Waiting parts) clause h = λ schedule legal. first_waits t schedule legal clause h.0 h.1
  clause_holds Derivation clause h = absurd h

  -- so does each clause of the lines
  each_holds : (variables : List OrderPair) (lines : List ReasonLine) (clauses : List (List ℤ)) → AllZip (Made t variables) lines clauses → (l : List ℤ) → Contains clauses l → HoldsOfSchedules t (orders_said (named_pairs t variables) l)
  each_holds variables [] [] h l c = absurd (none_in l c)
  each_holds variables [] (x ∷ xs) h l c = absurd h
  each_holds variables (y ∷ ys) [] h l c = absurd h
  each_holds variables (y ∷ ys) (x ∷ xs) h l c =
      elim (cases_in x xs l c) [
        | inl e ↦ subst (λ (k : List ℤ). HoldsOfSchedules t (orders_said (named_pairs t variables) k)) e (clause_holds y (orders_said (named_pairs t variables) x) h.0)
        | inr d ↦ each_holds variables ys xs h.1 l d
      ]

module _ (t : TraceValue) (text : List ℕ) (count : ℕ) (ok : IsTrace t) (accepted : IsAcceptedReasons t text count) where
  holds : (l : List ℤ) → Contains accepted.clauses l → HoldsOfSchedules t (orders_said (named_pairs t accepted.variables) l)
  holds = each_holds t ok accepted.variables (filter (speaks t) accepted.lines) accepted.clauses accepted.made

  refuted : EndsEmpty accepted.clauses ⊎ (NoneIsEmpty accepted.clauses × HasDerivation accepted.clauses accepted.rest) → HasNoSchedule t
  refuted (inl (others, e, _)) = λ schedule legal. (
      let at = holds [] (subst (λ (l : List (List ℤ)). Contains l []) (sym e) (in_middle others [] [])) schedule legal in
      none_in (at.0, at.1) at.2)
  refuted (inr (_, d)) =
      let none : HasNoModelIn accepted.clauses [] = no_model accepted.clauses [] d.steps (formula_no_zero (length accepted.variables) accepted.clauses accepted.over) refl (steps_of_clauses d.steps d.derived.written) d.accepted in
      unsatisfiable t (named_pairs t accepted.variables) accepted.clauses (all_from (λ (l : List ℤ). HoldsOfSchedules t (orders_said (named_pairs t accepted.variables) l)) accepted.clauses holds) none

  pub no_schedule : HasNoSchedule t
  no_schedule = refuted accepted.refuted
