-- One clause more that holds in each legal schedule.
use Rattle.std.proofs.Common.{◌≡◌, ℤ, pos, negsuc, List, [], ◌∷◌, ◌++◌, length, true, refl, ap, sym, ◌∙◌, inl, inr, subst}
use Rattle.std.specs.List.{Contains}
use Rattle.std.proofs.lemmas.List.Elements.{All-contains, All-push, Contains-push_cases}
use Rattle.dimacs.specs.Literal.{is_literal_up_to, is_clause_up_to}
use Rattle.trace_semantics.specs.declared.operation.OpName.{OpName}
use Rattle.trace_semantics.specs.Trace.{TraceValue}
use Rattle.trace_semantics.proofs.ElementLemmas.{all_pass, pass_all, from_map, to_map, none_in}
use Rattle.restriction.proofs.OrderedPairLemmas.{all_from}
use Rattle.order_reasons.specs.Orders.{HoldsOfSchedules, order_said, orders_said}
use Rattle.order_clauses.specs.declared.order_pair.OrderPair.{OrderPair}
use Rattle.order_clauses.specs.ClauseOf.{IsClauseOf}
use Rattle.order_clauses.specs.Numbered.{named_order, named_orders}
use Rattle.order_clauses.specs.OrderVariables.{order_of, IsExtended}
use Rattle.order_clauses.specs.ReasonList.{named_pairs, HoldReasons}
use Rattle.order_clauses.proofs.ClauseLemmas.{order_same, over_kept}

module _ (t : TraceValue) where
  -- what a literal says, by names
  said_by_names : (pairs : List OrderPair) (z : ℤ) → order_said (named_pairs t pairs) z ≡ named_order t (order_of pairs z)
  said_by_names pairs (pos n) = refl
  said_by_names pairs (negsuc n) = refl

  -- literals of the old variables say the same
  kept_said : (old new : List OrderPair) → IsExtended old new → (literals : List ℤ) → is_clause_up_to (length old) literals ≡ true → HoldsOfSchedules t (orders_said (named_pairs t old) literals) → HoldsOfSchedules t (orders_said (named_pairs t new) literals)
  kept_said old new more literals over holds names legal =
      let at = holds names legal in
      let from = from_map (order_said (named_pairs t old)) literals (at.0, at.1) at.2 in
      let same = said_by_names new from.0 ∙ ap (named_order t) (order_same old new more from.0 (all_pass (is_literal_up_to (length old)) literals over from.0 from.1)) ∙ sym (said_by_names old from.0) ∙ from.2 in
      (at.0, at.1, subst (λ (p : OpName × OpName). Contains (orders_said (named_pairs t new) literals) p) same (to_map (order_said (named_pairs t new)) literals from.0 from.1), at.3)

  -- a clause that says the orders holds, if one of them stands
  said_holds : (pairs orders : List OrderPair) (literals : List ℤ) → IsClauseOf pairs orders literals → HoldsOfSchedules t (named_orders t orders) → HoldsOfSchedules t (orders_said (named_pairs t pairs) literals)
  said_holds pairs orders literals clause holds names legal =
      let at = holds names legal in
      let from = from_map (named_order t) orders (at.0, at.1) at.2 in
      let literal = clause.says from.0 from.1 in
      let same = said_by_names pairs literal.0 ∙ ap (named_order t) literal.2 ∙ from.2 in
      (at.0, at.1, subst (λ (p : OpName × OpName). Contains (orders_said (named_pairs t pairs) literals) p) same (to_map (order_said (named_pairs t pairs)) literals literal.0 literal.1), at.3)

  pub reasons_none : (pairs : List OrderPair) → HoldReasons t pairs []
  reasons_none pairs = record { over = refl; reasons = all_from (λ (l : List ℤ). HoldsOfSchedules t (orders_said (named_pairs t pairs) l)) [] (λ l c. absurd (none_in l c)) }

  -- the clauses over more variables
  pub reasons_kept : (old new : List OrderPair) (clauses : List (List ℤ)) → IsExtended old new → HoldReasons t old clauses → HoldReasons t new clauses
  reasons_kept old new clauses more h = record {
    over = pass_all (is_clause_up_to (length new)) clauses (λ l c. over_kept old new more l (all_pass (is_clause_up_to (length old)) clauses h.over l c));
    reasons = all_from (λ (l : List ℤ). HoldsOfSchedules t (orders_said (named_pairs t new) l)) clauses (λ l c. kept_said old new more l (all_pass (is_clause_up_to (length old)) clauses h.over l c) (All-contains (λ (l : List ℤ). HoldsOfSchedules t (orders_said (named_pairs t old) l)) clauses l h.reasons c));
  }

  -- one clause more
  pub reasons_more : (old new : List OrderPair) (clauses : List (List ℤ)) (orders : List OrderPair) (clause : List ℤ) → IsExtended old new → IsClauseOf new orders clause → HoldsOfSchedules t (named_orders t orders) → HoldReasons t old clauses → HoldReasons t new (clauses ++ clause ∷ [])
  reasons_more old new clauses orders clause more is holds h =
      let kept = reasons_kept old new clauses more h in
      record {
        over = pass_all (is_clause_up_to (length new)) (clauses ++ clause ∷ []) (λ l c. elim (Contains-push_cases clauses clause l c) [
          | inl d ↦ all_pass (is_clause_up_to (length new)) clauses kept.over l d
          | inr e ↦ subst (λ x. is_clause_up_to (length new) x ≡ true) e is.over
        ]);
        reasons = All-push (λ (l : List ℤ). HoldsOfSchedules t (orders_said (named_pairs t new) l)) clauses clause kept.reasons (said_holds new orders clause is holds);
      }
