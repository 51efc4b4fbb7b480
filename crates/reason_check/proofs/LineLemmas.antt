-- What comes of a line keeps what the clauses of a list are.
use Rattle.std.proofs.Common.{◌≡◌, ℕ, ℤ, pos, negsuc, List, [], ◌∷◌, ◌++◌, Bool, true, false, refl, ap, sym, ◌∙◌, inl, inr, subst, length, append-nil}
use Rattle.std.specs.Prelude.{◌≢◌, ◌↔◌, not, Result, Ok, Err, OnOk, IfOk}
use Rattle.std.specs.List.{AllZip, Contains, filter, list_all}
use Rattle.std.proofs.lemmas.Bool.{and_parts, and_from, cond-true, cond-false}
use Rattle.std.proofs.lemmas.List.Elements.{filter-append}
use Rattle.std.proofs.lemmas.List.Folds.{list_all-append}
use Rattle.dimacs.specs.Literal.{is_literal_up_to, is_clause_up_to}
use Rattle.text_lines.specs.declared.plain_fault.PlainFault.{PlainFault}
use Rattle.trace_semantics.specs.declared.operation.OpName.{OpName}
use Rattle.trace_semantics.specs.Trace.{TraceValue}
use Rattle.trace_semantics.proofs.ElementLemmas.{all_pass, pass_all, from_map, to_map, head_in, none_in}
use Rattle.order_reasons.specs.Orders.{order_said, orders_said}
use Rattle.order_clauses.specs.Appended.{HasSameClauses, IsAppended}
use Rattle.order_clauses.specs.ClauseOf.{IsClauseOf}
use Rattle.order_clauses.specs.Numbered.{named_order}
use Rattle.order_clauses.specs.OrderVariables.{order_of, IsExtended}
use Rattle.order_clauses.specs.ReasonList.{named_pairs}
use Rattle.order_clauses.specs.declared.order_pair.OrderPair.{OrderPair}
use Rattle.order_clauses.specs.declared.reason_list.ReasonList.{ReasonList}
use Rattle.order_clauses.proofs.ClauseLemmas.{order_same, over_kept}
use Rattle.reason_clauses.specs.declared.cause.ReasonCause.{ReasonCause}
use Rattle.reason_clauses.specs.Made.{Makes}
use Rattle.reason_clauses.specs.Numbered.{AreIn}
use Rattle.reason_counting.specs.Counts.{AreTooFew}
use Rattle.reason_text.specs.ReasonLine.{IsReasonLine}
use Rattle.reason_text.specs.declared.reason_line.ReasonLine.{ReasonLine}
use Rattle.reason_text.specs.declared.reason_line.ReasonLine.TheVariants.{Skipped, Cycle, Before, Ended, Variable, Source, Last, TooFew, Counting, Waiting, Derivation as DerivationLine}
use Rattle.reason_check.specs.LineClauses.{IsClauseOfLine, MakeClauses, is_silent}
use Rattle.reason_check.specs.Reading.{IsReadAndTaken}
use Rattle.reason_check.specs.Taken.{AreMade, HasNext, IsPassed, IsTaken}
use Rattle.reason_check.specs.declared.line_clause.LineOutcome.{LineOutcome}
use Rattle.reason_check.specs.declared.line_clause.LineOutcome.TheVariants.{Refuted, Derivation}

abbrev pub ReasonRefusal : Type 0
ReasonRefusal = PlainFault ReasonCause

module _ {A B : Type 0} (R : A → B → Type 0) where
  -- two lists side by side, with one more
  pub zip_push : (xs : List A) (ys : List B) (x : A) (y : B) → AllZip R xs ys → R x y → AllZip R (xs ++ x ∷ []) (ys ++ y ∷ [])
  zip_push [] [] x y h k = (k, tt)
  zip_push [] (b ∷ ys) x y h k = absurd h
  zip_push (a ∷ xs) [] x y h k = absurd h
  zip_push (a ∷ xs) (b ∷ ys) x y h k = (h.0, zip_push xs ys x y h.1 k)

module _ {A : Type 0} (p : A → Bool) where
  -- one more that passes, and one that does not
  filter_next : (xs : List A) (x : A) → p x ≡ true → filter p (xs ++ x ∷ []) ≡ filter p xs ++ x ∷ []
  filter_next xs x h = filter-append p xs (x ∷ []) ∙ ap (λ l. filter p xs ++ l) (cond-true (p x) (x ∷ []) [] h)

  filter_passed : (xs : List A) (x : A) → p x ≡ false → filter p (xs ++ x ∷ []) ≡ filter p xs
  filter_passed xs x h = filter-append p xs (x ∷ []) ∙ ap (λ l. filter p xs ++ l) (cond-false (p x) (x ∷ []) [] h) ∙ append-nil (filter p xs)

module _ (t : TraceValue) where
  -- what a literal says, by names
  said_by_names : (pairs : List OrderPair) (z : ℤ) → order_said (named_pairs t pairs) z ≡ named_order t (order_of pairs z)
  said_by_names pairs (pos n) = refl
  said_by_names pairs (negsuc n) = refl

  -- literals of the old variables say the same
  same_said : (old new : List OrderPair) → IsExtended old new → (literals : List ℤ) → is_clause_up_to (length old) literals ≡ true → orders_said (named_pairs t new) literals ≡ orders_said (named_pairs t old) literals
  same_said old new more [] over = refl
  same_said old new more (z ∷ zs) over =
      let both = and_parts (is_literal_up_to (length old) z) (is_clause_up_to (length old) zs) over in
      let first : order_said (named_pairs t new) z ≡ order_said (named_pairs t old) z = said_by_names new z ∙ ap (named_order t) (order_same old new more z both.0) ∙ sym (said_by_names old z) in
      let others = same_said old new more zs both.1 in
      (λ i. first i ∷ others i)

  -- a clause that says the orders has them
  has_orders : (pairs orders : List OrderPair) (literals : List ℤ) → IsClauseOf pairs orders literals → AreIn t orders (orders_said (named_pairs t pairs) literals)
  has_orders pairs orders literals clause p c =
      let from = from_map (named_order t) orders p c in
      let literal = clause.says from.0 from.1 in
      subst (λ (q : OpName × OpName). Contains (orders_said (named_pairs t pairs) literals) q) (said_by_names pairs literal.0 ∙ ap (named_order t) literal.2 ∙ from.2) (to_map (order_said (named_pairs t pairs)) literals literal.0 literal.1)

  -- a clause that says no orders is empty, and an empty one says none
  no_literals : (pairs orders : List OrderPair) (literals : List ℤ) → IsClauseOf pairs orders literals → orders ≡ [] → literals ≡ []
  no_literals pairs orders [] h e = refl
  no_literals pairs orders (z ∷ zs) h e = absurd (none_in (order_of pairs z) (subst (λ (l : List OrderPair). Contains l (order_of pairs z)) e (h.only z (head_in z zs))))

  no_orders : (pairs orders : List OrderPair) (literals : List ℤ) → IsClauseOf pairs orders literals → literals ≡ [] → orders ≡ []
  no_orders pairs [] literals h e = refl
  no_orders pairs (order ∷ orders) literals h e =
      let said = h.says order (head_in order orders) in
      absurd (none_in said.0 (subst (λ (l : List ℤ). Contains l said.0) e said.1))

  -- what was made of the orders is appended
  pub next_of : (Is : List (OpName × OpName) → Type 0) (old new : ReasonList) (orders : List OrderPair) (outcome : LineOutcome) → Makes t orders Is → IsAppended old new orders → ((outcome ≡ Refuted) ↔ (orders ≡ [])) × (outcome ≡ Derivation → ⊥) → HasNext t Is old new outcome
  next_of Is old new orders outcome made h came = record {
    clause = h.clause;
    appended = h.appended;
    extended = h.extended;
    over = h.says.over;
    is = made (orders_said (named_pairs t new.variables) h.clause) (has_orders new.variables orders h.clause h.says);
    ended = (λ e. no_literals new.variables orders h.clause h.says (came.0.0 e), λ e. came.0.1 (no_orders new.variables orders h.clause h.says e));
    goes_on = came.1;
  }

  -- a clause of no orders is appended
  pub next_empty : (location : List ℕ) (value : ℕ) (old new : ReasonList) (orders : List OrderPair) (outcome : LineOutcome) → orders ≡ [] → AreTooFew t location value → IsAppended old new orders → ((outcome ≡ Refuted) ↔ (orders ≡ [])) × (outcome ≡ Derivation → ⊥) → HasNext t (λ clause. (clause ≡ []) × AreTooFew t location value) old new outcome
  next_empty location value old new orders outcome none few h came = record {
    clause = h.clause;
    appended = h.appended;
    extended = h.extended;
    over = h.says.over;
    is = (ap (orders_said (named_pairs t new.variables)) (no_literals new.variables orders h.clause h.says none), few);
    ended = (λ e. no_literals new.variables orders h.clause h.says none, λ e. came.0.1 none);
    goes_on = came.1;
  }

  module _ (Is : List (OpName × OpName) → Type 0) (old new : ReasonList) where
    -- the same of what may be refused
    pub next_if_made : (orders : List OrderPair) → Makes t orders Is → (result : Result LineOutcome ReasonRefusal) → OnOk result (IsAppended old new orders) → IfOk result (λ outcome. ((outcome ≡ Refuted) ↔ (orders ≡ [])) × (outcome ≢ Derivation)) → IfOk result (HasNext t Is old new)
    next_if_made orders made (Ok outcome) appended came = next_of Is old new orders outcome made appended came
    next_if_made orders made (Err refusal) appended came = tt

    -- a clause of this kind is one of the line
    pub taken_if_next : (line : ReasonLine) → ((clause : List (OpName × OpName)) → Is clause → IsClauseOfLine t line clause) → (result : Result LineOutcome ReasonRefusal) → IfOk result (HasNext t Is old new) → IfOk result (IsTaken t line old new)
    taken_if_next line kind (Ok outcome) next = inl (record { clause = next.clause; appended = next.appended; extended = next.extended; over = next.over; is = kind (orders_said (named_pairs t new.variables) next.clause) next.is; ended = next.ended; goes_on = next.goes_on })
    taken_if_next line kind (Err refusal) next = tt

  pub next_if_empty : (location : List ℕ) (value : ℕ) (old new : ReasonList) (orders : List OrderPair) → orders ≡ [] → AreTooFew t location value → (result : Result LineOutcome ReasonRefusal) → OnOk result (IsAppended old new orders) → IfOk result (λ outcome. ((outcome ≡ Refuted) ↔ (orders ≡ [])) × (outcome ≢ Derivation)) → IfOk result (HasNext t (λ clause. (clause ≡ []) × AreTooFew t location value) old new)
  next_if_empty location value old new orders none few (Ok outcome) appended came = next_empty location value old new orders outcome none few appended came
  next_if_empty location value old new orders none few (Err refusal) appended came = tt

  -- a pair got a number
  pub taken_if_passed : (line : ReasonLine) (old new : ReasonList) → is_silent line ≡ true → (result : Result LineOutcome ReasonRefusal) → IfOk result (IsPassed old new) → IfOk result (IsTaken t line old new)
  taken_if_passed line old new silent (Ok outcome) passed = inr (inl (silent, passed))
  taken_if_passed line old new silent (Err refusal) passed = tt

  -- the line was read
  pub read_if_taken : (words : List (List ℕ)) (line : ReasonLine) (old new : ReasonList) → IsReasonLine t words line → (result : Result LineOutcome ReasonRefusal) → IfOk result (IsTaken t line old new) → IfOk result (IsReadAndTaken t words old new)
  read_if_taken words line old new is (Ok outcome) taken = record { line = line; read = is; taken = taken }
  read_if_taken words line old new is (Err refusal) taken = tt

  abbrev pub Made : List OrderPair → ReasonLine → List ℤ → Type 0
  Made variables line literals = IsClauseOfLine t line (orders_said (named_pairs t variables) literals)

  abbrev pub speaks : ReasonLine → Bool
  speaks line = not (is_silent line)

  -- a line that makes a clause is not silent
  clause_speaks : (line : ReasonLine) (clause : List (OpName × OpName)) → IsClauseOfLine t line clause → speaks line ≡ true
  clause_speaks Skipped clause h = absurd h
  clause_speaks (Cycle operations) clause h = refl
  clause_speaks (Before pair) clause h = refl
  clause_speaks (Ended pair) clause h = refl
  clause_speaks (Variable pair) clause h = absurd h
  clause_speaks (Source reader pieces) clause h = refl
  clause_speaks (Last location pieces) clause h = refl
  clause_speaks (TooFew location value) clause h = refl
  clause_speaks (Counting parts) clause h = refl
  clause_speaks (Waiting parts) clause h = refl
  clause_speaks DerivationLine clause h = absurd h

  -- clauses over more variables are made by the same lines
  kept_made : (old new : List OrderPair) → IsExtended old new → (lines : List ReasonLine) (clauses : List (List ℤ)) → list_all (is_clause_up_to (length old)) clauses ≡ true → AllZip (Made old) lines clauses → AllZip (Made new) lines clauses
  kept_made old new more [] [] over h = h
  kept_made old new more [] (c ∷ cs) over h = absurd h
  kept_made old new more (l ∷ ls) [] over h = absurd h
  kept_made old new more (l ∷ ls) (c ∷ cs) over h =
      let both = and_parts (is_clause_up_to (length old) c) (list_all (is_clause_up_to (length old)) cs) over in
      (subst (λ (said : List (OpName × OpName)). IsClauseOfLine t l said) (sym (same_said old new more c both.0)) h.0, kept_made old new more ls cs both.1 h.1)

  kept_over : (old new : List OrderPair) → IsExtended old new → (clauses : List (List ℤ)) → list_all (is_clause_up_to (length old)) clauses ≡ true → list_all (is_clause_up_to (length new)) clauses ≡ true
  kept_over old new more clauses over = pass_all (is_clause_up_to (length new)) clauses (λ l c. over_kept old new more l (all_pass (is_clause_up_to (length old)) clauses over l c))

  -- a line that makes a clause
  pub made_next : (lines : List ReasonLine) (line : ReasonLine) (old new : ReasonList) (outcome : LineOutcome) → AreMade t lines old → HasNext t (IsClauseOfLine t line) old new outcome → AreMade t (lines ++ line ∷ []) new
  made_next lines line old new outcome h next = record {
    over = subst (λ (l : List (List ℤ)). list_all (is_clause_up_to (length new.variables)) l ≡ true) (sym next.appended)
        (list_all-append (is_clause_up_to (length new.variables)) old.clauses.items (next.clause ∷ []) ∙ and_from _ _ (kept_over old.variables new.variables next.extended old.clauses.items h.over) (and_from _ true next.over refl));
    made = subst (λ (ls : List ReasonLine). AllZip (Made new.variables) ls new.clauses.items) (sym (filter_next speaks lines line (clause_speaks line (orders_said (named_pairs t new.variables) next.clause) next.is)))
        (subst (λ (l : List (List ℤ)). AllZip (Made new.variables) (filter speaks lines ++ line ∷ []) l) (sym next.appended)
        (zip_push (Made new.variables) (filter speaks lines) old.clauses.items line next.clause (kept_made old.variables new.variables next.extended (filter speaks lines) old.clauses.items h.over h.made) next.is));
  }

  -- a silent line
  pub made_passed : (lines : List ReasonLine) (line : ReasonLine) (old new : ReasonList) → AreMade t lines old → is_silent line ≡ true → HasSameClauses old new → AreMade t (lines ++ line ∷ []) new
  made_passed lines line old new h silent same = record {
    over = subst (λ (l : List (List ℤ)). list_all (is_clause_up_to (length new.variables)) l ≡ true) (sym same.same) (kept_over old.variables new.variables same.extended old.clauses.items h.over);
    made = subst (λ (ls : List ReasonLine). AllZip (Made new.variables) ls new.clauses.items) (sym (filter_passed speaks lines line (ap not silent)))
        (subst (λ (l : List (List ℤ)). AllZip (Made new.variables) (filter speaks lines) l) (sym same.same)
        (kept_made old.variables new.variables same.extended (filter speaks lines) old.clauses.items h.over h.made));
  }

-- the same list
pub same_clauses : (list : ReasonList) → HasSameClauses list list
same_clauses list = record { same = refl; extended = ([], sym (append-nil list.variables)) }

-- no lines make no clauses
pub made_none : (t : TraceValue) (list : ReasonList) → list.clauses.items ≡ [] → AreMade t [] list
made_none t list none = record {
  over = subst (λ (l : List (List ℤ)). list_all (is_clause_up_to (length list.variables)) l ≡ true) (sym none) refl;
  made = subst (λ (l : List (List ℤ)). MakeClauses t list.variables [] l) (sym none) tt;
}
