use Rattle.std.proofs.Common.{◌++◌, ◌∷◌, [], ap, sym, ◌∙◌, append-nil, append_assoc, true, false, arith, rules, ◌<◌, ◌≡◌, ℕ, zero, suc, ◌+◌, ◌≤◌, List, Bool, not, refl}
use Rattle.std.specs.Prelude.{◌≢◌, ◌&&◌, ◌||◌, ◌==◌, if◌then◌else◌, Option, Some, None, is_some}
use Rattle.std.specs.List.{filter, list_any, range_with_len}
use Rattle.std.specs.Option.{option_and_then, option_map_or}
use Rattle.std.specs.Str.{bytes_eq}
use Rattle.std.proofs.Math.Bool.{and-true}
use Rattle.std.proofs.lemmas.Bool.{eq-eqb}
use Rattle.std.proofs.lemmas.Bool.Decides.{nat_tests}
use Rattle.std.proofs.lemmas.Map.Views.{any-filter_same}
use Rattle.trace_semantics.specs.Trace.{operation_count, TraceValue, operation_at}
use Rattle.trace_semantics.specs.declared.operation.Op.{Op}
use Rattle.trace_semantics.specs.declared.operation.OpName.{OpName}
use Rattle.trace_semantics.specs.Operation.{location_of, written_value}
use Rattle.trace_semantics.specs.ValueAfter.{value_left_at}
use Rattle.trace_semantics.proofs.NameLemmas.{bytes_turned}
use Rattle.restriction.specs.Restriction.{left_by}
use Rattle.var_layout.specs.OrderVariables.{order_var}
use Rattle.var_layout.specs.Split.{splits_among, are_in_conflict, is_split}
use Rattle.var_layout.specs.Numbers.{in_one_process, name_at, left_at, op_at, others, other_writers, writers}
use Rattle.var_layout.proofs.SplitLemmas.{one_more_split, pairs_below}
use Rattle.var_layout.proofs.split_variables.push_splits.Goals as goal
use Rattle.var_layout.proofs.split_variables.push_splits.Goals.{then-is_split+in_ok-push, else-is_split}

-- Two operations are in conflict if and only if one of them is among the writers of the other's location.

same_number : (w j : ℕ) → (w == j) ≡ true → w ≡ j
same_number w j h = grind (arith, nat_tests)

-- a number is among those of a range
in_range : (a l j : ℕ) → a ≤ j → j < a + l → list_any (λ w. w == j) (range_with_len a l) ≡ true
in_range a zero j low high = absurd (omega (arith, low, high))
in_range a (suc l) j low high = here (a == j) refl (λ apart. in_range (a + 1) l j (omega (arith, low, apart)) (omega (arith, high)))
  where
    here : (b : Bool) → (a == j) ≡ b → (a ≢ j → list_any (λ w. w == j) (range_with_len (a + 1) l) ≡ true) → (b || list_any (λ w. w == j) (range_with_len (a + 1) l)) ≡ true
    here true e behind = refl
    here false e behind = behind (λ same. (let clash : true ≡ false = sym (eq-eqb a j same) ∙ e in absurd (cc)))

left_is : (t : TraceValue) (location : List ℕ) (j : ℕ) → left_at t location j ≡ option_and_then (left_by location) (op_at t j)
left_is t location j = at (name_at t j)
  where
    under : (o : Option Op) → option_and_then (λ op. if bytes_eq (location_of op) location then written_value op else None) o ≡ option_and_then (left_by location) o
    under None = refl
    under (Some op) = refl

    at : (n : Option OpName) → option_and_then (value_left_at t location) n ≡ option_and_then (left_by location) (option_and_then (operation_at t) n)
    at None = refl
    at (Some n) = under (operation_at t n)

-- whether an operation is among the others of a list that keeps those that pass
among_others : (p : ℕ → Bool) (n i j : ℕ) → i ≢ j → j < n → list_any (λ w. w == j) (others i (filter p (range_with_len 0 n))) ≡ p j
among_others p n i j apart within =
    any-filter_same (λ w. w == j) (λ w. not (w == i)) true (λ w e. other w (same_number w j e)) (filter p (range_with_len 0 n))
    ∙ any-filter_same (λ w. w == j) p (p j) (λ w e. ap p (same_number w j e)) (range_with_len 0 n)
    ∙ ap (λ b. p j && b) (in_range 0 n j (omega arith) (omega (arith, within)))
    ∙ and-true (p j)
  where
    other : (w : ℕ) → w ≡ j → not (w == i) ≡ true
    other w e = let far : w ≢ i = λ f. apart (sym f ∙ e) in grind (arith, nat_tests)

written_by : (t : TraceValue) (i j : ℕ) → i ≢ j → j < operation_count t → (first : Option Op) → op_at t i ≡ first →
    list_any (λ w. w == j) (other_writers t i) ≡ option_map_or (λ (op : Op). is_some (option_and_then (left_by (location_of op)) (op_at t j))) first false
written_by t i j apart within None e = ap (λ o. list_any (λ w. w == j) (option_map_or (λ (op : Op). others i (writers t (location_of op))) o [])) e
written_by t i j apart within (Some op) e =
    ap (λ o. list_any (λ w. w == j) (option_map_or (λ (op : Op). others i (writers t (location_of op))) o [])) e
    ∙ among_others (λ k. is_some (left_at t (location_of op) k)) (operation_count t) i j apart within
    ∙ ap is_some (left_is t (location_of op) j)

conflict_of : (first second : Option Op) →
    are_in_conflict first second ≡ (option_map_or (λ (op : Op). is_some (option_and_then (left_by (location_of op)) second)) first false || option_map_or (λ (op : Op). is_some (option_and_then (left_by (location_of op)) first)) second false)
conflict_of None None = refl
conflict_of None (Some second) = refl
conflict_of (Some first) None = refl
conflict_of (Some first) (Some second) =
    chosen (bytes_eq (location_of first) (location_of second)) (bytes_eq (location_of second) (location_of first)) (bytes_turned (location_of first) (location_of second)) (written_value first) (written_value second)
  where
    chosen : (a b : Bool) → a ≡ b → (x y : Option ℕ) → (a && (is_some x || is_some y)) ≡ (is_some (if b then y else None) || is_some (if a then x else None))
    chosen true true e None None = refl
    chosen true true e None (Some y) = refl
    chosen true true e (Some x) None = refl
    chosen true true e (Some x) (Some y) = refl
    chosen false false e x y = refl
    chosen true false e x y = absurd (cc)
    chosen false true e x y = absurd (cc)

conflict_by_writers : (t : TraceValue) (i j : ℕ) → i ≢ j → i < operation_count t → j < operation_count t →
    are_in_conflict (op_at t i) (op_at t j) ≡ (list_any (λ w. w == j) (other_writers t i) || list_any (λ w. w == i) (other_writers t j))
conflict_by_writers t i j apart first second =
    conflict_of (op_at t i) (op_at t j)
    ∙ λ p. sym (written_by t i j apart second (op_at t i) refl) p || sym (written_by t j i (λ e. apart (sym e)) first (op_at t j) refl) p

split_by_writers : (t : TraceValue) (i j : ℕ) → i ≢ j → i < operation_count t → j < operation_count t →
    is_split t (i, j) ≡ (not (in_one_process t i j) && (list_any (λ w. w == j) (other_writers t i) || list_any (λ w. w == i) (other_writers t j)))
split_by_writers t i j apart first second = ap (λ b. not (in_one_process t i j) && b) (conflict_by_writers t i j apart first second)

pub loop-j-preserved : goal.loop-j-preserved
loop-j-preserved c =
    let t = c.args.layout.now in
    let here : c.loop-j.j < operation_count t = search rules in
    let by_writers = split_by_writers t c.args.i c.loop-j.j (omega (arith, c.loop-j.auto.j)) c.requires here in
    elim c.if-is_split.branch [
      | then-is_split+in_ok-push w ↦ (
          let variable = w.order_var.ensures.variable ∙ ap (λ n. order_var n c.args.i c.loop-j.j) c.operations-count.ensures in
          ap (λ v. v.items) w.variables-is ∙ w.in_ok-push.ensures.items ∙ (λ i. c.loop-j.invariant i ++ variable i ∷ [])
          ∙ append_assoc c.args.variables.now.items (splits_among t (pairs_below c.args.i c.loop-j.j)) _
          ∙ ap (λ l. c.args.variables.now.items ++ l) (sym (one_more_split t c.args.i c.loop-j.j true c.loop-j.auto.j (by_writers ∙ sym c.is_split.ensures ∙ w.if-is_split.true))))
      | else-is_split w ↦ (
          ap (λ v. v.items) w.variables-is ∙ c.loop-j.invariant
          ∙ ap (λ l. c.args.variables.now.items ++ l) (sym (append-nil _)
          ∙ sym (one_more_split t c.args.i c.loop-j.j false c.loop-j.auto.j (by_writers ∙ sym c.is_split.ensures ∙ w.if-is_split.false))))
    ]
