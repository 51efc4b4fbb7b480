-- A legal schedule is a model of clauses that hold in each legal schedule: a variable is true where its pair stands in order.
use Rattle.std.proofs.Common.{◌≡◌, ℕ, suc, ℤ, pos, negsuc, List, [], ◌∷◌, Bool, true, false, ◌&&◌, ◌||◌, refl, sym, inl, inr, subst}
use Rattle.std.specs.List.{Contains}
use Rattle.std.proofs.lemmas.Bool.{and_parts, and_from, or_left, or_right, not_from_false, false_from_ne_true}
use Rattle.std.proofs.lemmas.List.Elements.{All-contains}
use Rattle.dimacs.specs.Assignment.{makes_true, makes_some}
use Rattle.dimacs.specs.Models.{HasNoModelIn}
use Rattle.trace_semantics.specs.declared.operation.OpName.{OpName}
use Rattle.trace_semantics.specs.Interleaving.{StandsBefore}
use Rattle.trace_semantics.specs.Judgement.{has_come}
use Rattle.trace_semantics.specs.Legal.{IsLegal}
use Rattle.trace_semantics.specs.Operation.{same_op}
use Rattle.trace_semantics.specs.Trace.{TraceValue}
use Rattle.trace_semantics.proofs.ElementLemmas.{from_map, some_passes, passes_some, pass_all}
use Rattle.trace_semantics.proofs.NameLemmas.{same_name, name_same}
use Rattle.restriction.proofs.StandLemmas.{none_stands, stands_here, stands_there, stands_cases, never_both}
use Rattle.order_reasons.specs.Orders.{HoldsIn, HoldsOfSchedules, order_said, orders_said, AreReasons}

-- whether m stands before n
abbrev comes_before : List OpName → OpName → OpName → Bool
comes_before [] m n = false
comes_before (x ∷ xs) m n = (same_op x m && has_come xs n) || comes_before xs m n

before_comes : (names : List OpName) (m n : OpName) → StandsBefore names m n → comes_before names m n ≡ true
before_comes [] m n s = absurd (none_stands m n s)
before_comes (x ∷ xs) m n s =
    elim (stands_cases x xs m n s) [
      | inl here ↦ or_left (same_op x m && has_come xs n) (comes_before xs m n) (and_from (same_op x m) (has_come xs n) (name_same x m here.0) (passes_some (same_op n) xs n here.1 (name_same n n refl)))
      | inr there ↦ or_right (same_op x m && has_come xs n) (comes_before xs m n) (before_comes xs m n there)
    ]

so_at : (x : OpName) (xs : List OpName) (m n : OpName) (b : Bool) → (same_op x m && has_come xs n) ≡ b → (comes_before xs m n ≡ true → StandsBefore xs m n) → (b || comes_before xs m n) ≡ true → StandsBefore (x ∷ xs) m n
so_at x xs m n true e more k =
    let parts = and_parts (same_op x m) (has_come xs n) e in
    let found = some_passes (same_op n) xs parts.1 in
    subst (λ y. StandsBefore (x ∷ xs) y n) (same_name x m parts.0) (stands_here x xs n (subst (λ y. Contains xs y) (sym (same_name n found.0 found.2)) found.1))
so_at x xs m n false e more k = stands_there x xs m n (more k)

comes_so : (names : List OpName) (m n : OpName) → comes_before names m n ≡ true → StandsBefore names m n
comes_so [] m n h = absurd (cc)
comes_so (x ∷ xs) m n h = so_at x xs m n (same_op x m && has_come xs n) refl (comes_so xs m n) h

-- the truth values that a list of names gives
abbrev values_of : (ℕ → OpName × OpName) → List OpName → ℕ → Bool
values_of pairs names n = comes_before names (pairs n).0 (pairs n).1

module _ (pairs : ℕ → OpName × OpName) (names : List OpName) (once : (n : OpName) → StandsBefore names n n → ⊥) where
  literal_true : (z : ℤ) → StandsBefore names (order_said pairs z).0 (order_said pairs z).1 → makes_true (values_of pairs names) z ≡ true
  literal_true (pos n) s = before_comes names (pairs n).0 (pairs n).1 s
  literal_true (negsuc n) s =
      not_from_false (values_of pairs names (suc n)) (false_from_ne_true (values_of pairs names (suc n)) (λ h. never_both names once (pairs (suc n)).1 (pairs (suc n)).0 s (comes_so names (pairs (suc n)).0 (pairs (suc n)).1 h)))

  clause_true : (literals : List ℤ) → HoldsIn names (orders_said pairs literals) → makes_some (values_of pairs names) literals ≡ true
  clause_true literals (m, n, c, s) =
      let at = from_map (order_said pairs) literals (m, n) c in
      passes_some (makes_true (values_of pairs names)) literals at.0 at.1
      (literal_true at.0 (subst (λ (p : OpName × OpName). StandsBefore names p.0 p.1) (sym at.2) s))

pub no_schedule : (t : TraceValue) (pairs : ℕ → OpName × OpName) (clauses : List (List ℤ)) → AreReasons t pairs clauses → HasNoModelIn clauses [] → (names : List OpName) → IsLegal t names → ⊥
no_schedule t pairs clauses holds none names legal =
    none (values_of pairs names)
    (pass_all (makes_some (values_of pairs names)) clauses (λ literals c. clause_true pairs names legal.interleaving.once literals (All-contains (λ (l : List ℤ). HoldsOfSchedules t (orders_said pairs l)) clauses literals holds c names legal)))
    refl
