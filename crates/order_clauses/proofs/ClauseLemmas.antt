-- Clauses that say orders, one order more.
use Rattle.std.proofs.Common.{◌≡◌, ◌≤◌, ◌⊎◌, ◌-◌, ℕ, zero, suc, ℤ, pos, negsuc, List, [], ◌∷◌, ◌++◌, length, get_or, true, refl, ap, sym, ◌∙◌, arith, inl, inr, subst}
use Rattle.std.specs.Prelude.{nat_abs, neg_ℤ}
use Rattle.std.specs.List.{Contains}
use Rattle.std.proofs.lemmas.List.{get_or_append_left, length-append}
use Rattle.std.proofs.lemmas.List.Elements.{Contains-append_left, Contains-push, Contains-push_cases}
use Rattle.dimacs.specs.Literal.{is_literal_up_to, is_clause_up_to}
use Rattle.trace_semantics.proofs.ElementLemmas.{all_pass, pass_all, none_in}
use Rattle.order_clauses.specs.declared.order_pair.OrderPair.{OrderPair}
use Rattle.order_clauses.specs.ClauseOf.{IsClauseOf, IsPut}
use Rattle.order_clauses.specs.Literals.{SaysOrder}
use Rattle.order_clauses.specs.OrderVariables.{nowhere, pair_of, order_of, IsExtended}
use Rattle.order_clauses.specs.Turned.{turned}

abbrev nothing : OrderPair
nothing = record { first = nowhere; second = nowhere }

-- a literal of some variables is one of more
over_more : (a b : ℕ) (z : ℤ) → a ≤ b → is_literal_up_to a z ≡ true → is_literal_up_to b z ≡ true
over_more a b z low h = grind arith

literal_least : (a : ℕ) (z : ℤ) → is_literal_up_to a z ≡ true → (1 ≤ nat_abs z) × (nat_abs z ≤ a)
literal_least a z h = grind arith

longer : (old new : List OrderPair) → IsExtended old new → length old ≤ length new
longer old new (more, e) = let long = ap length e ∙ length-append old more in omega (arith, long)

-- a variable of the old pairs has the same pair among the new
pair_same : (old new : List OrderPair) → IsExtended old new → (n : ℕ) → 1 ≤ n → n ≤ length old → pair_of new n ≡ pair_of old n
pair_same old new (more, e) n least most = ap (λ l. get_or l (n - 1) nothing) e ∙ get_or_append_left old more nothing (n - 1) (omega (arith, least, most))

pub order_same : (old new : List OrderPair) → IsExtended old new → (z : ℤ) → is_literal_up_to (length old) z ≡ true → order_of new z ≡ order_of old z
order_same old new more (pos n) h = pair_same old new more n (literal_least (length old) (pos n) h).0 (literal_least (length old) (pos n) h).1
order_same old new more (negsuc n) h = ap turned (pair_same old new more (suc n) (literal_least (length old) (negsuc n) h).0 (literal_least (length old) (negsuc n) h).1)

pub over_kept : (old new : List OrderPair) → IsExtended old new → (literals : List ℤ) → is_clause_up_to (length old) literals ≡ true → is_clause_up_to (length new) literals ≡ true
over_kept old new more literals h = pass_all (is_literal_up_to (length new)) literals (λ z c. over_more (length old) (length new) z (longer old new more) (all_pass (is_literal_up_to (length old)) literals h z c))

pub clause_none : (pairs : List OrderPair) → IsClauseOf pairs [] []
clause_none pairs = record { over = refl; says = λ order c. absurd (none_in order c); only = λ z c. absurd (none_in z c) }

-- the same literals over more variables
clause_kept : (old new orders : List OrderPair) (literals : List ℤ) → IsExtended old new → IsClauseOf old orders literals → IsClauseOf new orders literals
clause_kept old new orders literals more h = record {
  over = over_kept old new more literals h.over;
  says = λ order c. (let at = h.says order c in (at.0, at.1, order_same old new more at.0 (all_pass (is_literal_up_to (length old)) literals h.over at.0 at.1) ∙ at.2));
  only = λ z c. subst (λ o. Contains orders o) (sym (order_same old new more z (all_pass (is_literal_up_to (length old)) literals h.over z c))) (h.only z c);
}

-- a literal says one more order
pub clause_next : (old new orders : List OrderPair) (literals after : List ℤ) (order : OrderPair) (z : ℤ) → IsExtended old new → SaysOrder new z order → IsPut literals after z → IsClauseOf old orders literals → IsClauseOf new (orders ++ order ∷ []) after
clause_next old new orders literals after order z more said put h = record { over = over put; says = λ o c. says put o (Contains-push_cases orders order o c); only = λ y c. only y (back put y c) }
  where
    so : IsClauseOf new orders literals
    so = clause_kept old new orders literals more h

    over : IsPut literals after z → is_clause_up_to (length new) after ≡ true
    over (inl (same, c)) = subst (λ l. is_clause_up_to (length new) l ≡ true) (sym same) so.over
    over (inr longer_by) = subst (λ l. is_clause_up_to (length new) l ≡ true) (sym longer_by)
        (pass_all (is_literal_up_to (length new)) (literals ++ z ∷ []) (λ y c. elim (Contains-push_cases literals z y c) [
          | inl d ↦ all_pass (is_literal_up_to (length new)) literals so.over y d
          | inr e ↦ subst (λ x. is_literal_up_to (length new) x ≡ true) e said.over
        ]))

    kept : IsPut literals after z → (y : ℤ) → Contains literals y → Contains after y
    kept (inl (same, c)) y d = subst (λ l. Contains l y) (sym same) d
    kept (inr longer_by) y d = subst (λ l. Contains l y) (sym longer_by) (Contains-append_left literals (z ∷ []) y d)

    there : IsPut literals after z → Contains after z
    there (inl (same, c)) = subst (λ l. Contains l z) (sym same) c
    there (inr longer_by) = subst (λ l. Contains l z) (sym longer_by) (Contains-push literals z)

    says : IsPut literals after z → (o : OrderPair) → Contains orders o ⊎ (order ≡ o) → (y : ℤ) × Contains after y × (order_of new y ≡ o)
    says p o (inl c) = (let at = so.says o c in (at.0, kept p at.0 at.1, at.2))
    says p o (inr e) = (z, there p, said.says ∙ e)

    -- a literal of the new ones is an old one or the one that was put
    back : IsPut literals after z → (y : ℤ) → Contains after y → Contains literals y ⊎ (z ≡ y)
    back (inl (same, there_before)) y c = inl (subst (λ l. Contains l y) same c)
    back (inr longer_by) y c = Contains-push_cases literals z y (subst (λ l. Contains l y) longer_by c)

    only : (y : ℤ) → Contains literals y ⊎ (z ≡ y) → Contains (orders ++ order ∷ []) (order_of new y)
    only y (inl d) = Contains-append_left orders (order ∷ []) (order_of new y) (so.only y d)
    only y (inr e) = subst (λ x. Contains (orders ++ order ∷ []) (order_of new x)) e (subst (λ o. Contains (orders ++ order ∷ []) o) (sym said.says) (Contains-push orders order))

turned_literal : (pairs : List OrderPair) (n : ℕ) (z : ℤ) → is_literal_up_to n z ≡ true → order_of pairs (neg_ℤ z) ≡ turned (order_of pairs z)
turned_literal pairs n (pos zero) h = absurd (let least = (literal_least n (pos zero) h).0 in omega (arith, least))
turned_literal pairs n (pos (suc k)) h = refl
turned_literal pairs n (negsuc k) h = refl

-- the literal that says the opposite is there, so the opposite is among the orders
pub opposite_there : (old new orders : List OrderPair) (literals : List ℤ) (order : OrderPair) (z : ℤ) → IsExtended old new → SaysOrder new z order → IsClauseOf old orders literals → Contains literals (neg_ℤ z) → Contains orders (turned order)
opposite_there old new orders literals order z more said h c =
    let over = all_pass (is_literal_up_to (length old)) literals h.over (neg_ℤ z) c in
    subst (λ o. Contains orders o) (sym (order_same old new more (neg_ℤ z) over) ∙ turned_literal new (length new) z said.over ∙ ap turned said.says) (h.only (neg_ℤ z) c)
