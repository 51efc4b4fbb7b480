use Rattle.std.proofs.Common.{◌≡◌, ℕ, ◌≤◌, ℤ, List, [], ◌∷◌, Bool, true, false, refl, arith}
use Rattle.std.specs.Prelude.{◌&&◌, nat_abs, nat_lt, nat_le}
use Rattle.std.specs.List.{list_all}
use Rattle.std.proofs.lemmas.Bool.Decides.{nat_tests}
use Rattle.dimacs.specs.Literal.{is_clause, is_clause_up_to, is_literal_up_to, most_variable}
use Rattle.trace_semantics.specs.Trace.{TraceValue, IsTrace, operation_count}
use Rattle.var_layout.specs.FinalVariables.{variable_count}
use Rattle.var_layout.proofs.BoundLemmas.{few_variables}
use Rattle.clause_blocks.specs.Clauses.{clauses_of}
use Rattle.clause_blocks.proofs.ClauseList.FormulaLemmas.{clauses_over}
use Rattle.clause_blocks.proofs.laws.clauses_are_clauses.Goals as goal

-- Clauses over a trace's variables are clauses.

both_pass : (a b c d : Bool) → (a ≡ true → c ≡ true) → (b ≡ true → d ≡ true) → (a && b) ≡ true → (c && d) ≡ true
both_pass true true true d h g e = g refl
both_pass true true false d h g e = h refl
both_pass true false c d h g e = absurd (cc)
both_pass false b c d h g e = absurd (cc)

all_wider : {X : Type 0} (p q : X → Bool) → ((x : X) → p x ≡ true → q x ≡ true) → (xs : List X) → list_all p xs ≡ true → list_all q xs ≡ true
all_wider p q h [] e = refl
all_wider p q h (x ∷ xs) e = both_pass (p x) (list_all p xs) (q x) (list_all q xs) (h x) (all_wider p q h xs) e

wider_count : (n v w : ℕ) → v ≤ w → nat_le n v ≡ true → nat_le n w ≡ true
wider_count n v w low h = grind (arith, nat_tests)

wider_literal : (v w : ℕ) (z : ℤ) → v ≤ w → is_literal_up_to v z ≡ true → is_literal_up_to w z ≡ true
wider_literal v w z low h = both_pass (nat_lt 0 (nat_abs z)) (nat_le (nat_abs z) v) (nat_lt 0 (nat_abs z)) (nat_le (nat_abs z) w) (λ e. e) (wider_count (nat_abs z) v w low) h

are_clauses : (t : TraceValue) → IsTrace t → operation_count t ≤ 160 → list_all is_clause (clauses_of t) ≡ true
are_clauses t ok few =
    let variables : variable_count t ≤ most_variable = omega (arith, few_variables t ok few) in
    all_wider (is_clause_up_to (variable_count t)) is_clause (λ clause. all_wider (is_literal_up_to (variable_count t)) (is_literal_up_to most_variable) (λ z. wider_literal (variable_count t) most_variable z variables) clause) (clauses_of t) (clauses_over t ok)

pub returns : goal.returns
returns c t ok few = are_clauses t ok few
