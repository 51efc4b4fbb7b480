-- Clauses that say orders.
use Rattle.std.specs.Prelude.{◌≡◌, ◌⊎◌, true, ℤ, List, [], ◌∷◌, ◌++◌, length}
use Rattle.std.specs.List.{Contains}
use Rattle.dimacs.specs.Literal.{is_clause_up_to}
use Rattle.order_clauses.specs.declared.order_pair.OrderPair.{OrderPair}
use Rattle.order_clauses.specs.OrderVariables.{order_of, SaysAll}

-- the literals are of the variables, and they say the orders and no others
pub record IsClauseOf (pairs : List OrderPair) (orders : List OrderPair) (literals : List ℤ) : Type 0 where
  pub over : is_clause_up_to (length pairs) literals ≡ true
  pub says : SaysAll pairs orders literals
  pub only : (z : ℤ) → Contains literals z → Contains orders (order_of pairs z)

-- the literal is among the new ones, which are the old ones and perhaps it
abbrev pub IsPut : List ℤ → List ℤ → ℤ → Type 0
IsPut old new literal = ((new ≡ old) × Contains old literal) ⊎ (new ≡ old ++ literal ∷ [])
