-- A literal that says an order.
use Rattle.std.specs.Prelude.{◌≡◌, ◌≤◌, true, ℕ, ℤ, List, length}
use Rattle.dimacs.specs.Literal.{is_literal_up_to}
use Rattle.order_clauses.specs.declared.order_pair.OrderPair.{OrderPair}
use Rattle.order_clauses.specs.OrderVariables.{pair_of, order_of}

-- the variable has this pair
pub record IsPairOf (pairs : List OrderPair) (variable : ℕ) (pair : OrderPair) : Type 0 where
  pub least : 1 ≤ variable
  pub most : variable ≤ length pairs
  pub is : pair_of pairs variable ≡ pair

-- the literal is of one of the variables, and says the order
pub record SaysOrder (pairs : List OrderPair) (literal : ℤ) (order : OrderPair) : Type 0 where
  pub over : is_literal_up_to (length pairs) literal ≡ true
  pub says : order_of pairs literal ≡ order
