-- What variables and literals say of orders, if the variables are numbered from 1 and each has a pair of operations.
use Rattle.std.specs.Prelude.{◌≡◌, ◌-◌, ℕ, suc, ℤ, pos, negsuc, List, ◌++◌, slice_index_or}
use Rattle.std.specs.List.{Contains}
use Rattle.writer_table.specs.declared.operation_place.OperationPlace.{OperationPlace}
use Rattle.order_clauses.specs.declared.order_pair.OrderPair.{OrderPair}
use Rattle.order_clauses.specs.Turned.{turned}

-- operations of no trace: places are counted from 1
abbrev pub nowhere : OperationPlace
nowhere = record { process = 0; place = 0 }

-- the pair of a variable
abbrev pub pair_of : List OrderPair → ℕ → OrderPair
pair_of pairs variable = slice_index_or pairs (variable - 1) (record { first = nowhere; second = nowhere })

-- a literal says that the first of its variable's pair stands before the second, and its negation the opposite
abbrev pub order_of : List OrderPair → ℤ → OrderPair
order_of pairs (pos n) = pair_of pairs n
order_of pairs (negsuc n) = turned (pair_of pairs (suc n))

-- variables have been added after the others
abbrev pub IsExtended : List OrderPair → List OrderPair → Type 0
IsExtended old new = (more : List OrderPair) × (new ≡ old ++ more)

-- some literal of the clause says each of the orders
abbrev pub SaysAll : List OrderPair → List OrderPair → List ℤ → Type 0
SaysAll pairs orders clause = (order : OrderPair) → Contains orders order → (z : ℤ) × Contains clause z × (order_of pairs z ≡ order)
