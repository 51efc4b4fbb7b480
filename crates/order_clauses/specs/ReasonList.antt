-- Clauses over variables of which each holds in each legal schedule of a trace.
use Rattle.std.specs.Prelude.{◌≡◌, true, ℕ, ℤ, List, length}
use Rattle.std.specs.List.{list_all}
use Rattle.dimacs.specs.Literal.{is_clause_up_to}
use Rattle.trace_semantics.specs.declared.operation.OpName.{OpName}
use Rattle.trace_semantics.specs.Trace.{TraceValue}
use Rattle.order_reasons.specs.Orders.{AreReasons}
use Rattle.order_clauses.specs.declared.order_pair.OrderPair.{OrderPair}
use Rattle.order_clauses.specs.Numbered.{named_order}
use Rattle.order_clauses.specs.OrderVariables.{pair_of}

-- the pairs of operations that variables stand for, by names
abbrev pub named_pairs : TraceValue → List OrderPair → ℕ → OpName × OpName
named_pairs t pairs variable = named_order t (pair_of pairs variable)

-- the clauses are over the variables, and each holds in each legal schedule
pub record HoldReasons (t : TraceValue) (pairs : List OrderPair) (clauses : List (List ℤ)) : Type 0 where
  pub over : list_all (is_clause_up_to (length pairs)) clauses ≡ true
  pub reasons : AreReasons t (named_pairs t pairs) clauses
