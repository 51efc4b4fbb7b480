-- What comes into a list of reasons.
use Rattle.std.specs.Prelude.{◌≡◌, ℤ, List, [], ◌∷◌, ◌++◌}
use Rattle.order_clauses.specs.ClauseOf.{IsClauseOf}
use Rattle.order_clauses.specs.OrderVariables.{IsExtended}
use Rattle.order_clauses.specs.declared.order_pair.OrderPair.{OrderPair}
use Rattle.order_clauses.specs.declared.reason_list.ReasonList.{ReasonList}

-- the new list has one clause more, which says these orders and no others, and perhaps more variables
pub record IsAppended (old new : ReasonList) (orders : List OrderPair) : Type 0 where
  pub clause : List ℤ
  pub appended : new.clauses.items ≡ old.clauses.items ++ clause ∷ []
  pub extended : IsExtended old.variables new.variables
  pub says : IsClauseOf new.variables orders clause

-- the new list has the same clauses, and perhaps more variables
pub record HasSameClauses (old new : ReasonList) : Type 0 where
  pub same : new.clauses.items ≡ old.clauses.items
  pub extended : IsExtended old.variables new.variables
