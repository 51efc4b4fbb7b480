-- Orders that are kept of others.
use Rattle.std.proofs.Common.{◌≡◌, ◌⊎◌, ◌<◌, ◌+◌, ℕ, get_or, length, take, List, [], ◌∷◌, ◌++◌, inl, inr, subst}
use Rattle.std.specs.List.{Contains}
use Rattle.std.proofs.lemmas.List.Elements.{Contains-push_cases}
use Rattle.std.proofs.lemmas.List.{take_more}
use Rattle.trace_semantics.specs.declared.operation.OpName.{OpName}
use Rattle.trace_semantics.specs.Trace.{TraceValue}
use Rattle.trace_semantics.proofs.ElementLemmas.{from_map, to_map}
use Rattle.order_clauses.specs.Numbered.{named_order, named_orders}
use Rattle.order_clauses.specs.declared.order_pair.OrderPair.{OrderPair}
use Rattle.reason_clauses.specs.Numbered.{AreIn}

-- one order more was looked at
one_more : (seen old new : List OrderPair) (order : OrderPair) → ((p : OrderPair) → Contains seen p → Contains old p) → ((p : OrderPair) → Contains old p ⊎ (order ≡ p) → Contains new p) → (p : OrderPair) → Contains (seen ++ order ∷ []) p → Contains new p
one_more seen old new order kept added p c =
    elim (Contains-push_cases seen order p c) [
      | inl d ↦ added p (inl (kept p d))
      | inr e ↦ added p (inr e)
    ]

-- a turn of a loop over the orders
pub turn : (orders old new : List OrderPair) (k : ℕ) (d : OrderPair) → k < length orders → ((p : OrderPair) → Contains (take k orders) p → Contains old p) → ((p : OrderPair) → Contains old p ⊎ (get_or orders k d ≡ p) → Contains new p) → (p : OrderPair) → Contains (take (k + 1) orders) p → Contains new p
turn orders old new k d below kept added p c = one_more (take k orders) old new (get_or orders k d) kept added p (subst (λ (l : List OrderPair). Contains l p) (take_more orders k d below) c)

-- what is kept says what the others say
pub says_all : (t : TraceValue) (orders kept : List OrderPair) → ((p : OrderPair) → Contains orders p → Contains kept p) → AreIn t orders (named_orders t kept)
says_all t orders kept all p c =
    let found = from_map (named_order t) orders p c in
    subst (λ (q : OpName × OpName). Contains (named_orders t kept) q) found.2 (to_map (named_order t) kept found.0 (all found.0 found.1))
