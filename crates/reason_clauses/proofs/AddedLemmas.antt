-- What makers append, one order after the other.
use Rattle.std.proofs.Common.{List, [], ◌∷◌, ◌++◌, ap, sym, subst, inl, inr}
use Rattle.std.proofs.lemmas.List.Elements.{Contains-push_cases}
use Rattle.order_clauses.specs.declared.order_pair.OrderPair.{OrderPair}
use Rattle.reason_clauses.specs.AddedOrders.{AddsOnly, IsOpen, IsOrder}

pub adds_one : (old : List OrderPair) (o : OrderPair) → IsOpen o → AddsOnly old (old ++ o ∷ []) (IsOrder o.first o.second)
adds_one old o allowed x c = elim (Contains-push_cases old o x c) [
  | inl d ↦ inl d
  | inr e ↦ inr ((ap (λ (y : OrderPair). y.first) (sym e), ap (λ (y : OrderPair). y.second) (sym e)), subst (λ (y : OrderPair). IsOpen y) e allowed)
]

pub adds_over : (old mid new : List OrderPair) (P Q : OrderPair → Type 0) → ((o : OrderPair) → P o → Q o) → AddsOnly old mid Q → AddsOnly mid new P → AddsOnly old new Q
adds_over old mid new P Q weaker first second o c = elim (second o c) [
  | inl d ↦ first o d
  | inr h ↦ inr (weaker o h.0, h.1)
]

pub adds_weaker : (old new : List OrderPair) (P Q : OrderPair → Type 0) → ((o : OrderPair) → P o → Q o) → AddsOnly old new P → AddsOnly old new Q
adds_weaker old new P Q weaker so o c = elim (so o c) [
  | inl d ↦ inl d
  | inr h ↦ inr (weaker o h.0, h.1)
]

-- first orders of one kind, then of another
pub adds_both : (old mid new : List OrderPair) (P Q R : OrderPair → Type 0) → ((o : OrderPair) → P o → R o) → ((o : OrderPair) → Q o → R o) → AddsOnly old mid P → AddsOnly mid new Q → AddsOnly old new R
adds_both old mid new P Q R left right first second = adds_over old mid new Q R right (adds_weaker old mid P R left first) second
