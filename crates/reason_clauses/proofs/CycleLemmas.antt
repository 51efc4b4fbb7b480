-- Steps that are turned round make a clause that holds.
use Rattle.std.proofs.Common.{◌≡◌, ◌<◌, ◌+◌, ℕ, suc, List, [], ◌∷◌, map, length, get_or, refl, sym, arith, inl, inr, subst}
use Rattle.std.proofs.lemmas.Bool.{cases_order}
use Rattle.trace_semantics.specs.declared.operation.OpName.{OpName}
use Rattle.trace_semantics.specs.Trace.{TraceValue, IsTrace}
use Rattle.writer_table.specs.declared.operation_place.OperationPlace.{OperationPlace}
use Rattle.order_clauses.specs.declared.order_pair.OrderPair.{OrderPair}
use Rattle.order_clauses.specs.Numbered.{named, named_orders, IsKnown}
use Rattle.order_clauses.specs.OrderVariables.{nowhere}
use Rattle.order_reasons.specs.Orders.{HoldsOfSchedules}
use Rattle.order_reasons.specs.Reasons.{TurnsSteps}
use Rattle.order_reasons.proofs.OrderReasons.{cycle_holds}
use Rattle.reason_clauses.specs.Cycle.{IsTurned}
use Rattle.reason_clauses.specs.Made.{Makes, IsCycleOf}
use Rattle.reason_clauses.specs.Numbered.{AreIn, Grows, MakesSay}
use Rattle.reason_clauses.proofs.NumberLemmas.{numbers_apart}

pub turned_more : (t : TraceValue) (old new : List OrderPair) (u v : OperationPlace) → Grows old new → IsTurned t old u v → IsTurned t new u v
turned_more t old new u v grows h = record { known = h.known; other = h.other; says = λ clause all known. h.says clause (grows t clause all) known }

pub is_turned : (t : TraceValue) → IsTrace t → (new : List OrderPair) (u v : OperationPlace) → (u ≡ v → ⊥) → IsKnown t u → MakesSay new v u → IsTurned t new u v
is_turned t ok new u v other known says = record {
  known = known;
  other = λ v_known same. other (numbers_apart t ok u v known v_known same);
  says = λ clause all v_known. says t clause all v_known known;
}

-- of these operations the first n steps are turned round, the last of all leading to the first
abbrev pub AreTurned : TraceValue → List OrderPair → List OperationPlace → ℕ → Type 0
AreTurned t new ops n = (j : ℕ) → j < n → IsTurned t new (get_or ops j nowhere) (get_or ops (j + 1) (get_or ops 0 nowhere))

pub turned_next : (t : TraceValue) (old new : List OrderPair) (ops : List OperationPlace) (n : ℕ) → Grows old new → AreTurned t old ops n → IsTurned t new (get_or ops n nowhere) (get_or ops (n + 1) (get_or ops 0 nowhere)) → AreTurned t new ops (n + 1)
turned_next t old new ops n grows so at j less =
    elim (cases_order j n) [
      | inl e ↦ subst (λ i. IsTurned t new (get_or ops i nowhere) (get_or ops (i + 1) (get_or ops 0 nowhere))) (sym e) at
      | inr (inl low) ↦ turned_more t old new (get_or ops j nowhere) (get_or ops (j + 1) (get_or ops 0 nowhere)) grows (so j low)
      | inr (inr high) ↦ absurd (omega (arith, less, high))
    ]

module _ (t : TraceValue) (new : List OrderPair) (clause : List (OpName × OpName)) (all : AreIn t new clause) (first : OperationPlace) (known : IsKnown t first) where
  steps : (u : OperationPlace) (rest : List OperationPlace) → ((j : ℕ) → j < suc (length rest) → IsTurned t new (get_or (u ∷ rest) j nowhere) (get_or (u ∷ rest) (suc j) first)) → TurnsSteps t clause (named t first) (named t u) (map (named t) rest)
  steps u [] h = let at = h 0 (omega arith) in (at.other known, at.known.1, at.says clause all known)
  steps u (v ∷ rest) h =
      let at = h 0 (omega arith) in
      let next = h 1 (omega arith) in
      (at.other next.known, at.known.1, at.says clause all next.known, steps v rest (λ j low. h (suc j) (omega (arith, low))))

pub turned_cycle : (t : TraceValue) (new : List OrderPair) (ops : List OperationPlace) → (length ops ≡ 0 → ⊥) → AreTurned t new ops (length ops) → Makes t new (IsCycleOf t (map (named t) ops))
turned_cycle t new [] some so clause all = absurd (some refl)
turned_cycle t new (u ∷ rest) some so clause all =
    steps t new clause all u (so 0 (omega arith)).known u rest (λ j low. (let next : j + 1 ≡ suc j = omega arith in subst (λ i. IsTurned t new (get_or (u ∷ rest) j nowhere) (get_or (u ∷ rest) i u)) next (so j low)))

pub turned_holds : (t : TraceValue) (new : List OrderPair) (ops : List OperationPlace) → (length ops ≡ 0 → ⊥) → AreTurned t new ops (length ops) → HoldsOfSchedules t (named_orders t new)
turned_holds t new [] some so names legal = absurd (some refl)
turned_holds t new (u ∷ rest) some so names legal =
    cycle_holds t names legal.interleaving (named_orders t new) (named t u) (map (named t) rest) (turned_cycle t new (u ∷ rest) some so (named_orders t new) (λ p c. c))

pub no_operations : (ops : List OperationPlace) → length ops ≡ 0 → ops ≡ []
no_operations [] e = refl
no_operations (u ∷ rest) e = absurd (omega (arith, e))
