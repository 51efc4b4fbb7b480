-- Every legal schedule keeps the forced order.
use Rattle.std.proofs.Common.{◌≡◌, ◌≤◌, Bool, List, [], ◌∷◌, ◌++◌, ap, sym, subst, arith, inl, inr}
use Rattle.std.specs.Prelude.{IsSome}
use Rattle.std.proofs.lemmas.Bool.{cases_order}
use Rattle.text_lines.proofs.BoolLemmas.{same_truth}
use Rattle.trace_semantics.specs.declared.operation.OpName.{OpName}
use Rattle.trace_semantics.specs.Interleaving.{StandsBefore, IsInterleaving}
use Rattle.trace_semantics.specs.Trace.{TraceValue, operation_at}
use Rattle.forced_order.specs.Order.{Agree, IsClosedForward, IsForcedOrder, IsInProgramOrder, IsStep, IsPath, IsForced}
use Rattle.restriction.proofs.StandLemmas.{stands_over, stands_either}

module _ (t : TraceValue) (names : List OpName) (given : IsInterleaving t names) where
  program_stands : (m n : OpName) → IsInProgramOrder t m n → StandsBefore names m n
  program_stands m n h =
      elim (stands_either names m n (given.each m h.first) (given.each n h.second)) [
        | inl same ↦ absurd (let places : m.place ≡ n.place = ap (λ (k : OpName). k.place) same in let lower = h.lower in omega arith)
        | inr (inl s) ↦ s
        | inr (inr s) ↦ absurd (let turned = given.program_order n m s (sym h.process) in let lower = h.lower in omega arith)
      ]

  step_stands : (m n : OpName) → IsStep t m n → StandsBefore names m n
  step_stands m n (inl h) = program_stands m n h
  step_stands m n (inr h) = given.known_order m n h

  path_stands : (m : OpName) (between : List OpName) (n : OpName) → IsPath t m between n → StandsBefore names m n
  path_stands m [] n h = step_stands m n h
  path_stands m (x ∷ between) n h = stands_over names given.once m x n (step_stands m x h.0) (path_stands x between n h.1)

pub forced_before : (t : TraceValue) (names : List OpName) (m n : OpName) → IsInterleaving t names → IsForced t m n → StandsBefore names m n
forced_before t names m n given h = path_stands t names given m h.0 n h.1

-- two forced orders in a row, and what stands lower in its process
path_joined : (t : TraceValue) (m : OpName) (between : List OpName) (x : OpName) (more : List OpName) (n : OpName) → IsPath t m between x → IsPath t x more n → IsPath t m (between ++ x ∷ more) n
path_joined t m [] x more n h k = (h, k)
path_joined t m (y ∷ between) x more n h k = (h.0, path_joined t y between x more n h.1 k)

pub forced_over : (t : TraceValue) (m x n : OpName) → IsForced t m x → IsForced t x n → IsForced t m n
forced_over t m x n h k = (h.0 ++ x ∷ k.0, path_joined t m h.0 x k.0 n h.1 k.1)

pub forced_lower : (t : TraceValue) (l m n : OpName) → IsSome (operation_at t l) → IsSome (operation_at t m) → l.process ≡ m.process → l.place ≤ m.place → IsForced t m n → IsForced t l n
forced_lower t l m n first second same low h =
    elim (cases_order l.place m.place) [
      | inl e ↦ (let one : m ≡ l = λ i. record { process = sym same i; place = sym e i } in subst (λ x. IsForced t x n) one h)
      | inr (inl less) ↦ forced_over t l m n ([], inl (record { first = first; second = second; process = same; lower = less })) h
      | inr (inr above) ↦ absurd (omega (arith, low, above))
    ]

pub orders_agree : (t : TraceValue) (first second : OpName → OpName → Bool) → IsForcedOrder t first → IsForcedOrder t second → Agree t first second
orders_agree t first second given other m n h k = same_truth (first m n) (second m n) (λ e. other.whole m n (given.within m n h k e)) (λ e. given.whole m n (other.within m n h k e))

pub forced_forward : (t : TraceValue) (ordered : OpName → OpName → Bool) → IsForcedOrder t ordered → IsClosedForward t ordered
forced_forward t ordered given x m n h into e = given.whole x n (forced_over t x m n (given.within x m h into.first e) ([], inl into))
