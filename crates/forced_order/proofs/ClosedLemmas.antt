-- Rows that no step raises say all that is forced.
use Rattle.std.proofs.Common.{◌≡◌, true, ℕ, zero, suc, ◌+◌, ◌-◌, ◌<◌, ◌≤◌, List, [], ◌∷◌, length, refl, ap, sym, ◌∙◌, subst, arith, inl, inr}
use Rattle.std.specs.Prelude.{IsSome, Some}
use Rattle.std.specs.List.{Contains, slice_get}
use Rattle.std.proofs.lemmas.Bool.{cases_order, le-leb}
use Rattle.std.proofs.lemmas.Option.{slice_get_read, slice_get_within}
use Rattle.trace_semantics.specs.declared.operation.OpName.{OpName}
use Rattle.trace_semantics.specs.declared.trace.Process.{Process}
use Rattle.trace_semantics.specs.KnownOrder.{ends_before, ended_before}
use Rattle.trace_semantics.specs.PairOrder.{order_of}
use Rattle.trace_semantics.specs.Trace.{TraceValue, IsTrace, operation_at}
use Rattle.trace_semantics.proofs.ElementLemmas.{to_map}
use Rattle.trace_semantics.proofs.KnownOrderLemmas.{both_timed}
use Rattle.forced_order.specs.Closed.{AreClosed, IsClosedFrom, IsTimeClosed}
use Rattle.forced_order.specs.Forced.{AreForced, numbered_pair, numbered_pairs}
use Rattle.forced_order.specs.Order.{IsInProgramOrder, IsStep, IsPath, IsForced, IsForcedOrder}
use Rattle.forced_order.specs.Rows.{OrderValue, last_before, numbered, ordered_by}
use Rattle.forced_order.specs.Times.{span_by_number}
use Rattle.forced_order.proofs.RowLemmas.{placed, path_known, one_process, sound}
use Rattle.forced_order.proofs.TimeLemmas.{span_numbered}

-- from each place to the next, so from each to each after it
rises_by : (f : ℕ → ℕ) (count : ℕ) → ((k : ℕ) → 1 ≤ k → k < count → f k ≤ f (k + 1)) → (a d : ℕ) → 1 ≤ a → a + d ≤ count → f a ≤ f (a + d)
rises_by f count step a zero low high = let same : f (a + zero) ≡ f a = ap f (omega arith) in omega (arith, same)
rises_by f count step a (suc d) low high =
    let before = rises_by f count step a d low (omega (arith, high)) in
    let next = step (a + d) (omega (arith, low)) (omega (arith, high)) in
    let same : f (a + suc d) ≡ f (a + d + 1) = ap f (omega arith) in
    omega (arith, before, next, same)

rises : (f : ℕ → ℕ) (count : ℕ) → ((k : ℕ) → 1 ≤ k → k < count → f k ≤ f (k + 1)) → (a b : ℕ) → 1 ≤ a → a < b → b ≤ count → f a ≤ f b
rises f count step a b low less high =
    let same : f (a + (b - a)) ≡ f b = ap f (omega (arith, less)) in
    subst (λ r. f a ≤ r) same (rises_by f count step a (b - a) low (omega (arith, less, high)))

-- the step from a lower place is the last of those from each place to the next
reaches : (f : ℕ → ℕ) (count : ℕ) → ((k : ℕ) → 1 ≤ k → k < count → k ≤ f (k + 1)) → (a b : ℕ) → 1 ≤ a → a < b → b ≤ count → a ≤ f b
reaches f count step a zero low less high = absurd (omega (arith, less))
reaches f count step a (suc b) low less high =
    let here = step b (omega (arith, low, less)) (omega (arith, high)) in
    let same : f (b + 1) ≡ f (suc b) = ap f (omega arith) in
    omega (arith, here, same, less)

module _ (t : TraceValue) (ok : IsTrace t) (order : OrderValue) where
  -- m stands before n by the rows
  abbrev Stands : OpName → OpName → Type 0
  Stands m n = m.place ≤ last_before order (numbered t.processes n) (order_of t.processes m.process)

  module _ (closed : AreClosed t order) where
    -- where two operations of one process stand
    program_known : (m n : OpName) → IsInProgramOrder t m n → (p : Process) × (slice_get t.processes (order_of t.processes m.process) ≡ Some p) × (1 ≤ m.place) × (n.place ≤ length p.operations) × (order_of t.processes n.process ≡ order_of t.processes m.process)
    program_known m n into =
        let first = placed t m into.first in
        let second = placed t n into.second in
        let one : order_of t.processes n.process ≡ order_of t.processes m.process = ap (order_of t.processes) (sym into.process) in
        let same = one_process t (order_of t.processes m.process) second.process first.process (subst (λ j. slice_get t.processes j ≡ Some second.process) one second.at) first.at in
        (first.process, first.at, first.least, subst (λ (p : Process). n.place ≤ length p.operations) same second.most, one)

    in_pairs : (m n : OpName) → Contains t.before (m, n) → (j : ℕ) × (slice_get (numbered_pairs t) j ≡ Some (numbered_pair t.processes (m, n)))
    in_pairs m n c =
        let at = to_map (numbered_pair t.processes) t.before (m, n) c in
        (at.0, slice_get_read (numbered_pairs t) (length (numbered_pairs t)) at.0 (numbered_pair t.processes (m, n)) refl at.1 (sym at.2))

    -- what had ended before an operation
    timed_closed : (m n : OpName) → ended_before t m n ≡ true → IsClosedFrom t.processes order (numbered t.processes m) (numbered t.processes n)
    timed_closed m n h =
        let known = both_timed t m n h in
        let second = placed t n known.1 in
        let ended : ends_before (span_by_number t.processes (numbered t.processes m)) (span_by_number t.processes (numbered t.processes n)) ≡ true = (λ i. ends_before (sym (span_numbered t m) i) (sym (span_numbered t n) i)) ∙ h in
        let j = order_of t.processes n.process in
        let place : n.place - 1 + 1 ≡ n.place = omega (arith, second.least) in
        let to : IsTimeClosed t.processes order (record { process = j; place = n.place - 1 + 1 }) = closed.times j second.process second.at (n.place - 1) (omega (arith, second.least, second.most)) in
        subst (λ k. IsTimeClosed t.processes order (record { process = j; place = k })) place to (order_of t.processes m.process) m.place ended

    step_stands : (m n : OpName) → IsStep t m n → Stands m n
    step_stands m n (inl into) =
        let at = program_known m n into in
        let j = order_of t.processes m.process in
        let up = reaches (λ k. last_before order (record { process = j; place = k }) j) (length at.0.operations) (λ k low less. (closed.program j at.0 at.1 k low less).first) m.place n.place at.2 into.lower at.3 in
        subst (λ i. m.place ≤ last_before order (record { process = i; place = n.place }) j) (sym at.4) up
    step_stands m n (inr (inl c)) = let at = in_pairs m n c in (closed.pairs at.0 (numbered_pair t.processes (m, n)) at.1).first
    step_stands m n (inr (inr h)) = let at = timed_closed m n h in let up = at.closed.first in let low = at.later in omega (arith, up, low)

    -- the row of an operation says no more than that of a later one of its process
    row_rises : (j q : ℕ) (p : Process) → slice_get t.processes j ≡ Some p → q < 64 → (a b : ℕ) → 1 ≤ a → a ≤ b → b ≤ length p.operations →
        last_before order (record { process = j; place = a }) q ≤ last_before order (record { process = j; place = b }) q
    row_rises j q p at few a b low up most =
        elim (cases_order a b) [
          | inl e ↦ (let same : last_before order (record { process = j; place = a }) q ≡ last_before order (record { process = j; place = b }) q = ap (λ k. last_before order (record { process = j; place = k }) q) e in omega (arith, same))
          | inr (inl less) ↦ rises (λ k. last_before order (record { process = j; place = k }) q) (length p.operations) (λ k l h. (closed.program j p at k l h).before q few) a b low less most
          | inr (inr more) ↦ absurd (omega (arith, up, more))
        ]

    timed_over : (m x n : OpName) → IsSome (operation_at t m) → Stands m x → ended_before t x n ≡ true → Stands m n
    timed_over m x n known h e =
        let at = timed_closed x n e in
        let first = placed t x (both_timed t x n e).0 in
        let j = order_of t.processes x.process in
        let q = order_of t.processes m.process in
        let few : q < 64 = omega (arith, slice_get_within t.processes q (placed t m known).process (placed t m known).at, ok.few_processes) in
        let up = row_rises j q at.process at.at few x.place at.place first.least at.later at.most in
        let over = at.closed.before q few in
        omega (arith, h, up, over)

    step_over : (m x n : OpName) → IsSome (operation_at t m) → Stands m x → IsStep t x n → Stands m n
    step_over m x n known h (inl into) =
        let at = program_known x n into in
        let j = order_of t.processes x.process in
        let q = order_of t.processes m.process in
        let few : q < 64 = omega (arith, slice_get_within t.processes q (placed t m known).process (placed t m known).at, ok.few_processes) in
        let up = rises (λ k. last_before order (record { process = j; place = k }) q) (length at.0.operations) (λ k low less. (closed.program j at.0 at.1 k low less).before q few) x.place n.place at.2 into.lower at.3 in
        subst (λ i. m.place ≤ last_before order (record { process = i; place = n.place }) q) (sym at.4) (omega (arith, h, up))
    step_over m x n known h (inr (inr e)) = timed_over m x n known h e
    step_over m x n known h (inr (inl c)) =
        let at = in_pairs x n c in
        let q = order_of t.processes m.process in
        let few : q < 64 = omega (arith, slice_get_within t.processes q (placed t m known).process (placed t m known).at, ok.few_processes) in
        let up = (closed.pairs at.0 (numbered_pair t.processes (x, n)) at.1).before q few in
        omega (arith, h, up)

    path_over : (m x : OpName) (between : List OpName) (n : OpName) → IsSome (operation_at t m) → Stands m x → IsPath t x between n → Stands m n
    path_over m x [] n known h step = step_over m x n known h step
    path_over m x (y ∷ between) n known h path = path_over m y between n known (step_over m x y known h path.0) path.1

    path_stands : (m : OpName) (between : List OpName) (n : OpName) → IsPath t m between n → Stands m n
    path_stands m [] n step = step_stands m n step
    path_stands m (x ∷ between) n path = path_over m x between n (path_known t ok m (x ∷ between) n path) (step_stands m x path.0) path.1

    complete : (m n : OpName) → IsForced t m n → Stands m n
    complete m n f = path_stands m f.0 n f.1

    pub forced_order : AreForced t order → IsForcedOrder t (ordered_by t order)
    forced_order forced = record {
      within = sound t ok order forced;
      whole = λ m n f. le-leb m.place (last_before order (numbered t.processes n) (order_of t.processes m.process)) (complete m n f);
    }
