-- The order of a model is a legal schedule.
use Rattle.std.proofs.Common.{◌≡◌, ℕ, zero, suc, ◌+◌, ◌<◌, ◌≤◌, ◌-◌, List, ◌∷◌, ◌++◌, length, Bool, true, refl, ap, sym, ◌∙◌, arith, inl, inr, subst}
use Rattle.std.specs.Prelude.{◌≢◌, Some, IsSome}
use Rattle.std.specs.List.{Contains}
use Rattle.std.proofs.lemmas.Bool.{cases_order}
use Rattle.std.proofs.lemmas.List.Elements.{Contains-append_cases}
use Rattle.dimacs.specs.Models.{IsModel}
use Rattle.trace_semantics.specs.declared.operation.OpName.{OpName}
use Rattle.trace_semantics.specs.declared.trace.Process.{Process}
use Rattle.trace_semantics.specs.Interleaving.{StandsBefore, IsInterleaving}
use Rattle.trace_semantics.specs.KnownOrder.{IsKnownBefore}
use Rattle.restriction.proofs.StandLemmas.{stands_in}
use Rattle.trace_semantics.specs.Trace.{TraceValue, IsTrace, operation_at}
use Rattle.trace_semantics.proofs.ElementLemmas.{cases_in, same_from_key}
use Rattle.trace_semantics.proofs.NameLemmas.{bytes_same, known_named}
use Rattle.trace_semantics.proofs.OrderLemmas.{stands_ahead}
use Rattle.var_layout.specs.Numbers.{name_at, number_of, in_one_process, share_process}
use Rattle.var_layout.proofs.KnownPairs.SaidLemmas.{known_listed, both_known, known_apart}
use Rattle.clause_blocks.specs.Clauses.{clauses_of}
use Rattle.clause_blocks.specs.ModelOrder.{IsInOrderOf}
use Rattle.clause_blocks.proofs.ModelToSchedule.ModelClauseLemmas.{order_by, model_next, model_pair}
use Rattle.clause_blocks.proofs.NumbersOfNames.OperationNumberLemmas.{name_in, row_of, number_within, numbered}
use Rattle.clause_blocks.proofs.NamesInOrder.StandLemmas.{IsOnce, stands_trans, stands_once}
use Rattle.clause_blocks.proofs.NumbersOfNames.WriterNumberLemmas.{numbers_apart}

-- a name that stands before another is among those before it
pub came : (names before : List OpName) (n : OpName) (after : List OpName) → IsOnce names → names ≡ before ++ n ∷ after → (m : OpName) → Contains names m → StandsBefore names m n → Contains before m
came names before n after once e m c s =
    elim (Contains-append_cases before (n ∷ after) m (subst (λ l. Contains l m) e c)) [
      | inl here ↦ here
      | inr rest ↦ elim (cases_in n after m rest) [
        | inl same ↦ absurd (once n (subst (λ w. StandsBefore names w n) (sym same) s))
        | inr later ↦ absurd (stands_once names once m n s (stands_ahead names before n after m e later))
      ]
    ]

-- an order of the names, by number
module _ (value : ℕ → Bool) (t : TraceValue) (names : List OpName) (ok : IsTrace t) (order : IsInOrderOf value t names) where
  pub ahead_stands : (m n : OpName) → IsSome (operation_at t m) → IsSome (operation_at t n) → m ≢ n → order_by value t (number_of t m) (number_of t n) ≡ true → StandsBefore names m n
  ahead_stands m n h k d e = (order.ordered (number_of t m) (number_of t n) m n (numbers_apart t ok m n h k d) (numbered t ok m h) (numbered t ok n k)).1 e

module _ (value : ℕ → Bool) (t : TraceValue) (names : List OpName) (ok : IsTrace t) (model : IsModel value (clauses_of t)) (order : IsInOrderOf value t names) where
  -- an operation stands before the next one of its process
  next_behind : (p : Process) → Contains t.processes p → (k : ℕ) → k + 1 < length p.operations → StandsBefore names (name_in p.name (k + 1)) (name_in p.name (k + 2))
  next_behind p c k h =
      let row = row_of t p c in
      let first = row.at k (omega (arith, h)) in
      let place : row.start + (k + 1) ≡ row.start + k + 1 = omega arith in
      let name : name_in p.name (k + 1 + 1) ≡ name_in p.name (k + 2) = (let e : k + 1 + 1 ≡ k + 2 = omega arith in ap (name_in p.name) e) in
      let second : name_at t (row.start + k + 1) ≡ Some (name_in p.name (k + 2)) = ap (name_at t) (sym place) ∙ row.at (k + 1) h ∙ ap Some name in
      let one : in_one_process t (row.start + k) (row.start + k + 1) ≡ true = (λ i. share_process (first i) (second i)) ∙ bytes_same p.name p.name refl in
      let apart : row.start + k ≢ row.start + k + 1 = λ e. omega (arith, e) in
      (order.ordered (row.start + k) (row.start + k + 1) (name_in p.name (k + 1)) (name_in p.name (k + 2)) apart first second).1
      (model_next value t model (row.start + k) (number_within t (row.start + k) (name_in p.name (k + 1)) first) one)

  later_behind : (p : Process) → Contains t.processes p → (k d : ℕ) → k + suc d < length p.operations → StandsBefore names (name_in p.name (k + 1)) (name_in p.name (k + suc d + 1))
  later_behind p c k zero h =
      let e : k + 2 ≡ k + suc zero + 1 = omega arith in
      subst (λ m. StandsBefore names (name_in p.name (k + 1)) (name_in p.name m)) e (next_behind p c k (omega (arith, h)))
  later_behind p c k (suc d) h =
      let e : k + suc d + 2 ≡ k + suc (suc d) + 1 = omega arith in
      stands_trans names order.all.once (name_in p.name (k + 1)) (name_in p.name (k + suc d + 1)) (name_in p.name (k + suc (suc d) + 1))
      (later_behind p c k d (omega (arith, h)))
      (subst (λ m. StandsBefore names (name_in p.name (k + suc d + 1)) (name_in p.name m)) e (next_behind p c (k + suc d) (omega (arith, h))))

  behind_in_process : (p : Process) → Contains t.processes p → (m n : OpName) → p.name ≡ m.process → p.name ≡ n.process → 1 ≤ m.place → m.place < n.place → n.place ≤ length p.operations → StandsBefore names m n
  behind_in_process p c m n e f low less high =
      let first : m.place - 1 + 1 ≡ m.place = omega (arith, low) in
      let second : m.place - 1 + suc (n.place - m.place - 1) + 1 ≡ n.place = omega (arith, low, less) in
      let first_name : name_in p.name (m.place - 1 + 1) ≡ m = λ i. record { process = e i; place = first i } in
      let second_name : name_in p.name (m.place - 1 + suc (n.place - m.place - 1) + 1) ≡ n = λ i. record { process = f i; place = second i } in
      subst (λ w. StandsBefore names w n) first_name (subst (λ w. StandsBefore names (name_in p.name (m.place - 1 + 1)) w) second_name
      (later_behind p c (m.place - 1) (n.place - m.place - 1) (omega (arith, low, less, high))))

  in_program_order : (m n : OpName) → IsSome (operation_at t m) → IsSome (operation_at t n) → StandsBefore names m n → m.process ≡ n.process → m.place < n.place
  in_program_order m n h k s same =
      let first = known_named t m h in
      let second = known_named t n k in
      let one : first.process ≡ second.process = same_from_key (λ (p : Process). p.name) t.processes ok.distinct first.process second.process first.listed second.listed (first.called ∙ same ∙ sym second.called) in
      elim (cases_order m.place n.place) [
        | inl e ↦ (let equal : m ≡ n = λ i. record { process = same i; place = e i } in absurd (order.all.once n (subst (λ w. StandsBefore names w n) equal s)))
        | inr (inl less) ↦ less
        | inr (inr more) ↦ absurd (stands_once names order.all.once m n s
            (behind_in_process first.process first.listed n m (first.called ∙ same) first.called second.least more first.most))
      ]

  -- of one process, the lower place stands before the higher
  lower_stands : (m n : OpName) → IsSome (operation_at t m) → IsSome (operation_at t n) → m.process ≡ n.process → m.place < n.place → StandsBefore names m n
  lower_stands m n h k same less =
      let first = known_named t m h in
      let second = known_named t n k in
      let one : first.process ≡ second.process = same_from_key (λ (p : Process). p.name) t.processes ok.distinct first.process second.process first.listed second.listed (first.called ∙ same ∙ sym second.called) in
      let most : n.place ≤ length first.process.operations = subst (λ (p : Process). n.place ≤ length p.operations) (sym one) second.most in
      behind_in_process first.process first.listed m n first.called (first.called ∙ same) first.least less most

  known_stands : (m n : OpName) → IsKnownBefore t m n → StandsBefore names m n
  known_stands m n h =
      let known = both_known t ok m n h in
      elim (known_listed t ok m n h) [
        | inl listed ↦ ahead_stands value t names ok order m n known.0 known.1 (known_apart t ok m n h) (model_pair value t model (number_of t m, number_of t n) listed)
        | inr lower ↦ lower_stands m n known.0 known.1 lower.0 lower.1
      ]

  pub interleaved : IsInterleaving t names
  interleaved = record {
    each = order.all.each;
    only = order.all.only;
    once = order.all.once;
    program_order = λ m n s same. (let in_names = stands_in names m n s in in_program_order m n (order.all.only m in_names.0) (order.all.only n in_names.1) s same);
    known_order = λ m n h. known_stands m n h;
  }
