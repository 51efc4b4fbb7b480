-- An order that is closed forward is so among the rows of writers.
use Rattle.std.proofs.Common.{◌≡◌, ◌≤◌, ℕ, List, Bool, true, ap, sym, ◌∙◌, arith, inl, inr, subst}
use Rattle.std.specs.Prelude.{IsSome}
use Rattle.std.specs.List.{Contains}
use Rattle.std.proofs.lemmas.Bool.{cases_order}
use Rattle.trace_semantics.specs.declared.operation.OpName.{OpName}
use Rattle.trace_semantics.specs.Trace.{TraceValue, IsTrace, operation_at, operation_names}
use Rattle.trace_semantics.proofs.ElementLemmas.{from_filter, from_map}
use Rattle.trace_semantics.proofs.NameLemmas.{listed_known}
use Rattle.trace_semantics.proofs.ProcessOrderLemmas.{same_process}
use Rattle.forced_order.specs.Order.{IsClosedForward}
use Rattle.forced_order.specs.Rows.{OrderValue, stands_by, numbered, ordered_by}
use Rattle.part_law.specs.Part.{writes_at, writers_of}
use Rattle.trace_part.specs.declared.writers.ChosenWriter.{ChosenWriter}
use Rattle.trace_part.specs.Latest.{IsForwardAmong}
use Rattle.trace_part.specs.Rows.{row_of, rows_of}

module _ (t : TraceValue) (order : OrderValue) (forward : IsClosedForward t (ordered_by t order)) where
  pub forward_names : (k m n : OpName) → IsSome (operation_at t k) → IsSome (operation_at t m) → IsSome (operation_at t n) → (numbered t.processes m).process ≡ (numbered t.processes n).process → m.place ≤ n.place → ordered_by t order k m ≡ true → ordered_by t order k n ≡ true
  forward_names k m n known first second same low h =
      let process : m.process ≡ n.process = same_process t m n first second same in
      elim (cases_order m.place n.place) [
        | inl e ↦ (let one : m ≡ n = λ i. record { process = process i; place = e i } in subst (λ x. ordered_by t order k x ≡ true) one h)
        | inr (inl less) ↦ forward k m n known (record { first = first; second = second; process = process; lower = less }) h
        | inr (inr above) ↦ absurd (omega (arith, low, above))
      ]

module _ (t : TraceValue) (ok : IsTrace t) (order : OrderValue) (forward : IsClosedForward t (ordered_by t order)) (chosen : OpName → Bool) (location : List ℕ) where
  -- the name of a row
  named : (w : ChosenWriter) → Contains (rows_of t chosen location) w → (n : OpName) × IsSome (operation_at t n) × (row_of t chosen location n ≡ w)
  named w c =
      let n = from_map (row_of t chosen location) (writers_of t location) w c in
      (n.0, listed_known t ok n.0 (from_filter (writes_at t location) (operation_names t) n.0 n.1).0, n.2)

  pub forward_among : IsForwardAmong order (rows_of t chosen location)
  forward_among w x y c d e same low h =
      let k = named w c in
      let m = named x d in
      let n = named y e in
      let process : (numbered t.processes m.0).process ≡ (numbered t.processes n.0).process = ap (λ (v : ChosenWriter). v.name.process) m.2 ∙ same ∙ sym (ap (λ (v : ChosenWriter). v.name.process) n.2) in
      let first : m.0.place ≡ x.name.place = ap (λ (v : ChosenWriter). v.name.place) m.2 in
      let second : n.0.place ≡ y.name.place = ap (λ (v : ChosenWriter). v.name.place) n.2 in
      let start : ordered_by t order k.0 m.0 ≡ true = (λ i. stands_by order (k.2 i).name (m.2 i).name) ∙ h in
      (λ i. stands_by order (sym k.2 i).name (sym n.2 i).name) ∙ forward_names t order forward k.0 m.0 n.0 k.1 m.1 n.1 process (omega (arith, low, first, second)) start
