use Rattle.std.proofs.Common.{◌≡◌, ◌<◌, ℕ, zero, suc, ◌+◌, ◌-◌, List, [], ◌∷◌, ◌++◌, length, get_or, refl, sym, ◌∙◌, ap, subst, arith, inl, inr, rules}
use Rattle.std.specs.Prelude.{Some, slice_index_or}
use Rattle.std.specs.List.{slice_get}
use Rattle.std.proofs.Math.Seq.{get_or-append_seam}
use Rattle.std.proofs.lemmas.Bool.{cases_lt}
use Rattle.std.proofs.lemmas.List.{get_or_append_left, get_or-append_right}
use Rattle.std.proofs.lemmas.Option.{slice_get_within, get_or_from_slice_get}
use Rattle.forced_order.specs.declared.numbered.OperationNumber.{OperationNumber}
use Rattle.forced_order.specs.Rows.{OrderValue, HasRow, last_before}
use Rattle.forced_order.proofs.rows.OrderRows.zeros.Goals as goal

-- rows of one more process
one_more_process : (rows : OrderValue) (new : List (List ℕ)) (counts : List ℕ) (n : ℕ) → length rows ≡ n → ((j k count : ℕ) → j < n → slice_get counts j ≡ Some count → k < count → HasRow rows (record { process = j; place = k })) →
    ((k : ℕ) → k < get_or counts n 0 → length (slice_index_or new k []) ≡ 64) → (j k count : ℕ) → j < n + 1 → slice_get counts j ≡ Some count → k < count → HasRow (rows ++ new ∷ []) (record { process = j; place = k })
one_more_process rows new counts n long old wide j k count below at less =
    elim (cases_lt j n) [
      | inl under ↦ (let same : get_or (rows ++ new ∷ []) j [] ≡ get_or rows j [] = get_or_append_left rows (new ∷ []) [] j (omega (arith, long, under)) in
          subst (λ (r : List (List ℕ)). length (slice_index_or r k []) ≡ 64) (sym same) (old j k count under at less))
      | inr over ↦ (let here : n ≡ j = omega (arith, below, over) in
          let same : get_or (rows ++ new ∷ []) j [] ≡ new = ap (λ i. get_or (rows ++ new ∷ []) i []) (sym (long ∙ here)) ∙ get_or-append_seam rows new [] [] in
          let counted : get_or counts n 0 ≡ count = ap (λ i. get_or counts i 0) here ∙ get_or_from_slice_get counts j count 0 at in
          subst (λ (r : List (List ℕ)). length (slice_index_or r k []) ≡ 64) (sym same) (wide k (omega (arith, counted, less))))
    ]

at_last : (new : List (List ℕ)) (n q j : ℕ) → ((k i : ℕ) → slice_index_or (slice_index_or new k []) i 0 ≡ 0) → slice_index_or (slice_index_or (slice_index_or (new ∷ []) j []) n []) q 0 ≡ 0
at_last new n q zero h = h n q
at_last new n q (suc j) h = refl

-- rows of zeros, and one more process of them
more_zeros : (rows : OrderValue) (new : List (List ℕ)) → ((n : OperationNumber) (q : ℕ) → last_before rows n q ≡ 0) → ((k i : ℕ) → slice_index_or (slice_index_or new k []) i 0 ≡ 0) → (n : OperationNumber) (q : ℕ) → last_before (rows ++ new ∷ []) n q ≡ 0
more_zeros rows new old here n q =
    elim (cases_lt n.process (length rows)) [
      | inl under ↦ subst (λ (r : List (List ℕ)). slice_index_or (slice_index_or r n.place []) q 0 ≡ 0) (sym (get_or_append_left rows (new ∷ []) [] n.process under)) (old n q)
      | inr over ↦ subst (λ (r : List (List ℕ)). slice_index_or (slice_index_or r n.place []) q 0 ≡ 0) (sym (get_or-append_right rows (new ∷ []) (length rows) n.process [] refl over)) (at_last new n.place q (n.process - length rows) here)
    ]

pub loop-k-preserved : goal.loop-k-preserved
loop-k-preserved c = record {
  zero = subst (λ (rows : OrderValue). (n : OperationNumber) (q : ℕ) → last_before rows n q ≡ 0) (sym (search rules)) (more_zeros c.loop-k.processes.items c.in_ok-zeros.field-0 c.loop-k.invariant.zero c.in_ok-zeros.ensures.zero);
  rows = subst (λ (rows : OrderValue). (j k count : ℕ) → j < c.loop-k.k + 1 → slice_get c.args.counts.now j ≡ Some count → k < count → HasRow rows (record { process = j; place = k })) (sym (search rules))
      (one_more_process c.loop-k.processes.items c.in_ok-zeros.field-0 c.args.counts.now c.loop-k.k c.loop-k.invariant.long c.loop-k.invariant.rows c.in_ok-zeros.ensures.wide);
  long = search rules;
}

pub returns-clause-rows : goal.returns-clause-rows
returns-clause-rows c = λ j k count at less. let within = slice_get_within c.args.counts.now j count at in c.loop-k.invariant.rows j k count (omega (arith, within)) at less
