-- The source that a reader may have in its own process, from a table of writers.
use Rattle.std.proofs.Common.{◌≡◌, ◌⊎◌, ◌<◌, ◌≤◌, ◌+◌, ◌-◌, ℕ, List, [], ◌∷◌, ◌++◌, take, length, get_or, true, refl, ap, sym, ◌∙◌, arith, inl, inr, subst}
use Rattle.std.specs.Prelude.{Option, Some, None, false, is_some, IsSome}
use Rattle.std.specs.List.{Contains, slice_get}
use Rattle.std.specs.Option.{option_and_then}
use Rattle.std.proofs.lemmas.Bool.{cases_order}
use Rattle.std.proofs.lemmas.List.{take_more, get_or_default}
use Rattle.std.proofs.lemmas.List.Elements.{Contains-append_left, Contains-push, Contains-push_cases}
use Rattle.trace_semantics.specs.declared.operation.OpName.{OpName}
use Rattle.trace_semantics.specs.declared.operation.Op.{Op}
use Rattle.trace_semantics.specs.declared.operation.Origin.{Origin}
use Rattle.trace_semantics.specs.declared.trace.Process.{Process}
use Rattle.trace_semantics.specs.Trace.{TraceValue, IsTrace, operation_at}
use Rattle.trace_semantics.specs.ValueAfter.{value_left_at}
use Rattle.trace_semantics.proofs.NameLemmas.{known_named}
use Rattle.restriction.specs.Restriction.{left_by}
use Rattle.writer_table.specs.declared.operation_place.OperationPlace.{OperationPlace}
use Rattle.writer_table.specs.declared.runs.Run.{Run}
use Rattle.writer_table.specs.declared.trace_writers.TraceWriters.{TraceWriters}
use Rattle.writer_table.specs.Runs.{IsIn}
use Rattle.writer_table.specs.Writers.{HoldsWriters, runs_at}
use Rattle.order_clauses.specs.Numbered.{named, IsKnown}
use Rattle.order_reasons.specs.Sources.{AllowsWriter, IsBarred, Hidden, Behind}
use Rattle.reason_clauses.specs.Numbered.{at_number}
use Rattle.reason_clauses.specs.OwnLast.{WritesBefore, IsOwnLast, IsOwnSource}
use Rattle.reason_clauses.proofs.NumberLemmas.{writes_by_number, numbered_place, nobody, numbers_apart}
use Rattle.reason_clauses.proofs.NumberedLemmas.{in_order, up_to}

-- one run more
pub in_more : (runs : List Run) (i : ℕ) (run : Run) (process last new bound : ℕ) → i < length runs → get_or runs i run ≡ run → last ≤ new → ((k : ℕ) → run.process ≡ process → Contains run.places k → k ≤ bound → k ≤ new) →
    ((k : ℕ) → IsIn (take i runs) process k → k ≤ bound → k ≤ last) → (k : ℕ) → IsIn (take (i + 1) runs) process k → k ≤ bound → k ≤ new
in_more runs i run process last new bound low at least here so k h less =
    elim (Contains-push_cases (take i runs) run h.0 (subst (λ l. Contains l h.0) (take_more runs i run low ∙ ap (λ r. take i runs ++ r ∷ []) at) h.1)) [
      | inl c ↦ (let old = so k (h.0, c, h.2, h.3) less in omega (arith, old, least))
      | inr e ↦ here k (ap (λ (r : Run). r.process) e ∙ h.2) (subst (λ (r : Run). Contains r.places k) (sym e) h.3) less
    ]

-- the same of a last place that is in the runs
pub member_more : (runs : List Run) (i : ℕ) (run : Run) (process last new : ℕ) → i < length runs → get_or runs i run ≡ run → (new ≡ last) ⊎ ((run.process ≡ process) × Contains run.places new) → (last ≡ 0) ⊎ IsIn (take i runs) process last → (new ≡ 0) ⊎ IsIn (take (i + 1) runs) process new
member_more runs i run process last new low at (inl same) (inl none) = inl (same ∙ none)
member_more runs i run process last new low at (inl same) (inr there) =
    inr (subst (λ k. IsIn (take (i + 1) runs) process k) (sym same) (there.0, subst (λ l. Contains l there.0) (sym (take_more runs i run low)) (Contains-append_left (take i runs) (get_or runs i run ∷ []) there.0 there.1), there.2, there.3))
member_more runs i run process last new low at (inr here) before =
    inr (run, subst (λ l. Contains l run) (sym (take_more runs i run low ∙ ap (λ x. take i runs ++ x ∷ []) at)) (Contains-push (take i runs) run), here.0, here.1)

some_known : (t : TraceValue) (location : List ℕ) (o : Option Op) (d : ℕ) → option_and_then (left_by location) o ≡ Some d → IsSome o
some_known t location None d e = absurd (cc)
some_known t location (Some op) d e = refl

-- what leaves a value at a location is an operation of the trace
pub left_known : (t : TraceValue) (location : List ℕ) (d : ℕ) (w : OpName) → value_left_at t location w ≡ Some d → IsSome (operation_at t w)
left_known t location d w e = some_known t location (operation_at t w) d e

-- what leaves the value at the location is in the table
pub in_table : (t : TraceValue) → IsTrace t → (writers : TraceWriters) → HoldsWriters t writers → (n : OperationPlace) (location : List ℕ) (d : ℕ) → n.process < length t.processes → value_left_at t location (named t n) ≡ Some d → IsIn (runs_at writers location d) n.process n.place
in_table t ok writers holds n location d low leaves =
    let at = writes_by_number t location (named t n) d leaves in
    let m = at_number at.number (at.place + 1) in
    let m_known : IsKnown t m = (at.low, subst (λ w. IsSome (operation_at t w)) (sym at.named_so) (left_known t location d (named t n) leaves)) in
    let same : m ≡ n = numbers_apart t ok m n m_known (low, left_known t location d (named t n) leaves) at.named_so in
    subst (λ (x : OperationPlace). IsIn (runs_at writers location d) x.process x.place) same (holds.here at.number at.place d at.process location at.low at.at at.leaves)

-- and what is in the table writes the location
pub in_table_writes : (t : TraceValue) → IsTrace t → (writers : TraceWriters) → HoldsWriters t writers → (location : List ℕ) (value q k : ℕ) → IsIn (runs_at writers location value) q k → IsKnown t (at_number q k) × IsSome (value_left_at t location (named t (at_number q k)))
in_table_writes t ok writers holds location value q k there =
    subst (λ i. IsKnown t (at_number q i) × IsSome (value_left_at t location (named t (at_number q i)))) (sym only.1.1) ((only.0, left_known t location left.0 (named t (at_number q (j + 1))) writes), ap is_some writes)
  where
    only : (q < length t.processes) × ((j : ℕ) × (k ≡ j + 1) × ((p : Process) → get_or t.processes q p ≡ p → j < length p.operations))
    only = holds.only location value q k there

    j : ℕ
    j = only.1.0

    p : Process
    p = get_or t.processes q nobody

    is : get_or t.processes q p ≡ p
    is = get_or_default t.processes q p nobody only.0

    left : (d : ℕ) × (option_and_then (left_by location) (slice_get p.operations j) ≡ Some d) × (writers.classes.by_value ≡ true → d ≡ value)
    left = holds.leaves location value q j p is (subst (λ i. IsIn (runs_at writers location value) q i) only.1.1 there)

    writes : value_left_at t location (named t (at_number q (j + 1))) ≡ Some left.0
    writes = ap (option_and_then (left_by location)) (numbered_place t ok q j p only.0 is) ∙ left.1

-- the last place in the runs of the location that stands before r is the last writer
pub is_own_last : (t : TraceValue) → IsTrace t → (writers : TraceWriters) → HoldsWriters t writers → writers.classes.by_value ≡ false → (r : OperationPlace) (location : List ℕ) (last : ℕ) → ((k : ℕ) → IsIn (runs_at writers location 0) r.process k → k ≤ r.place - 1 → k ≤ last) →
    (last ≡ 0) ⊎ WritesBefore t r location last → IsOwnLast t r location last
is_own_last t ok writers holds kind r location last above there = record {
  there = there;
  silent = λ k over under known. nothing k over under known (value_left_at t location (named t (at_number r.process k))) refl;
}
  where
    nothing : (k : ℕ) → last < k → k < r.place → IsKnown t (at_number r.process k) → (o : Option ℕ) → value_left_at t location (named t (at_number r.process k)) ≡ o → value_left_at t location (named t (at_number r.process k)) ≡ None
    nothing k over under known None e = e
    nothing k over under known (Some d) e =
        absurd (let most = above k (subst (λ l. IsIn l r.process k) (holds.alike location d 0 kind) (in_table t ok writers holds (at_number r.process k) location d known.0 e)) (omega (arith, under)) in omega (arith, most, over))

-- a place in the runs of the location up to one before r is of a writer before r
pub writes_before : (t : TraceValue) → IsTrace t → (writers : TraceWriters) → HoldsWriters t writers → (r : OperationPlace) (location : List ℕ) (last : ℕ) → last ≤ r.place - 1 → (last ≡ 0) ⊎ IsIn (runs_at writers location 0) r.process last → (last ≡ 0) ⊎ WritesBefore t r location last
writes_before t ok writers holds r location last within (inl none) = inl none
writes_before t ok writers holds r location last within (inr there) =
    let writes = in_table_writes t ok writers holds location 0 r.process last there in
    let least = (known_named t (named t (at_number r.process last)) writes.0.1).least in inr (omega (arith, within, least), writes.0, writes.1)

-- of what leaves the value in the reader's process, all but the last writer before it is barred by program order
pub is_own_source : (t : TraceValue) (r : OperationPlace) (origin : Origin) (location : List ℕ) (d last own : ℕ) → IsOwnLast t r location last →
    (IsKnown t (at_number r.process last) → AllowsWriter origin (named t (at_number r.process last)) → value_left_at t location (named t (at_number r.process last)) ≡ Some d → own ≡ last) → IsOwnSource t r origin location d own
is_own_source t r origin location d last own lasts is k clause r_known known allowed leaves =
    elim (cases_order k last) [
      | inl e ↦ inl (e ∙ sym (is (at_last e (λ i. IsKnown t (at_number r.process i)) known) (at_last e (λ i. AllowsWriter origin (named t (at_number r.process i))) allowed) (at_last e (λ i. value_left_at t location (named t (at_number r.process i)) ≡ Some d) leaves)))
      | inr (inl below) ↦ inr (hidden below lasts.there)
      | inr (inr over) ↦ elim (cases_order k r.place) [
        | inl e ↦ inr (behind (omega (arith, e)))
        | inr (inl under) ↦ absurd (let silent = lasts.silent k over under known in let clash : None ≡ Some d = sym silent ∙ leaves in cc)
        | inr (inr later) ↦ inr (behind (omega (arith, later)))
      ]
    ]
  where
    at_last : k ≡ last → (P : ℕ → Type 0) → P k → P last
    at_last e P h = subst P e h

    w : OpName
    w = named t (at_number r.process k)

    hidden : k < last → (last ≡ 0) ⊎ WritesBefore t r location last → IsBarred t clause location d (named t r) w
    hidden below (inl e) = absurd (omega (arith, below, e))
    hidden below (inr (before, last_known, writes)) =
        Hidden (named t (at_number r.process last)) w (inl writes) (λ same. (let places : last ≡ r.place = ap (λ (x : OpName). x.place) same in absurd (omega (arith, places, before))))
        (λ same. (let places : last ≡ k = ap (λ (x : OpName). x.place) same in absurd (omega (arith, places, below)))) (inl refl)
        (inr (inr (in_order t (at_number r.process k) (at_number r.process last) known last_known refl below)))
        (inr (inr (in_order t (at_number r.process last) r last_known r_known refl before)))

    behind : r.place ≤ k → IsBarred t clause location d (named t r) w
    behind over = Behind (named t r) (up_to t r (at_number r.process k) r_known known refl over) (inr (inl refl))
