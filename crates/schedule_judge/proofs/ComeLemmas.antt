-- How many operations of each process have come: at first, and after one more.
use Rattle.std.proofs.Common.{◌≡◌, ◌≢◌, ◌<◌, ◌≤◌, ◌+◌, ◌-◌, ℕ, zero, suc, List, [], ◌∷◌, ◌++◌, Bool, true, false, cond, not, eqb, nat_lt, nat_le, ◌&&◌, ◌||◌, refl, ap, sym, ◌∙◌, subst, arith, ◌⊎◌, inl, inr}
use Rattle.std.specs.Prelude.{Option, Some, None, find}
use Rattle.std.specs.List.{slice_get, list_all}
use Rattle.std.specs.Option.{option_and_then}
use Rattle.std.specs.Str.{bytes_eq}
use Rattle.std.proofs.lemmas.Bool.{and_parts, and_from, eqb-true, eq-eqb, le-leb, leb-true, leb-false, lt-ltb, ltb-true}
use Rattle.std.proofs.lemmas.List.Folds.{list_any-append}
use Rattle.std.proofs.lemmas.Option.{option_and_then_some}
use Rattle.text_lines.proofs.BoolLemmas.{same_truth}
use Rattle.trace_semantics.specs.declared.judgement.IllegalCause.{IllegalCause}
use Rattle.trace_semantics.specs.declared.judgement.IllegalCause.TheVariants.{RepeatedOp, OutOfProgramOrder}
use Rattle.trace_semantics.specs.declared.name_table.NameTable.{NameTable}
use Rattle.trace_semantics.specs.declared.operation.Op.{Op}
use Rattle.trace_semantics.specs.declared.operation.OpName.{OpName}
use Rattle.trace_semantics.specs.declared.trace.Process.{Process}
use Rattle.trace_semantics.specs.Judgement.{has_come, fault_of_op}
use Rattle.trace_semantics.specs.NameNumbers.{number_of}
use Rattle.trace_semantics.specs.Operation.{same_op}
use Rattle.trace_semantics.specs.Trace.{TraceValue, at_place, operation_at, first_names}
use Rattle.trace_semantics.proofs.ElementLemmas.{found}
use Rattle.trace_semantics.proofs.NameLemmas.{same_bytes, same_name, name_same}
use Rattle.schedule_judge.specs.Come.{AreCountsOfCome, IsCountSet, count_in_row, count_of_process, is_within}
use Rattle.schedule_judge.specs.Tables.{FindsProcesses}
use Rattle.schedule_judge.specs.Walk.{IsInProgramOrder}
use Rattle.schedule_judge.proofs.ProgramOrderLemmas.{first_have_come}

within_from : (place count : ℕ) → 0 < place → place ≤ count → is_within place count ≡ true
within_from place count low high = and_from (nat_lt 0 place) (nat_le place count) (lt-ltb 0 place low) (le-leb place count high)

within_low : (place count : ℕ) → is_within place count ≡ true → 0 < place
within_low place count e = ltb-true 0 place (and_parts (nat_lt 0 place) (nat_le place count) e).0

within_most : (place count : ℕ) → is_within place count ≡ true → place ≤ count
within_most place count e = leb-true place count (and_parts (nat_lt 0 place) (nat_le place count) e).1

second_fails : (a b : Bool) → a ≡ true → (a && b) ≡ false → b ≡ false
second_fails true b here e = e
second_fails false b here e = absurd (cc)

-- what is not within the first ones comes after them
past : (place count : ℕ) → 0 < place → is_within place count ≡ false → count < place
past place count low e = leb-false place count (second_fails (nat_lt 0 place) (nat_le place count) (lt-ltb 0 place low) e)

within_none : (place : ℕ) → is_within place 0 ≡ false
within_none place = same_truth (is_within place 0) false (λ e. let low : 0 < place = within_low place 0 e in let most : place ≤ 0 = within_most place 0 e in absurd (omega (arith, low, most))) (λ e. absurd (cc))

count_none : (counts : List ℕ) (row : Option ℕ) → counts ≡ [] → count_of_process counts row ≡ 0
count_none counts None e = refl
count_none counts (Some k) e = ap (λ l. count_in_row l k) e

-- nothing has come
pub counts_none : (rows : NameTable) (counts : List ℕ) → counts ≡ [] → AreCountsOfCome rows counts []
counts_none rows counts e n = sym (ap (is_within n.place) (count_none counts (number_of rows n.process) e) ∙ within_none n.place)

pub either_true : (b c : Bool) → (b || (c || false)) ≡ true → (b ≡ true) ⊎ (c ≡ true)
either_true true c e = inl refl
either_true false true e = inr refl
either_true false false e = absurd (cc)

first_true : (b c : Bool) → b ≡ true → (b || (c || false)) ≡ true
first_true true c e = refl
first_true false c e = absurd (cc)

second_true : (b c : Bool) → c ≡ true → (b || (c || false)) ≡ true
second_true true c e = refl
second_true false true e = refl
second_true false false e = absurd (cc)

-- an operation without a fault is new, and in program order
pub in_order : (a b : Bool) (rest : Option IllegalCause) → cond a (Some RepeatedOp) (cond (not b) (Some OutOfProgramOrder) rest) ≡ None → (a ≡ false) × (b ≡ true)
in_order true b rest e = absurd (cc)
in_order false true rest e = (refl, refl)
in_order false false rest e = absurd (cc)

-- the count in a row, after one is put
at_row : (k j new place old : ℕ) → new ≡ cond (eqb k j) place old → ((k ≡ j) × (new ≡ place)) ⊎ ((k ≢ j) × (new ≡ old))
at_row k j new place old e = chosen (eqb k j) (eqb-true k j) (eq-eqb k j) e
  where
    chosen : (b : Bool) → (b ≡ true → k ≡ j) → (k ≡ j → b ≡ true) → new ≡ cond b place old → ((k ≡ j) × (new ≡ place)) ⊎ ((k ≢ j) × (new ≡ old))
    chosen true same differ e = inl (same refl, e)
    chosen false same differ e = inr (λ s. let t : false ≡ true = differ s in absurd (cc), e)

-- two processes in one row are one
same_row : (processes : List Process) (rows : NameTable) (a b : List ℕ) (k : ℕ) (p : Process) → FindsProcesses processes rows → number_of rows a ≡ Some k → number_of rows b ≡ Some k → slice_get processes k ≡ Some p → a ≡ b
same_row processes rows a b k p finds first second at =
    sym (named a first) ∙ named b second
  where
    named : (name : List ℕ) → number_of rows name ≡ Some k → p.name ≡ name
    named name row = same_bytes p.name name (found (λ (p : Process). bytes_eq p.name name) processes p (sym (finds name) ∙ ap (option_and_then (slice_get processes)) row ∙ at)).1

-- the row of a known operation, and its process
record IsKnown (processes : List Process) (rows : NameTable) (n : OpName) : Type 0 where
  row : ℕ
  process : Process
  is_row : number_of rows n.process ≡ Some row
  is_process : slice_get processes row ≡ Some process
  placed : 0 < n.place

has_place : (op : Op) (operations : List Op) (place : ℕ) → at_place operations place ≡ Some op → 0 < place
has_place op operations zero e = absurd (cc)
has_place op operations (suc k) e = omega arith

known_at : (t : TraceValue) (rows : NameTable) (n : OpName) (op : Op) → FindsProcesses t.processes rows → operation_at t n ≡ Some op → IsKnown t.processes rows n
known_at t rows n op finds known =
    option_and_then_some (λ (p : Process). at_place p.operations n.place) (find (λ (p : Process). bytes_eq p.name n.process) t.processes) op known (λ p named at.
    option_and_then_some (slice_get t.processes) (number_of rows n.process) p (finds n.process ∙ named) (λ k row here.
    record { row = k; process = p; is_row = row; is_process = here; placed = has_place op p.operations n.place at }))

-- as many of a process have come as are asked for
reached : (rows : NameTable) (counts : List ℕ) (done : List OpName) (process : List ℕ) (n : ℕ) → AreCountsOfCome rows counts done → IsInProgramOrder done → list_all (has_come done) (first_names process n) ≡ true → n ≤ count_of_process counts (number_of rows process)
reached rows counts done process zero are order all = omega arith
reached rows counts done process (suc k) are order all =
    within_most (suc k) (count_of_process counts (number_of rows process)) (sym (are (record { process = process; place = suc k })) ∙ sym (first_have_come done process k order) ∙ all)

-- an operation without a fault is the next one of its process
next_one : (t : TraceValue) (rows : NameTable) (counts : List ℕ) (done : List OpName) (n : OpName) (op : Op) (c : ℕ) → AreCountsOfCome rows counts done → IsInProgramOrder done → 0 < n.place → count_of_process counts (number_of rows n.process) ≡ c → fault_of_op t done n op ≡ None → n.place ≡ c + 1
next_one t rows counts done n op c are order low count right =
    let parts = in_order (has_come done n) (list_all (has_come done) (first_names n.process (n.place - 1))) _ right in
    let after : count_of_process counts (number_of rows n.process) < n.place = past n.place (count_of_process counts (number_of rows n.process)) low (sym (are n) ∙ parts.0) in
    let before : n.place - 1 ≤ count_of_process counts (number_of rows n.process) = reached rows counts done n.process (n.place - 1) are order parts.1 in
    omega (arith, after, before, low, count)

-- one more has come: what is said of any name
one_more : (rows : NameTable) (counts more : List ℕ) (done : List OpName) (n m : OpName) (k : ℕ) (o : Option ℕ) → number_of rows n.process ≡ Some k → number_of rows m.process ≡ o → (number_of rows m.process ≡ Some k → m.process ≡ n.process) → has_come done m ≡ is_within m.place (count_of_process counts o) → 0 < n.place → n.place ≡ count_in_row counts k + 1 → ((j : ℕ) → count_in_row more j ≡ cond (eqb k j) n.place (count_in_row counts j)) → (has_come done m || (same_op m n || false)) ≡ is_within m.place (count_of_process more o)
one_more rows counts more done n m k None here there one before low next each =
    same_truth (has_come done m || (same_op m n || false)) (is_within m.place 0) (λ e. elim (either_true (has_come done m) (same_op m n) e) [
      | inl old ↦ sym before ∙ old
      | inr same ↦ let t : None ≡ Some k = sym there ∙ ap (λ (q : OpName). number_of rows q.process) (same_name m n same) ∙ here in absurd (cc)
    ]) (λ e. first_true (has_come done m) (same_op m n) (before ∙ e))
one_more rows counts more done n m k (Some j) here there one before low next each =
    same_truth (has_come done m || (same_op m n || false)) (is_within m.place (count_in_row more j)) (λ e. elim (either_true (has_come done m) (same_op m n) e) [
      | inl old ↦ later (sym before ∙ old)
      | inr same ↦ this same
    ]) back
  where
    later : is_within m.place (count_in_row counts j) ≡ true → is_within m.place (count_in_row more j) ≡ true
    later e = elim (at_row k j (count_in_row more j) n.place (count_in_row counts j) (each j)) [
      | inl at ↦ let c : count_in_row counts k ≡ count_in_row counts j = ap (count_in_row counts) at.0 in within_from m.place (count_in_row more j) (within_low m.place (count_in_row counts j) e) (omega (arith, within_most m.place (count_in_row counts j) e, next, at.1, c))
      | inr at ↦ ap (is_within m.place) at.1 ∙ e
    ]

    this : same_op m n ≡ true → is_within m.place (count_in_row more j) ≡ true
    this same =
        let e : m ≡ n = same_name m n same in
        let rows_same : Some j ≡ Some k = sym there ∙ ap (λ (q : OpName). number_of rows q.process) e ∙ here in
        let place : m.place ≡ n.place = ap (λ (q : OpName). q.place) e in
        elim (at_row k j (count_in_row more j) n.place (count_in_row counts j) (each j)) [
          | inl at ↦ within_from m.place (count_in_row more j) (omega (arith, low, place)) (omega (arith, place, at.1))
          | inr at ↦ absurd (at.0 (cc))
        ]

    last : k ≡ j → count_in_row more j ≡ n.place → is_within m.place (count_in_row more j) ≡ true → (has_come done m || (same_op m n || false)) ≡ true
    last row put e = chosen (nat_le m.place (count_in_row counts k)) refl
      where
        c : count_in_row counts k ≡ count_in_row counts j
        c = ap (count_in_row counts) row

        chosen : (b : Bool) → nat_le m.place (count_in_row counts k) ≡ b → (has_come done m || (same_op m n || false)) ≡ true
        chosen true old =
            let most : m.place ≤ count_in_row counts k = leb-true m.place (count_in_row counts k) old in
            first_true (has_come done m) (same_op m n) (before ∙ within_from m.place (count_in_row counts j) (within_low m.place (count_in_row more j) e) (omega (arith, most, c)))
        chosen false new =
            let least : count_in_row counts k < m.place = leb-false m.place (count_in_row counts k) new in
            let most : m.place ≤ count_in_row more j = within_most m.place (count_in_row more j) e in
            let place : m.place ≡ n.place = omega (arith, least, most, next, put) in
            let process : m.process ≡ n.process = one (there ∙ ap Some (sym row)) in
            second_true (has_come done m) (same_op m n) (name_same m n (λ i. record { process = process i; place = place i }))

    back : is_within m.place (count_in_row more j) ≡ true → (has_come done m || (same_op m n || false)) ≡ true
    back e = elim (at_row k j (count_in_row more j) n.place (count_in_row counts j) (each j)) [
      | inl at ↦ last at.0 at.1 e
      | inr at ↦ first_true (has_come done m) (same_op m n) (before ∙ ap (is_within m.place) (sym at.1) ∙ e)
    ]

-- one more operation, which has no fault, has come
pub counts_more : (t : TraceValue) (rows : NameTable) (counts more : List ℕ) (done : List OpName) (n : OpName) (op : Op) → FindsProcesses t.processes rows → AreCountsOfCome rows counts done → IsInProgramOrder done → operation_at t n ≡ Some op → fault_of_op t done n op ≡ None → IsCountSet counts (number_of rows n.process) n.place more → AreCountsOfCome rows more (done ++ n ∷ [])
counts_more t rows counts more done n op finds are order known right counted m =
    let at = known_at t rows n op finds known in
    let each : (j : ℕ) → count_in_row more j ≡ cond (eqb at.row j) n.place (count_in_row counts j) = subst (λ o. IsCountSet counts o n.place more) at.is_row counted in
    let next : n.place ≡ count_in_row counts at.row + 1 = next_one t rows counts done n op (count_in_row counts at.row) are order at.placed (ap (count_of_process counts) at.is_row) right in
    list_any-append (same_op m) done (n ∷ []) ∙ one_more rows counts more done n m at.row (number_of rows m.process) at.is_row refl (λ e. same_row t.processes rows m.process n.process at.row at.process finds e at.is_row at.is_process) (are m) at.placed next each
