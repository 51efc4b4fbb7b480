-- Statements without a fault can be gathered.
use Rattle.std.proofs.Common.{◌≡◌, ℕ, ◌+◌, ◌<◌, ◌≤◌, List, [], ◌∷◌, ◌++◌, length, Bool, true, false, cond, not, ◌&&◌, ◌||◌, refl, ap, sym, subst, arith, append-nil, append_assoc, length-append}
use Rattle.std.specs.Prelude.{Option, Some, None, nat_le, if◌then◌else◌}
use Rattle.std.specs.List.{Contains, filter, filter_map, cons_option, flat_map, list_any, list_all}
use Rattle.std.proofs.lemmas.Bool.{leb-false, not-false}
use Rattle.std.proofs.lemmas.List.Elements.{filter-append, filter_map-append}
use Rattle.text_lines.specs.FirstFault.{IsFaultless}
use Rattle.text_lines.proofs.BoolLemmas.{never_without}
use Rattle.trace_text.specs.declared.entry.Entry.{Entry}
use Rattle.trace_semantics.specs.declared.trace.Process.{Process}
use Rattle.trace_text.specs.declared.trace_fault.TraceCause.{TraceCause}
use Rattle.trace_text.specs.declared.trace_fault.TraceCause.TheVariants.{BadName, BadNumber, OpOutsideProc, LateHeaderLine, TooManyProcs, TooManyOps, TooManyLocations, TooManyBefore}
use Rattle.trace_text.specs.Entry.{statement_for, has_numbers, entry_fits}
use Rattle.trace_text.specs.Gathered.{is_of_process, process_statements, processes_with, initial_with, final_with, before_with}
use Rattle.trace_semantics.specs.Locations.{distinct, holds_name}
use Rattle.trace_semantics.specs.Names.{is_name}
use Rattle.trace_text.specs.Statement.{Statement}
use Rattle.trace_semantics.specs.Trace.{TraceValue}
use Rattle.trace_text.specs.TraceFault.{is_proc, is_operation, is_before, is_value_line, names_of, location_named, repeats, twice_cause, limit_fault, is_location_too_many, or_else, shape_fault, statement_fault}
use Rattle.trace_text.proofs.Reading.ArrangedLemmas.{AreGathered}
use Rattle.trace_semantics.proofs.ElementLemmas.{none_in, some_passes, to_filter}
use Rattle.trace_text.proofs.Reading.EntryLemmas.{processes_written, initial_written, final_written, before_written}
use Rattle.trace_text.proofs.Reading.EntryOfLemmas.{entry_of}
use Rattle.trace_text.proofs.Reading.GatheredLemmas.{processes_push, initial_push, final_push, before_push, processes_apart, initial_apart, final_apart}
use Rattle.trace_text.proofs.Reading.SeenLemmas.{distinct_push}
use Rattle.trace_semantics.specs.declared.limits.Limits.{Limits}
use Rattle.trace_semantics.specs.Limits.{max_operations, max_locations, max_pairs}

-- a statement that has no fault after these
record IsFine (limits : Limits) (ss : List Statement) (s : Statement) : Type 0 where
  inside : (is_operation s && not (list_any is_proc ss)) ≡ false
  named : list_all is_name (names_of s) ≡ true
  numbered : has_numbers limits s ≡ true
  once : list_any (repeats s) ss ≡ false
  few_processes : (is_proc s && nat_le 64 (length (filter is_proc ss))) ≡ false
  few_operations : (is_operation s && nat_le (max_operations limits) (length (filter is_operation ss))) ≡ false
  few_before : (is_before s && nat_le (max_pairs limits) (length (filter is_before ss))) ≡ false
  few_locations : is_location_too_many limits ss (location_named s) ≡ false

none_first : (o p : Option TraceCause) → or_else o p ≡ None → (o ≡ None) × (p ≡ None)
none_first None p h = (refl, h)
none_first (Some cause) p h = absurd (cc)

passed : (b : Bool) (cause : TraceCause) (rest : Option TraceCause) → (if b then Some cause else rest) ≡ None → (b ≡ false) × (rest ≡ None)
passed true cause rest h = absurd (cc)
passed false cause rest h = (refl, h)

fine : (limits : Limits) (ss : List Statement) (s : Statement) → statement_fault limits ss s ≡ None → IsFine limits ss s
fine limits ss s h =
    let outer = none_first (shape_fault limits ss s) _ h in
    let late = passed (is_value_line s && list_any is_proc ss) LateHeaderLine _ outer.0 in
    let inside = passed (is_operation s && not (list_any is_proc ss)) OpOutsideProc _ late.1 in
    let named = passed (not (list_all is_name (names_of s))) BadName _ inside.1 in
    let numbered = passed (not (has_numbers limits s)) BadNumber _ named.1 in
    let once = passed (list_any (repeats s) ss) (twice_cause s) _ outer.1 in
    let bounded = none_first (limit_fault limits ss s) _ once.1 in
    let processes = passed (is_proc s && nat_le 64 (length (filter is_proc ss))) TooManyProcs _ bounded.0 in
    let operations = passed (is_operation s && nat_le (max_operations limits) (length (filter is_operation ss))) TooManyOps _ processes.1 in
    let before = passed (is_before s && nat_le (max_pairs limits) (length (filter is_before ss))) TooManyBefore None operations.1 in
    let locations = passed (is_location_too_many limits ss (location_named s)) TooManyLocations None bounded.1 in
    record {
      inside = inside.0;
      named = not-false (list_all is_name (names_of s)) named.0;
      numbered = not-false (has_numbers limits s) numbered.0;
      once = once.0;
      few_processes = processes.0;
      few_operations = operations.0;
      few_before = before.0;
      few_locations = locations.0;
    }

-- there are few with one more
few_by : {A : Type 0} (xs : List A) (x : A) (n : ℕ) (b : Bool) → (b && nat_le n (length xs)) ≡ false → length xs ≤ n → length (xs ++ cond b (x ∷ []) []) ≤ n
few_by xs x n true h few = let less = leb-false n (length xs) h in omega (arith, less, length-append xs (x ∷ []))
few_by xs x n false h few = omega (arith, few, ap length (append-nil xs))

few_more : (p : Statement → Bool) (ss : List Statement) (s : Statement) (n : ℕ) → (p s && nat_le n (length (filter p ss))) ≡ false → length (filter p ss) ≤ n → length (filter p (ss ++ s ∷ [])) ≤ n
few_more p ss s n h few = omega (arith, few_by (filter p ss) s n (p s) h few, ap length (filter-append p ss (s ∷ [])))

located_by : (most n : ℕ) (b : Bool) → (not b && nat_le most n) ≡ false → n ≤ most → (if not b then n + 1 else n) ≤ most
located_by most n true h few = few
located_by most n false h few = let less = leb-false most n h in omega (arith, less)

located : (limits : Limits) (ss : List Statement) (o : Option (List ℕ)) → is_location_too_many limits ss o ≡ false → length (distinct (filter_map location_named ss)) ≤ max_locations limits → length (distinct (filter_map location_named ss ++ cons_option o [])) ≤ max_locations limits
located limits ss None h few = omega (arith, few, ap (λ l. length (distinct l)) (append-nil (filter_map location_named ss)))
located limits ss (Some a) h few =
    omega (arith, located_by (max_locations limits) (length (distinct (filter_map location_named ss))) (holds_name (filter_map location_named ss) a) h few, distinct_push (filter_map location_named ss) a)

-- an operation has a process
of_process : (s : Statement) → is_proc s ≡ true → is_of_process s ≡ true
of_process s h = ap (λ b. b || is_operation s) h

some_process : (ss : List Statement) (ps : List Process) → filter is_of_process ss ≡ flat_map process_statements ps → list_any is_proc ss ≡ true → 0 < length ps
some_process ss [] e h =
    let at = some_passes is_proc ss h in
    absurd (none_in at.0 (subst (λ (l : List Statement). Contains l at.0) e (to_filter is_of_process ss at.0 (of_process at.0 at.2) at.1)))
some_process ss (p ∷ ps) e h = omega arith

-- what is gathered, with an entry
abbrev with_entry : TraceValue → Entry → TraceValue
with_entry u e = record { processes = processes_with u.processes e; initial = initial_with u.initial e; final_values = final_with u.final_values e; before = before_with u.before e }

one_more : (limits : Limits) (ss : List Statement) (u : TraceValue) (e : Entry) → AreGathered limits ss u → IsFine limits ss (statement_for e) → entry_fits e ≡ true → AreGathered limits (ss ++ statement_for e ∷ []) (with_entry u e)
one_more limits ss u e g f fits = record {
  processes = processes_push ss e u.processes (λ o. some_process ss u.processes g.processes (never_without (is_operation (statement_for e)) (list_any is_proc ss) f.inside o)) g.processes;
  initial = initial_push ss e u.initial g.initial;
  final_values = final_push ss e u.final_values g.final_values;
  before = before_push ss e u.before g.before;
  processes_apart = processes_apart ss e u.processes f.once g.processes g.processes_apart;
  initial_apart = initial_apart ss e u.initial f.once g.initial g.initial_apart;
  finals_apart = final_apart ss e u.final_values f.once g.final_values g.finals_apart;
  written = record {
    processes = processes_written e u.processes f.named fits g.written.processes;
    initial = initial_written e u.initial f.named fits g.written.initial;
    final_values = final_written e u.final_values f.named fits g.written.final_values;
    before = before_written e u.before f.named fits g.written.before;
  };
  few_processes = few_more is_proc ss (statement_for e) 64 f.few_processes g.few_processes;
  few_operations = few_more is_operation ss (statement_for e) (max_operations limits) f.few_operations g.few_operations;
  few_before = few_more is_before ss (statement_for e) (max_pairs limits) f.few_before g.few_before;
  few_locations = omega (arith, located limits ss (location_named (statement_for e)) f.few_locations g.few_locations, ap (λ l. length (distinct l)) (filter_map-append location_named ss (statement_for e ∷ [])));
}

-- what is gathered of these statements
pub record Gathers (limits : Limits) (ss : List Statement) : Type 0 where
  pub value : TraceValue
  pub gathered : AreGathered limits ss value

one_statement : (limits : Limits) (ss : List Statement) (s : Statement) → Gathers limits ss → statement_fault limits ss s ≡ None → Gathers limits (ss ++ s ∷ [])
one_statement limits ss s g h =
    let f = fine limits ss s h in
    let e = entry_of limits s f.numbered in
    let pushed = one_more limits ss g.value e.entry g.gathered (subst (λ (t : Statement). IsFine limits ss t) (sym e.says) f) e.in_range in
    record { value = with_entry g.value e.entry; gathered = subst (λ (t : Statement). AreGathered limits (ss ++ t ∷ []) (with_entry g.value e.entry)) e.says pushed }

gather_from : (limits : Limits) (done rest : List Statement) → Gathers limits done → IsFaultless (statement_fault limits) (done ++ rest) → Gathers limits (done ++ rest)
gather_from limits done [] g h = subst (λ (l : List Statement). Gathers limits l) (sym (append-nil done)) g
gather_from limits done (s ∷ rest) g h =
    let joined : (done ++ s ∷ []) ++ rest ≡ done ++ s ∷ rest = append_assoc done (s ∷ []) rest in
    subst (λ (l : List Statement). Gathers limits l) joined
    (gather_from limits (done ++ s ∷ []) rest (one_statement limits done s g (h done s rest refl)) (subst (λ (l : List Statement). IsFaultless (statement_fault limits) l) (sym joined) h))

pub gather : (limits : Limits) (ss : List Statement) → IsFaultless (statement_fault limits) ss → Gathers limits ss
gather limits ss h = gather_from limits [] ss (record {
  value = record { processes = []; initial = []; final_values = []; before = [] };
  gathered = record {
    processes = refl;
    initial = refl;
    final_values = refl;
    before = refl;
    processes_apart = λ i j d b l. absurd (omega (arith, l));
    initial_apart = λ i j d b l. absurd (omega (arith, l));
    finals_apart = λ i j d b l. absurd (omega (arith, l));
    written = record { processes = refl; initial = refl; final_values = refl; before = refl };
    few_processes = omega arith;
    few_operations = omega arith;
    few_before = omega arith;
    few_locations = omega arith;
  };
}) h
