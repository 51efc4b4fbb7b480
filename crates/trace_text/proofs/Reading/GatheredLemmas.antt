-- One more entry of a trace.
use Rattle.std.proofs.Common.{◌≡◌, ◌≢◌, ℕ, ◌<◌, List, [], ◌∷◌, ◌++◌, length, get_or, map, Bool, true, false, cond, ◌||◌, refl, ap, sym, ◌∙◌, append_assoc, append-nil, length-append, arith, rules, subst}
use Rattle.std.specs.Prelude.{Option, Some, None, IsSome, is_some}
use Rattle.std.specs.Fmt.{decimal}
use Rattle.std.specs.List.{Contains, AllPairs, filter, flat_map, list_any}
use Rattle.std.proofs.lemmas.Grind.{flat_map-append}
use Rattle.std.proofs.lemmas.List.{length-map, get_or-map, map-append}
use Rattle.std.proofs.lemmas.List.Elements.{filter-append, Contains-get_or}
use Rattle.std.proofs.lemmas.List.Quantifiers.{all_pairs_push}
use Rattle.std.proofs.lemmas.Slice.Eq.{bytes_eq-Decides}
use Rattle.trace_text.specs.declared.entry.Entry.{Entry}
use Rattle.trace_text.specs.declared.entry.Entry.TheVariants.{Initial as InitialEntry, Final as FinalEntry, Process as ProcessEntry, Operation as OperationEntry, Before as BeforeEntry}
use Rattle.trace_text.specs.declared.trace_builder.TraceBuilder.{TraceBuilder}
use Rattle.trace_text.specs.declared.trace_builder.OpenProcess.{OpenProcess}
use Rattle.trace_semantics.specs.declared.operation.Op.{Op}
use Rattle.trace_semantics.specs.declared.operation.Op.TheVariants.{Read as ReadOp, Write as WriteOp, Update as UpdateOp}
use Rattle.trace_semantics.specs.declared.operation.OpName.{OpName}
use Rattle.trace_semantics.specs.declared.trace.Process.{Process}
use Rattle.trace_text.specs.Entry.{op_statement, init_statement, final_statement, before_statement, statement_for}
use Rattle.trace_text.specs.Gathered.{with_operation, open_process, processes_of, processes_with, initial_with, final_with, before_with, is_process_entry, is_init, is_final, is_of_process, process_statements, Adds, IsGathered}
use Rattle.trace_text.specs.Progress.{IsDistinct}
use Rattle.trace_text.specs.Statement.{Statement, Init, Final, Proc}
use Rattle.trace_semantics.specs.Trace.{IsOneEach}
use Rattle.trace_text.specs.TraceFault.{is_proc, is_operation, is_before, repeats}
use Rattle.trace_semantics.proofs.ElementLemmas.{head_in, from_filter, to_map, to_flat_map, passes_some}
use Rattle.trace_text.proofs.Reading.SeenLemmas.{any_push}

-- the last process gets the operation
pub with_operation-append : (ps : List Process) (p : Process) (op : Op) → with_operation (ps ++ p ∷ []) op ≡ ps ++ with_operation (p ∷ []) op
with_operation-append [] p op = refl
with_operation-append (q ∷ []) p op = refl
with_operation-append (q ∷ r ∷ ps) p op = ap (λ t. q ∷ t) (with_operation-append (r ∷ ps) p op)

pub with_operation-open : (ps : List Process) (last : Option OpenProcess) (op : Op) → IsSome last → with_operation (ps ++ open_process last) op ≡ ps ++ with_operation (open_process last) op
with_operation-open ps None op h = absurd (search rules)
with_operation-open ps (Some p) op h = with_operation-append ps (record { name = p.name; operations = p.ops.items }) op

-- a process has begun where one is open
pub open_some : (ps : List Process) (o : Option OpenProcess) → is_some o ≡ true → 0 < length (ps ++ open_process o)
open_some ps None h = absurd (cc)
open_some ps (Some p) h = omega (arith, length-append ps (open_process (Some p)))

-- the lines of the processes, with one more operation of the last
flat_with : (ps : List Process) (op : Op) → 0 < length ps → flat_map process_statements (with_operation ps op) ≡ flat_map process_statements ps ++ op_statement op ∷ []
flat_with [] op l = absurd (omega (arith, l))
flat_with (p ∷ []) op l = ap (λ t. Proc p.name ∷ t) (append-nil (map op_statement (p.operations ++ op ∷ [])) ∙ map-append op_statement p.operations (op ∷ []) ∙ ap (λ t. t ++ op_statement op ∷ []) (sym (append-nil (map op_statement p.operations))))
flat_with (p ∷ q ∷ ps) op l = ap (λ t. process_statements p ++ t) (flat_with (q ∷ ps) op (omega arith)) ∙ sym (append_assoc (process_statements p) (flat_map process_statements (q ∷ ps)) (op_statement op ∷ []))

-- a statement that passes, and one that does not
kept_push : {A : Type 0} (p : A → Bool) (xs ys : List A) (x : A) (b : Bool) → p x ≡ b → filter p xs ≡ ys → filter p (xs ++ x ∷ []) ≡ ys ++ cond b (x ∷ []) []
kept_push p xs ys x b h e = filter-append p xs (x ∷ []) ∙ (λ i. e i ++ cond (h i) (x ∷ []) [])

passed_push : {A : Type 0} (p : A → Bool) (xs ys : List A) (x : A) → p x ≡ true → filter p xs ≡ ys → filter p (xs ++ x ∷ []) ≡ ys ++ x ∷ []
passed_push p xs ys x h e = kept_push p xs ys x true h e

dropped_push : {A : Type 0} (p : A → Bool) (xs ys : List A) (x : A) → p x ≡ false → filter p xs ≡ ys → filter p (xs ++ x ∷ []) ≡ ys
dropped_push p xs ys x h e = kept_push p xs ys x false h e ∙ append-nil ys

mapped_push : {A B : Type 0} (p : A → Bool) (f : B → A) (xs : List A) (ys : List B) (y : B) → p (f y) ≡ true → filter p xs ≡ map f ys → filter p (xs ++ f y ∷ []) ≡ map f (ys ++ y ∷ [])
mapped_push p f xs ys y h e = passed_push p xs (map f ys) (f y) h e ∙ sym (map-append f ys (y ∷ []))

-- the kind of what an operation says
pub record IsOfOperation (s : Statement) : Type 0 where
  pub of_process : is_of_process s ≡ true
  pub no_init : is_init s ≡ false
  pub no_final : is_final s ≡ false
  pub no_before : is_before s ≡ false
  pub no_proc : is_proc s ≡ false
  pub operation : is_operation s ≡ true

pub op_kind : (op : Op) → IsOfOperation (op_statement op)
op_kind (ReadOp a d o span) = record { of_process = refl; no_init = refl; no_final = refl; no_before = refl; no_proc = refl; operation = refl }
op_kind (WriteOp a d span) = record { of_process = refl; no_init = refl; no_final = refl; no_before = refl; no_proc = refl; operation = refl }
op_kind (UpdateOp a d e o span) = record { of_process = refl; no_init = refl; no_final = refl; no_before = refl; no_proc = refl; operation = refl }

pub processes_push : (ss : List Statement) (e : Entry) (ps : List Process) → (is_operation (statement_for e) ≡ true → 0 < length ps) → filter is_of_process ss ≡ flat_map process_statements ps → filter is_of_process (ss ++ statement_for e ∷ []) ≡ flat_map process_statements (processes_with ps e)
processes_push ss (InitialEntry a d) ps l h = dropped_push is_of_process ss (flat_map process_statements ps) (Init a (decimal d)) refl h
processes_push ss (FinalEntry a d) ps l h = dropped_push is_of_process ss (flat_map process_statements ps) (Final a (decimal d)) refl h
processes_push ss (ProcessEntry name) ps l h = passed_push is_of_process ss (flat_map process_statements ps) (Proc name) refl h ∙ sym (flat_map-append process_statements ps (record { name = name; operations = [] } ∷ []))
processes_push ss (OperationEntry op) ps l h = passed_push is_of_process ss (flat_map process_statements ps) (op_statement op) (op_kind op).of_process h ∙ sym (flat_with ps op (l (op_kind op).operation))
processes_push ss (BeforeEntry m n) ps l h = dropped_push is_of_process ss (flat_map process_statements ps) (before_statement (m, n)) refl h

pub initial_push : (ss : List Statement) (e : Entry) (xs : List (List ℕ × ℕ)) → filter is_init ss ≡ map init_statement xs → filter is_init (ss ++ statement_for e ∷ []) ≡ map init_statement (initial_with xs e)
initial_push ss (InitialEntry a d) xs h = mapped_push is_init init_statement ss xs (a, d) refl h
initial_push ss (FinalEntry a d) xs h = dropped_push is_init ss (map init_statement xs) (Final a (decimal d)) refl h
initial_push ss (ProcessEntry name) xs h = dropped_push is_init ss (map init_statement xs) (Proc name) refl h
initial_push ss (OperationEntry op) xs h = dropped_push is_init ss (map init_statement xs) (op_statement op) (op_kind op).no_init h
initial_push ss (BeforeEntry m n) xs h = dropped_push is_init ss (map init_statement xs) (before_statement (m, n)) refl h

pub final_push : (ss : List Statement) (e : Entry) (xs : List (List ℕ × ℕ)) → filter is_final ss ≡ map final_statement xs → filter is_final (ss ++ statement_for e ∷ []) ≡ map final_statement (final_with xs e)
final_push ss (InitialEntry a d) xs h = dropped_push is_final ss (map final_statement xs) (Init a (decimal d)) refl h
final_push ss (FinalEntry a d) xs h = mapped_push is_final final_statement ss xs (a, d) refl h
final_push ss (ProcessEntry name) xs h = dropped_push is_final ss (map final_statement xs) (Proc name) refl h
final_push ss (OperationEntry op) xs h = dropped_push is_final ss (map final_statement xs) (op_statement op) (op_kind op).no_final h
final_push ss (BeforeEntry m n) xs h = dropped_push is_final ss (map final_statement xs) (before_statement (m, n)) refl h

pub before_push : (ss : List Statement) (e : Entry) (xs : List (OpName × OpName)) → filter is_before ss ≡ map before_statement xs → filter is_before (ss ++ statement_for e ∷ []) ≡ map before_statement (before_with xs e)
before_push ss (InitialEntry a d) xs h = dropped_push is_before ss (map before_statement xs) (Init a (decimal d)) refl h
before_push ss (FinalEntry a d) xs h = dropped_push is_before ss (map before_statement xs) (Final a (decimal d)) refl h
before_push ss (ProcessEntry name) xs h = dropped_push is_before ss (map before_statement xs) (Proc name) refl h
before_push ss (OperationEntry op) xs h = dropped_push is_before ss (map before_statement xs) (op_statement op) (op_kind op).no_before h
before_push ss (BeforeEntry m n) xs h = mapped_push is_before before_statement ss xs (m, n) refl h

-- one more entry
pub gathered_more : (ss : List Statement) (e : Entry) (old new : TraceBuilder) → (is_operation (statement_for e) ≡ true → IsSome old.last) → IsGathered ss old → Adds old new e → IsGathered (ss ++ statement_for e ∷ []) new
gathered_more ss e old new l h a = record {
  processes = processes_push ss e (processes_of old) (λ o. open_some old.closed.items old.last (l o)) h.processes ∙ ap (flat_map process_statements) (sym a.processes);
  initial = initial_push ss e old.initial.items h.initial ∙ ap (map init_statement) (sym a.initial);
  final_values = final_push ss e old.final_values.items h.final_values ∙ ap (map final_statement) (sym a.final_values);
  before = before_push ss e old.before.items h.before ∙ ap (map before_statement) (sym a.before);
}

entry_kind : (e : Entry) → is_process_entry e ≡ is_proc (statement_for e)
entry_kind (InitialEntry a d) = refl
entry_kind (FinalEntry a d) = refl
entry_kind (ProcessEntry name) = refl
entry_kind (OperationEntry op) = sym (op_kind op).no_proc
entry_kind (BeforeEntry m n) = refl

pub begun_more : (ss : List Statement) (e : Entry) (old new : TraceBuilder) → list_any is_proc ss ≡ is_some old.last → Adds old new e → list_any is_proc (ss ++ statement_for e ∷ []) ≡ is_some new.last
begun_more ss e old new h a = sym (any_push is_proc ss (statement_for e) (is_some new.last) (is_some old.last) (a.begun ∙ ap (λ b. b || is_some old.last) (entry_kind e)) (sym h))

-- a statement that none before repeats
unrepeated : (ss : List Statement) (s t : Statement) → list_any (repeats s) ss ≡ false → Contains ss t → repeats s t ≡ true → ⊥
unrepeated ss s t h c r = let clash : true ≡ false = sym (passes_some (repeats s) ss t c r) ∙ h in cc

names_with : (ps : List Process) (op : Op) → map (λ (p : Process). p.name) (with_operation ps op) ≡ map (λ (p : Process). p.name) ps
names_with [] op = refl
names_with (p ∷ []) op = refl
names_with (p ∷ q ∷ ps) op = ap (λ t. p.name ∷ t) (names_with (q ∷ ps) op)

distinct_by_names : (ps qs : List Process) → map (λ (p : Process). p.name) ps ≡ map (λ (p : Process). p.name) qs → AllPairs (λ (p q : Process). p.name ≢ q.name) qs → AllPairs (λ (p q : Process). p.name ≢ q.name) ps
distinct_by_names ps qs e apart i j d before l same =
    let long : length ps ≡ length qs = omega (arith, ap length e, length-map ps (λ (p : Process). p.name), length-map qs (λ (p : Process). p.name)) in
    let at : (k : ℕ) → k < length ps → (get_or ps k d).name ≡ (get_or qs k d).name = λ (k : ℕ) (m : k < length ps).
    sym (get_or-map (λ (p : Process). p.name) ps k d d.name m) ∙ ap (λ t. get_or t k d.name) e ∙ get_or-map (λ (p : Process). p.name) qs k d d.name (omega (arith, m, long)) in
    apart i j d before (omega (arith, l, long)) (sym (at i (omega (arith, before, l))) ∙ same ∙ at j l)

pub processes_apart : (ss : List Statement) (e : Entry) (ps : List Process) → list_any (repeats (statement_for e)) ss ≡ false → filter is_of_process ss ≡ flat_map process_statements ps → AllPairs (λ (p q : Process). p.name ≢ q.name) ps → AllPairs (λ (p q : Process). p.name ≢ q.name) (processes_with ps e)
processes_apart ss (InitialEntry a d) ps n h apart = apart
processes_apart ss (FinalEntry a d) ps n h apart = apart
processes_apart ss (ProcessEntry name) ps n h apart = all_pairs_push (λ (p q : Process). p.name ≢ q.name) ps (record { name = name; operations = [] }) apart
    (λ (k : ℕ) (d : Process) (l : k < length ps) (same : (get_or ps k d).name ≡ name).
    let p : Process = get_or ps k d in
    let listed : Contains (flat_map process_statements ps) (Proc p.name) = to_flat_map process_statements ps p (Proc p.name) (Contains-get_or ps k d l) (head_in (Proc p.name) (map op_statement p.operations)) in
    let there : Contains ss (Proc p.name) = (from_filter is_of_process ss (Proc p.name) (subst (λ (l : List Statement). Contains l (Proc p.name)) (sym h) listed)).0 in
    unrepeated ss (Proc name) (Proc p.name) n there ((bytes_eq-Decides p.name name).1 same))
processes_apart ss (OperationEntry op) ps n h apart = distinct_by_names (with_operation ps op) ps (names_with ps op) apart
processes_apart ss (BeforeEntry m o) ps n h apart = apart

values_apart : (ss : List Statement) (p : Statement → Bool) (f : List ℕ × ℕ → Statement) (xs : List (List ℕ × ℕ)) (a : List ℕ) (d : ℕ) → ((x : List ℕ × ℕ) → x.0 ≡ a → repeats (f (a, d)) (f x) ≡ true) →
    list_any (repeats (f (a, d))) ss ≡ false → filter p ss ≡ map f xs → IsOneEach xs → IsOneEach (xs ++ (a, d) ∷ [])
values_apart ss p f xs a d r n h apart = all_pairs_push (λ (x y : List ℕ × ℕ). x.0 ≢ y.0) xs (a, d) apart
    (λ (k : ℕ) (e : List ℕ × ℕ) (l : k < length xs) (same : (get_or xs k e).0 ≡ a).
    let x : List ℕ × ℕ = get_or xs k e in
    let listed : Contains (map f xs) (f x) = to_map f xs x (Contains-get_or xs k e l) in
    let there : Contains ss (f x) = (from_filter p ss (f x) (subst (λ (l : List Statement). Contains l (f x)) (sym h) listed)).0 in
    unrepeated ss (f (a, d)) (f x) n there (r x same))

pub initial_apart : (ss : List Statement) (e : Entry) (xs : List (List ℕ × ℕ)) → list_any (repeats (statement_for e)) ss ≡ false → filter is_init ss ≡ map init_statement xs → IsOneEach xs → IsOneEach (initial_with xs e)
initial_apart ss (InitialEntry a d) xs n h apart = values_apart ss is_init init_statement xs a d (λ x same. (bytes_eq-Decides x.0 a).1 same) n h apart
initial_apart ss (FinalEntry a d) xs n h apart = apart
initial_apart ss (ProcessEntry name) xs n h apart = apart
initial_apart ss (OperationEntry op) xs n h apart = apart
initial_apart ss (BeforeEntry m o) xs n h apart = apart

pub final_apart : (ss : List Statement) (e : Entry) (xs : List (List ℕ × ℕ)) → list_any (repeats (statement_for e)) ss ≡ false → filter is_final ss ≡ map final_statement xs → IsOneEach xs → IsOneEach (final_with xs e)
final_apart ss (InitialEntry a d) xs n h apart = apart
final_apart ss (FinalEntry a d) xs n h apart = values_apart ss is_final final_statement xs a d (λ x same. (bytes_eq-Decides x.0 a).1 same) n h apart
final_apart ss (ProcessEntry name) xs n h apart = apart
final_apart ss (OperationEntry op) xs n h apart = apart
final_apart ss (BeforeEntry m o) xs n h apart = apart

pub distinct_more : (ss : List Statement) (e : Entry) (old new : TraceBuilder) → list_any (repeats (statement_for e)) ss ≡ false → IsGathered ss old → IsDistinct old → Adds old new e → IsDistinct new
distinct_more ss e old new n h d a = record {
  processes = subst (λ l. AllPairs (λ (p q : Process). p.name ≢ q.name) l) (sym a.processes) (processes_apart ss e (processes_of old) n h.processes d.processes);
  initial = subst (λ (l : List (List ℕ × ℕ)). IsOneEach l) (sym a.initial) (initial_apart ss e old.initial.items n h.initial d.initial);
  final_values = subst (λ (l : List (List ℕ × ℕ)). IsOneEach l) (sym a.final_values) (final_apart ss e old.final_values.items n h.final_values d.final_values);
}
