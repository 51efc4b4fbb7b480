-- What the lines of a text that spells a trace say: each is of an entry of the trace.
use Rattle.std.proofs.Common.{◌≡◌, ℕ, List, [], ◌∷◌, length, map, Bool, true, false, not, ◌||◌, codes, refl, inl, inr, ap, sym, ◌∙◌, subst, arith}
use Rattle.std.specs.Prelude.{Option, Some, None, ◌==◌, if◌then◌else◌}
use Rattle.std.specs.List.{Contains, filter, flat_map, list_any, list_all}
use Rattle.std.specs.List.Sorted.{IsPermutation}
use Rattle.std.proofs.lemmas.Bool.{and_parts, or_parts, or_cases, cases_Bool, not_from_false, ne_eqb}
use Rattle.std.proofs.lemmas.List.Sorted.{Contains-permutation, IsPermutation-sym}
use Rattle.trace_text.specs.declared.entry.Entry.{Entry}
use Rattle.trace_text.specs.declared.entry.Entry.TheVariants.{Initial as InitialEntry, Final as FinalEntry, Process as ProcessEntry, Operation as OperationEntry, Before as BeforeEntry}
use Rattle.trace_semantics.specs.declared.operation.Op.{Op}
use Rattle.trace_semantics.specs.declared.operation.Op.TheVariants.{Read as ReadOp, Write as WriteOp, Update as UpdateOp}
use Rattle.trace_semantics.specs.declared.operation.OpName.{OpName}
use Rattle.trace_semantics.specs.declared.operation.Origin.TheVariants.{Any, Initial, Operation}
use Rattle.trace_semantics.specs.declared.trace.Process.{Process}
use Rattle.trace_semantics.specs.KnownOrder.{has_span, says_times}
use Rattle.trace_text.specs.Entry.{op_statement, statement_for}
use Rattle.trace_semantics.specs.Names.{is_name}
use Rattle.trace_text.specs.Statement.{Statement, words_for, untimed_statement, timed_statement, first_said, statement_of}
use Rattle.trace_semantics.specs.Trace.{TraceValue, IsWritten, is_written_value, is_written_op, is_written_process, is_written_pair}
use Rattle.trace_text.specs.TraceText.{SpellsTrace, init_line, final_line, proc_line, op_line, process_lines, before_line, begins, is_process_line, has_origin, needs_version_2}
use Rattle.trace_semantics.proofs.ElementLemmas.{head_in, tail_in, none_in, cases_in, all_pass, passes_some, from_map, to_filter, from_flat_map}
use Rattle.trace_text.specs.declared.version.Version.{Version}
use Rattle.trace_text.specs.declared.version.Version.TheVariants.{One, Two, Three}
use Rattle.trace_text.specs.Version.{has_version_2_lines, has_times}
use Rattle.trace_text.proofs.LineWords.SpellLemmas.{op_words, timed_apart}
use Rattle.trace_text.proofs.Writing.WritableLemmas.{is_writable}

-- the trace has the entry
abbrev pub Has : TraceValue → Entry → Type 0
Has t (InitialEntry location value) = Contains t.initial (location, value)
Has t (FinalEntry location value) = Contains t.final_values (location, value)
Has t (ProcessEntry name) = (p : Process) × Contains t.processes p × (p.name ≡ name)
Has t (OperationEntry op) = (p : Process) × Contains t.processes p × Contains p.operations op
Has t (BeforeEntry first second) = Contains t.before (first, second)

-- an entry of a trace can be written
pub has_writable : (t : TraceValue) (e : Entry) → IsWritten t → Has t e → is_writable e ≡ true
has_writable t (InitialEntry a d) w h = all_pass is_written_value t.initial w.initial (a, d) h
has_writable t (FinalEntry a d) w h = all_pass is_written_value t.final_values w.final_values (a, d) h
has_writable t (ProcessEntry name) w h = ap is_name (sym h.2) ∙ (and_parts (is_name h.0.name) (list_all is_written_op h.0.operations) (all_pass is_written_process t.processes w.processes h.0 h.1)).0
has_writable t (OperationEntry op) w h = all_pass is_written_op h.0.operations (and_parts (is_name h.0.name) (list_all is_written_op h.0.operations) (all_pass is_written_process t.processes w.processes h.0 h.1)).1 op h.2
has_writable t (BeforeEntry m n) w h = all_pass is_written_pair t.before w.before (m, n) h

-- the words are those of an entry of the trace
pub record Tells (t : TraceValue) (words : List (List ℕ)) : Type 0 where
  pub entry : Entry
  pub is_had : Has t entry
  pub words_are : words ≡ words_for (statement_for entry)

tells_process : (t : TraceValue) (words : List (List ℕ)) → Contains (flat_map process_lines t.processes) words → Tells t words
tells_process t words c =
    let at = from_flat_map process_lines t.processes words c in
    elim (cases_in (proc_line at.0.name) (map op_line at.0.operations) words at.2) [
      | inl e ↦ record { entry = ProcessEntry at.0.name; is_had = (at.0, at.1, refl); words_are = sym e }
      | inr d ↦ (let op = from_map op_line at.0.operations words d in
          record { entry = OperationEntry op.0; is_had = (at.0, at.1, op.1); words_are = sym op.2 ∙ sym (op_words op.0) })
    ]

tells_value : (t : TraceValue) (words : List (List ℕ)) (body : List (List (List ℕ))) → IsPermutation (map init_line t.initial) (filter (begins (codes "init")) body) → begins (codes "init") words ≡ true → Contains body words → Tells t words
tells_value t words body p b c =
    let there = Contains-permutation (filter (begins (codes "init")) body) (map init_line t.initial) words (IsPermutation-sym (map init_line t.initial) (filter (begins (codes "init")) body) p) (to_filter (begins (codes "init")) body words b c) in
    let at = from_map init_line t.initial words there in
    record { entry = InitialEntry at.0.0 at.0.1; is_had = at.1; words_are = sym at.2 }

tells_final : (t : TraceValue) (words : List (List ℕ)) (body : List (List (List ℕ))) → IsPermutation (map final_line t.final_values) (filter (begins (codes "final")) body) → begins (codes "final") words ≡ true → Contains body words → Tells t words
tells_final t words body p b c =
    let there = Contains-permutation (filter (begins (codes "final")) body) (map final_line t.final_values) words (IsPermutation-sym (map final_line t.final_values) (filter (begins (codes "final")) body) p) (to_filter (begins (codes "final")) body words b c) in
    let at = from_map final_line t.final_values words there in
    record { entry = FinalEntry at.0.0 at.0.1; is_had = at.1; words_are = sym at.2 }

tells_before : (t : TraceValue) (words : List (List ℕ)) → Contains (map before_line t.before) words → Tells t words
tells_before t words c =
    let at = from_map before_line t.before words c in
    record { entry = BeforeEntry at.0.0 at.0.1; is_had = at.1; words_are = sym at.2 }

-- each line of the body is of an entry of the trace
pub line_tells : (text : List ℕ) (t : TraceValue) (h : SpellsTrace text t) (words : List (List ℕ)) → Contains h.body words → Tells t words
line_tells text t h words c =
    elim (cases_Bool (begins (codes "init") words || begins (codes "final") words || begins (codes "before") words)) [
      | inr none ↦ tells_process t words (subst (λ (l : List (List (List ℕ))). Contains l words) h.processes (to_filter is_process_line h.body words (not_from_false _ none) c))
      | inl some ↦ elim (or_cases (begins (codes "init") words || begins (codes "final") words) (begins (codes "before") words) some) [
        | inr before ↦ tells_before t words ((h.before words).0 (to_filter (begins (codes "before")) h.body words before c))
        | inl value ↦ elim (or_cases (begins (codes "init") words) (begins (codes "final") words) value) [
          | inl first ↦ tells_value t words h.body h.initial first c
          | inr last ↦ tells_final t words h.body h.final_values last c
        ]
      ]
    ]

-- lines of entries of the trace
pub record AreTold (t : TraceValue) (body : List (List (List ℕ))) : Type 0 where
  pub entries : List Entry
  pub are_had : (e : Entry) → Contains entries e → Has t e
  pub words : body ≡ map words_for (map statement_for entries)

pub are_told : (t : TraceValue) (body : List (List (List ℕ))) → ((words : List (List ℕ)) → Contains body words → Tells t words) → AreTold t body
are_told t [] each = record { entries = []; are_had = λ e c. absurd (none_in e c); words = refl }
are_told t (words ∷ body) each =
    let here = each words (head_in words body) in
    let more = are_told t body (λ ws c. each ws (tail_in words body ws c)) in
    record {
      entries = here.entry ∷ more.entries;
      are_had = λ e c. elim (cases_in here.entry more.entries e c) [
        | inl same ↦ subst (λ (x : Entry). Has t x) same here.is_had
        | inr d ↦ more.are_had e d
      ];
      words = λ i. here.words_are i ∷ more.words i;
    }

-- only version 2 has a line of it
abbrev pub needs_two : Entry → Bool
needs_two (InitialEntry location value) = false
needs_two (FinalEntry location value) = false
needs_two (ProcessEntry name) = false
needs_two (OperationEntry op) = has_origin op
needs_two (BeforeEntry first second) = true

-- and only version 3 of it
abbrev pub needs_times : Entry → Bool
needs_times (InitialEntry location value) = false
needs_times (FinalEntry location value) = false
needs_times (ProcessEntry name) = false
needs_times (OperationEntry op) = has_span op
needs_times (BeforeEntry first second) = false

said_untimed : (two : Bool) (op : Op) → (two ≡ false → has_origin op ≡ false) → has_span op ≡ false → untimed_statement two (words_for (op_statement op)) ≡ Some (op_statement op)
said_untimed two (ReadOp a d o (Some span)) h k = absurd (cc)
said_untimed true (ReadOp a d Any None) h k = refl
said_untimed true (ReadOp a d Initial None) h k = refl
said_untimed true (ReadOp a d (Operation n) None) h k = refl
said_untimed false (ReadOp a d Any None) h k = refl
said_untimed false (ReadOp a d Initial None) h k = absurd (let clash : true ≡ false = h refl in cc)
said_untimed false (ReadOp a d (Operation n) None) h k = absurd (let clash : true ≡ false = h refl in cc)
said_untimed two (WriteOp a d (Some span)) h k = absurd (cc)
said_untimed two (WriteOp a d None) h k = refl
said_untimed two (UpdateOp a d e o (Some span)) h k = absurd (cc)
said_untimed true (UpdateOp a d e Any None) h k = refl
said_untimed true (UpdateOp a d e Initial None) h k = refl
said_untimed true (UpdateOp a d e (Operation n) None) h k = refl
said_untimed false (UpdateOp a d e Any None) h k = refl
said_untimed false (UpdateOp a d e Initial None) h k = absurd (let clash : true ≡ false = h refl in cc)
said_untimed false (UpdateOp a d e (Operation n) None) h k = absurd (let clash : true ≡ false = h refl in cc)

said_timed : (op : Op) → has_span op ≡ true → timed_statement (words_for (op_statement op)) ≡ Some (op_statement op)
said_timed (ReadOp a d o None) k = absurd (cc)
said_timed (ReadOp a d Any (Some span)) k = refl
said_timed (ReadOp a d Initial (Some span)) k = refl
said_timed (ReadOp a d (Operation n) (Some span)) k = refl
said_timed (WriteOp a d None) k = absurd (cc)
said_timed (WriteOp a d (Some span)) k = refl
said_timed (UpdateOp a d e o None) k = absurd (cc)
said_timed (UpdateOp a d e Any (Some span)) k = refl
said_timed (UpdateOp a d e Initial (Some span)) k = refl
said_timed (UpdateOp a d e (Operation n) (Some span)) k = refl

second_said : (o p : Option Statement) (s : Statement) (b : Bool) → o ≡ None → p ≡ Some s → b ≡ true → first_said o (if b then p else None) ≡ Some s
second_said o p s true none there h = (λ i. first_said (none i) (there i))
second_said o p s false none there h = absurd (cc)

said_op : (version : Version) (op : Op) (b : Bool) → has_span op ≡ b → (has_version_2_lines version ≡ false → has_origin op ≡ false) → (has_times version ≡ false → has_span op ≡ false) → statement_of version (words_for (op_statement op)) ≡ Some (op_statement op)
said_op version op false span origins spans =
    ap (λ o. first_said o (if has_times version then timed_statement (words_for (op_statement op)) else None)) (said_untimed (has_version_2_lines version) op origins span)
said_op version op true span origins spans =
    second_said (untimed_statement (has_version_2_lines version) (words_for (op_statement op))) (timed_statement (words_for (op_statement op))) (op_statement op) (has_times version)
    (timed_apart (has_version_2_lines version) op span) (said_timed op span) (shown (has_times version) spans)
  where
    shown : (b : Bool) → (b ≡ false → has_span op ≡ false) → b ≡ true
    shown true h = refl
    shown false h = absurd (let clash : true ≡ false = sym span ∙ h refl in cc)

said_pair : (version : Version) (m n : OpName) → (has_version_2_lines version ≡ false → true ≡ false) → statement_of version (words_for (statement_for (BeforeEntry m n))) ≡ Some (statement_for (BeforeEntry m n))
said_pair One m n h = absurd (let clash : true ≡ false = h refl in cc)
said_pair Two m n h = refl
said_pair Three m n h = refl

-- the words of an entry say it
said_entry : (version : Version) (e : Entry) → (has_version_2_lines version ≡ false → needs_two e ≡ false) → (has_times version ≡ false → needs_times e ≡ false) → statement_of version (words_for (statement_for e)) ≡ Some (statement_for e)
said_entry version (InitialEntry a d) h k = refl
said_entry version (FinalEntry a d) h k = refl
said_entry version (ProcessEntry name) h k = refl
said_entry version (OperationEntry op) h k = said_op version op (has_span op) refl h k
said_entry version (BeforeEntry m n) h k = said_pair version m n h

some_pair : (pairs : List (OpName × OpName)) (pair : OpName × OpName) → Contains pairs pair → not (length pairs == 0) ≡ false → ⊥
some_pair [] pair c h = none_in pair c
some_pair (x ∷ xs) pair c h = let clash : true ≡ false = sym (not_from_false (length (x ∷ xs) == 0) (ne_eqb (length (x ∷ xs)) 0 (λ e. omega (arith, e)))) ∙ h in cc

not_needed : (t : TraceValue) (e : Entry) → needs_version_2 t ≡ false → Has t e → needs_two e ≡ false
not_needed t (InitialEntry a d) v h = refl
not_needed t (FinalEntry a d) v h = refl
not_needed t (ProcessEntry name) v h = refl
not_needed t (OperationEntry op) v h = no_origin (has_origin op) refl
  where
    none : list_any (λ (p : Process). list_any has_origin p.operations) t.processes ≡ false
    none = (or_parts (not (length t.before == 0)) (list_any (λ (p : Process). list_any has_origin p.operations) t.processes) v).1

    no_origin : (b : Bool) → has_origin op ≡ b → b ≡ false
    no_origin false e = refl
    no_origin true e = absurd (let clash : true ≡ false = sym (passes_some (λ (p : Process). list_any has_origin p.operations) t.processes h.0 h.1 (passes_some has_origin h.0.operations op h.2 e)) ∙ none in cc)
not_needed t (BeforeEntry m n) v h = absurd (some_pair t.before (m, n) h (or_parts (not (length t.before == 0)) (list_any (λ (p : Process). list_any has_origin p.operations) t.processes) v).0)

times_not_needed : (t : TraceValue) (e : Entry) → says_times t ≡ false → Has t e → needs_times e ≡ false
times_not_needed t (InitialEntry a d) v h = refl
times_not_needed t (FinalEntry a d) v h = refl
times_not_needed t (ProcessEntry name) v h = refl
times_not_needed t (OperationEntry op) v h = no_times (has_span op) refl
  where
    no_times : (b : Bool) → has_span op ≡ b → b ≡ false
    no_times false e = refl
    no_times true e = absurd (let clash : true ≡ false = sym (passes_some (λ (p : Process). list_any has_span p.operations) t.processes h.0 h.1 (passes_some has_span h.0.operations op h.2 e)) ∙ v in cc)
times_not_needed t (BeforeEntry m n) v h = refl

-- an entry of the trace is said by its words, in the version of the text
pub had_said : (version : Version) (t : TraceValue) (e : Entry) → (has_version_2_lines version ≡ false → needs_version_2 t ≡ false) → (has_times version ≡ false → says_times t ≡ false) → Has t e → statement_of version (words_for (statement_for e)) ≡ Some (statement_for e)
had_said version t e v w h = said_entry version e (λ one. not_needed t e (v one) h) (λ early. times_not_needed t e (w early) h)
