-- What lines spell that say these statements.
use Rattle.std.proofs.Common.{◌≡◌, ℕ, List, [], ◌∷◌, ◌++◌, map, Bool, true, false, cond, ◌&&◌, ◌||◌, codes, refl, inl, inr, ap, sym, ◌∙◌, append_assoc, subst}
use Rattle.std.specs.Prelude.{Option, Some, None, if◌then◌else◌}
use Rattle.std.specs.Fmt.{decimal}
use Rattle.std.specs.List.{Contains, filter, flat_map, list_any}
use Rattle.std.proofs.lemmas.List.{map-append}
use Rattle.std.proofs.lemmas.List.Elements.{Contains-append_left}
use Rattle.std.proofs.lemmas.Bool.{false_from_ne_true}
use Rattle.text_lines.specs.FirstFault.{IsFaultless}
use Rattle.trace_semantics.specs.declared.operation.Op.{Op}
use Rattle.trace_semantics.specs.declared.operation.Op.TheVariants.{Read as ReadOp, Write as WriteOp, Update as UpdateOp}
use Rattle.trace_semantics.specs.declared.operation.OpName.{OpName}
use Rattle.trace_semantics.specs.declared.operation.Origin.{Origin}
use Rattle.trace_semantics.specs.declared.operation.Origin.TheVariants.{Any, Initial, Operation}
use Rattle.trace_semantics.specs.declared.operation.Span.{Span}
use Rattle.trace_semantics.specs.declared.trace.Process.{Process}
use Rattle.trace_semantics.specs.KnownOrder.{has_span}
use Rattle.trace_text.specs.declared.trace_fault.TraceCause.{TraceCause}
use Rattle.trace_text.specs.declared.trace_fault.TraceCause.TheVariants.{LateHeaderLine}
use Rattle.trace_text.specs.Entry.{source_of, times_said, op_statement, before_statement}
use Rattle.trace_text.specs.Gathered.{is_init, is_final, is_of_process, process_statements}
use Rattle.trace_text.specs.Read.{saying}
use Rattle.trace_text.specs.Statement.{Statement, Init, Final, Proc, Read, Write, Update, Before, source_words, times_words, words_for, untimed_statement, timed_statement, first_said, statement_of}
use Rattle.trace_text.specs.TraceFault.{is_proc, is_before, is_value_line, statement_fault, or_else}
use Rattle.trace_text.specs.TraceText.{proc_line, op_line, process_lines, begins, is_process_line, origin_words, span_words, has_origin}
use Rattle.trace_semantics.proofs.ElementLemmas.{placed, head_in, tail_in, cases_in, none_in, from_filter, to_map, to_flat_map, some_passes, passes_some}
use Rattle.trace_semantics.specs.declared.limits.Limits.{Limits}
use Rattle.trace_text.specs.declared.version.Version.{Version}
use Rattle.trace_text.specs.declared.version.Version.TheVariants.{One}
use Rattle.trace_text.specs.Version.{has_version_2_lines, has_times}

-- lines that pass, by the statements that do
kept_line : (p : List (List ℕ) → Bool) (q : Statement → Bool) (s : Statement) (ss : List Statement) (b : Bool) → p (words_for s) ≡ b → q s ≡ b → filter p (map words_for ss) ≡ map words_for (filter q ss) →
    filter p (map words_for (s ∷ ss)) ≡ map words_for (filter q (s ∷ ss))
kept_line p q s ss true h k e = ap (λ b. cond b (words_for s ∷ filter p (map words_for ss)) (filter p (map words_for ss))) h ∙ ap (λ l. words_for s ∷ l) e ∙ sym (ap (λ b. map words_for (cond b (s ∷ filter q ss) (filter q ss))) k)
kept_line p q s ss false h k e = ap (λ b. cond b (words_for s ∷ filter p (map words_for ss)) (filter p (map words_for ss))) h ∙ e ∙ sym (ap (λ b. map words_for (cond b (s ∷ filter q ss) (filter q ss))) k)

pub filter_lines : (p : List (List ℕ) → Bool) (q : Statement → Bool) → ((s : Statement) → p (words_for s) ≡ q s) → (ss : List Statement) → filter p (map words_for ss) ≡ map words_for (filter q ss)
filter_lines p q h [] = refl
filter_lines p q h (s ∷ ss) = kept_line p q s ss (q s) (h s) refl (filter_lines p q h ss)

pub any_line : (p : List (List ℕ) → Bool) (q : Statement → Bool) → ((s : Statement) → p (words_for s) ≡ q s) → (ss : List Statement) → list_any p (map words_for ss) ≡ list_any q ss
any_line p q h [] = refl
any_line p q h (s ∷ ss) = λ i. h s i || any_line p q h ss i

-- kinds of lines
pub of_process : (s : Statement) → is_process_line (words_for s) ≡ is_of_process s
of_process (Init a d) = refl
of_process (Final a d) = refl
of_process (Proc name) = refl
of_process (Read a d source times) = refl
of_process (Write a d times) = refl
of_process (Update a d e source times) = refl
of_process (Before p i q j) = refl

pub of_init : (s : Statement) → begins (codes "init") (words_for s) ≡ is_init s
of_init (Init a d) = refl
of_init (Final a d) = refl
of_init (Proc name) = refl
of_init (Read a d source times) = refl
of_init (Write a d times) = refl
of_init (Update a d e source times) = refl
of_init (Before p i q j) = refl

pub of_final : (s : Statement) → begins (codes "final") (words_for s) ≡ is_final s
of_final (Init a d) = refl
of_final (Final a d) = refl
of_final (Proc name) = refl
of_final (Read a d source times) = refl
of_final (Write a d times) = refl
of_final (Update a d e source times) = refl
of_final (Before p i q j) = refl

pub of_before : (s : Statement) → begins (codes "before") (words_for s) ≡ is_before s
of_before (Init a d) = refl
of_before (Final a d) = refl
of_before (Proc name) = refl
of_before (Read a d source times) = refl
of_before (Write a d times) = refl
of_before (Update a d e source times) = refl
of_before (Before p i q j) = refl

pub of_proc : (s : Statement) → begins (codes "proc") (words_for s) ≡ is_proc s
of_proc (Init a d) = refl
of_proc (Final a d) = refl
of_proc (Proc name) = refl
of_proc (Read a d source times) = refl
of_proc (Write a d times) = refl
of_proc (Update a d e source times) = refl
of_proc (Before p i q j) = refl

pub of_value : (s : Statement) → (begins (codes "init") (words_for s) || begins (codes "final") (words_for s)) ≡ is_value_line s
of_value (Init a d) = refl
of_value (Final a d) = refl
of_value (Proc name) = refl
of_value (Read a d source times) = refl
of_value (Write a d times) = refl
of_value (Update a d e source times) = refl
of_value (Before p i q j) = refl

-- the words of what an operation says are its line
source_said : (o : Origin) → source_words (source_of o) ≡ origin_words o
source_said Any = refl
source_said Initial = refl
source_said (Operation n) = refl

span_said : (span : Option Span) → times_words (times_said span) ≡ span_words span
span_said None = refl
span_said (Some span) = refl

pub op_words : (op : Op) → words_for (op_statement op) ≡ op_line op
op_words (ReadOp a d o span) = λ i. codes "R" ∷ a ∷ decimal d ∷ (source_said o i ++ span_said span i)
op_words (WriteOp a d span) = λ i. codes "W" ∷ a ∷ decimal d ∷ span_said span i
op_words (UpdateOp a d e o span) = λ i. codes "U" ∷ a ∷ decimal d ∷ decimal e ∷ (source_said o i ++ span_said span i)

ops_words : (ops : List Op) → map words_for (map op_statement ops) ≡ map op_line ops
ops_words [] = refl
ops_words (op ∷ ops) = λ i. op_words op i ∷ ops_words ops i

pub processes_words : (ps : List Process) → map words_for (flat_map process_statements ps) ≡ flat_map process_lines ps
processes_words [] = refl
processes_words (p ∷ ps) = map-append words_for (process_statements p) (flat_map process_statements ps) ∙ (λ i. (proc_line p.name ∷ ops_words p.operations i) ++ processes_words ps i)

pub mapped_words : {A : Type 0} (f : A → Statement) (g : A → List (List ℕ)) → ((x : A) → words_for (f x) ≡ g x) → (xs : List A) → map words_for (map f xs) ≡ map g xs
mapped_words f g h [] = refl
mapped_words f g h (x ∷ xs) = λ i. h x i ∷ mapped_words f g h xs i

-- values stand in front of the first process
not_late : (a b : Bool) (rest : Option TraceCause) (other : Option TraceCause) → or_else (if a && b then Some LateHeaderLine else rest) other ≡ None → a ≡ true → b ≡ false
not_late true true rest other h k = absurd (cc)
not_late true false rest other h k = refl
not_late false b rest other h k = absurd (cc)

pub value_not_late : (limits : Limits) (ss : List Statement) (s : Statement) → statement_fault limits ss s ≡ None → is_value_line s ≡ true → list_any is_proc ss ≡ false
value_not_late limits ss s h k = not_late (is_value_line s) (list_any is_proc ss) _ _ h k

pub values_in_front : (limits : Limits) (ss front behind : List Statement) → IsFaultless (statement_fault limits) ss → ss ≡ front ++ behind → list_any is_proc front ≡ true → list_any is_value_line behind ≡ false
values_in_front limits ss front behind f e p = false_from_ne_true (list_any is_value_line behind) (λ (v : list_any is_value_line behind ≡ true).
    let found = some_passes is_value_line behind v in
    let here = placed behind found.0 found.1 in
    let parts : ss ≡ (front ++ here.front) ++ found.0 ∷ here.back = e ∙ ap (λ l. front ++ l) here.parts ∙ sym (append_assoc front here.front (found.0 ∷ here.back)) in
    let none : list_any is_proc (front ++ here.front) ≡ false = value_not_late limits (front ++ here.front) found.0 (f (front ++ here.front) found.0 here.back parts) found.2 in
    let proc = some_passes is_proc front p in
    let some : list_any is_proc (front ++ here.front) ≡ true = passes_some is_proc (front ++ here.front) proc.0 (Contains-append_left front here.front proc.0 proc.1) proc.2 in
    let clash : true ≡ false = sym some ∙ none in cc)

-- parts of a list of lines are lines of parts of its statements
pub record SplitsLines (ss : List Statement) (front behind : List (List (List ℕ))) : Type 0 where
  pub first : List Statement
  pub last : List Statement
  pub parts : ss ≡ first ++ last
  pub front_is : front ≡ map words_for first
  pub behind_is : behind ≡ map words_for last

pub split_lines : (ss : List Statement) (front behind : List (List (List ℕ))) → map words_for ss ≡ front ++ behind → SplitsLines ss front behind
split_lines ss [] behind e = record { first = []; last = ss; parts = refl; front_is = refl; behind_is = sym e }
split_lines [] (x ∷ front) behind e = absurd (cc)
split_lines (s ∷ ss) (x ∷ front) behind e =
    let head : words_for s ≡ x = cc in
    let tail : map words_for ss ≡ front ++ behind = cc in
    let more = split_lines ss front behind tail in
    record { first = s ∷ more.first; last = more.last; parts = ap (λ l. s ∷ l) more.parts; front_is = (λ i. sym head i ∷ more.front_is i); behind_is = more.behind_is }

-- each statement is what its words say
pub said_each : (version : Version) (ss : List Statement) (s : Statement) → map (saying version) ss ≡ map Some ss → Contains ss s → statement_of version (words_for s) ≡ Some s
said_each version [] s h c = absurd (none_in s c)
said_each version (t ∷ ss) s h c =
    let head : statement_of version (words_for t) ≡ Some t = cc in
    let tail : map (saying version) ss ≡ map Some ss = cc in
    elim (cases_in t ss s c) [
      | inl e ↦ subst (λ (u : Statement). statement_of version (words_for u) ≡ Some u) e head
      | inr d ↦ said_each version ss s tail d
    ]

-- version 1 has no line of an origin
no_origin : (op : Op) → statement_of One (words_for (op_statement op)) ≡ Some (op_statement op) → has_origin op ≡ true → ⊥
no_origin (ReadOp a d Any span) h k = cc
no_origin (ReadOp a d Initial None) h k = cc
no_origin (ReadOp a d Initial (Some span)) h k = cc
no_origin (ReadOp a d (Operation n) None) h k = cc
no_origin (ReadOp a d (Operation n) (Some span)) h k = cc
no_origin (WriteOp a d span) h k = cc
no_origin (UpdateOp a d e Any span) h k = cc
no_origin (UpdateOp a d e Initial None) h k = cc
no_origin (UpdateOp a d e Initial (Some span)) h k = cc
no_origin (UpdateOp a d e (Operation n) None) h k = cc
no_origin (UpdateOp a d e (Operation n) (Some span)) h k = cc

pub no_origins : (ss : List Statement) (ps : List Process) → map (saying One) ss ≡ map Some ss → filter is_of_process ss ≡ flat_map process_statements ps → list_any (λ (p : Process). list_any has_origin p.operations) ps ≡ false
no_origins ss ps h e = false_from_ne_true (list_any (λ (p : Process). list_any has_origin p.operations) ps) (λ (v : list_any (λ (p : Process). list_any has_origin p.operations) ps ≡ true).
    let p = some_passes (λ (p : Process). list_any has_origin p.operations) ps v in
    let op = some_passes has_origin p.0.operations p.2 in
    let listed : Contains (flat_map process_statements ps) (op_statement op.0) = to_flat_map process_statements ps p.0 (op_statement op.0) p.1 (tail_in (Proc p.0.name) (map op_statement p.0.operations) (op_statement op.0) (to_map op_statement p.0.operations op.0 op.1)) in
    let there : Contains ss (op_statement op.0) = (from_filter is_of_process ss (op_statement op.0) (subst (λ (l : List Statement). Contains l (op_statement op.0)) (sym e) listed)).0 in
    no_origin op.0 (said_each One ss (op_statement op.0) h there) op.2)

-- nor of a pair
pub no_pairs : (ss : List Statement) (pairs : List (OpName × OpName)) → map (saying One) ss ≡ map Some ss → filter is_before ss ≡ map before_statement pairs → pairs ≡ []
no_pairs ss [] h e = refl
no_pairs ss (pair ∷ pairs) h e =
    let there : Contains ss (before_statement pair) = (from_filter is_before ss (before_statement pair) (subst (λ (l : List Statement). Contains l (before_statement pair)) (sym e) (head_in (before_statement pair) (map before_statement pairs)))).0 in
    let said = said_each One ss (before_statement pair) h there in
    absurd (cc)

-- the words of an operation with a span say nothing without times
pub timed_apart : (two : Bool) (op : Op) → has_span op ≡ true → untimed_statement two (words_for (op_statement op)) ≡ None
timed_apart two (ReadOp a d o None) h = absurd (cc)
timed_apart true (ReadOp a d Any (Some span)) h = refl
timed_apart true (ReadOp a d Initial (Some span)) h = refl
timed_apart true (ReadOp a d (Operation n) (Some span)) h = refl
timed_apart false (ReadOp a d Any (Some span)) h = refl
timed_apart false (ReadOp a d Initial (Some span)) h = refl
timed_apart false (ReadOp a d (Operation n) (Some span)) h = refl
timed_apart two (WriteOp a d None) h = absurd (cc)
timed_apart true (WriteOp a d (Some span)) h = refl
timed_apart false (WriteOp a d (Some span)) h = refl
timed_apart two (UpdateOp a d e o None) h = absurd (cc)
timed_apart true (UpdateOp a d e Any (Some span)) h = refl
timed_apart true (UpdateOp a d e Initial (Some span)) h = refl
timed_apart true (UpdateOp a d e (Operation n) (Some span)) h = refl
timed_apart false (UpdateOp a d e Any (Some span)) h = refl
timed_apart false (UpdateOp a d e Initial (Some span)) h = refl
timed_apart false (UpdateOp a d e (Operation n) (Some span)) h = refl

-- versions 1 and 2 have no line of a span
no_span : (version : Version) (op : Op) → has_times version ≡ false → statement_of version (words_for (op_statement op)) ≡ Some (op_statement op) → has_span op ≡ true → ⊥
no_span version op without h k =
    let none : statement_of version (words_for (op_statement op)) ≡ None = (λ i. first_said (timed_apart (has_version_2_lines version) op k i) (if without i then timed_statement (words_for (op_statement op)) else None)) in
    let clash : None ≡ Some (op_statement op) = sym none ∙ h in
    cc

pub no_spans : (version : Version) (ss : List Statement) (ps : List Process) → has_times version ≡ false → map (saying version) ss ≡ map Some ss → filter is_of_process ss ≡ flat_map process_statements ps → list_any (λ (p : Process). list_any has_span p.operations) ps ≡ false
no_spans version ss ps without h e = false_from_ne_true (list_any (λ (p : Process). list_any has_span p.operations) ps) (λ (v : list_any (λ (p : Process). list_any has_span p.operations) ps ≡ true).
    let p = some_passes (λ (p : Process). list_any has_span p.operations) ps v in
    let op = some_passes has_span p.0.operations p.2 in
    let listed : Contains (flat_map process_statements ps) (op_statement op.0) = to_flat_map process_statements ps p.0 (op_statement op.0) p.1 (tail_in (Proc p.0.name) (map op_statement p.0.operations) (op_statement op.0) (to_map op_statement p.0.operations op.0 op.1)) in
    let there : Contains ss (op_statement op.0) = (from_filter is_of_process ss (op_statement op.0) (subst (λ (l : List Statement). Contains l (op_statement op.0)) (sym e) listed)).0 in
    no_span version op.0 without (said_each version ss (op_statement op.0) h there) op.2)
