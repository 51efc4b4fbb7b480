-- The canonical text of a trace spells it.
use Rattle.std.proofs.Common.{◌≡◌, ℕ, ◌^◌, ◌<◌, ◌≤◌, List, [], ◌∷◌, ◌++◌, length, map, Bool, true, false, cond, ◌||◌, refl, ap, sym, ◌∙◌, subst, arith, append_assoc, append-nil}
use Rattle.std.specs.Prelude.{◌↔◌, Option, Some, None, codes, nat_lt, if◌then◌else◌}
use Rattle.std.specs.Fmt.{decimal}
use Rattle.std.specs.List.{list_all, list_any, filter, flat_map, Contains}
use Rattle.std.specs.List.Sorted.{IsPermutation}
use Rattle.std.proofs.lemmas.Bool.{and_parts, and_from, or_from, or_parts, ltb-true, ltb-false, false≢true}
use Rattle.std.proofs.lemmas.List.{length-map}
use Rattle.std.proofs.lemmas.List.Elements.{filter-append}
use Rattle.std.proofs.lemmas.List.Folds.{list_any-append, list_all-append}
use Rattle.std.proofs.lemmas.List.Sorted.{IsPermutation-refl}
use Rattle.trace_semantics.specs.declared.operation.Op.{Op}
use Rattle.trace_semantics.specs.declared.operation.Op.TheVariants.{Read, Write, Update}
use Rattle.trace_semantics.specs.declared.operation.OpName.{OpName}
use Rattle.trace_semantics.specs.declared.operation.Origin.{Origin}
use Rattle.trace_semantics.specs.declared.operation.Origin.TheVariants.{Any, Initial, Operation}
use Rattle.trace_semantics.specs.declared.operation.Span.{Span}
use Rattle.trace_semantics.specs.declared.trace.Process.{Process}
use Rattle.trace_semantics.specs.KnownOrder.{says_times}
use Rattle.trace_semantics.specs.Names.{is_name}
use Rattle.trace_semantics.specs.Trace.{TraceValue, IsTrace, IsWritten, operation_count, location_count, is_written_value, is_written_name, is_written_origin, is_written_span, is_written_op, is_written_process, is_written_pair}
use Rattle.trace_text.specs.TraceText.{SpellsTrace, begins, is_process_line, header_line, init_line, final_line, proc_line, origin_words, span_words, op_line, process_lines, before_line, needs_version_2, needs_version_3, FitsIn}
use Rattle.trace_text.specs.TraceWritten.{version_for, canonical_body, canonical_lines, canonical_trace}
use Rattle.trace_text.proofs.Writing.LineTextLemmas.{is_word, is_line, name_is_word, number_is_word, written_kept}
use Rattle.trace_text.proofs.Writing.WritableLemmas.{name_parts, value_parts, read_parts, write_parts, update_parts}
use Rattle.trace_semantics.specs.declared.limits.Limits.TheVariants.{Small}
use Rattle.trace_semantics.specs.Limits.{max_operations, max_locations, max_pairs}
use Rattle.trace_text.specs.declared.version.Version.{Version}
use Rattle.trace_text.specs.declared.version.Version.TheVariants.{One, Two, Three}
use Rattle.trace_text.specs.Version.{has_version_2_lines, has_times, limits_of}

-- tests over lists that are made of others
all_map : {A B : Type 0} (p : B → Bool) (q : A → Bool) (f : A → B) → ((x : A) → q x ≡ true → p (f x) ≡ true) → (xs : List A) → list_all q xs ≡ true → list_all p (map f xs) ≡ true
all_map p q f each [] h = refl
all_map p q f each (x ∷ xs) h =
    let parts = and_parts (q x) (list_all q xs) h in
    and_from (p (f x)) (list_all p (map f xs)) (each x parts.0) (all_map p q f each xs parts.1)

all_flat_map : {A B : Type 0} (p : B → Bool) (q : A → Bool) (f : A → List B) → ((x : A) → q x ≡ true → list_all p (f x) ≡ true) → (xs : List A) → list_all q xs ≡ true → list_all p (flat_map f xs) ≡ true
all_flat_map p q f each [] h = refl
all_flat_map p q f each (x ∷ xs) h =
    let parts = and_parts (q x) (list_all q xs) h in
    list_all-append p (f x) (flat_map f xs) ∙ and_from (list_all p (f x)) (list_all p (flat_map f xs)) (each x parts.0) (all_flat_map p q f each xs parts.1)

-- words of lines
named : (n : OpName) → is_written_name n ≡ true → (rest : List (List ℕ)) → list_all is_word rest ≡ true → list_all is_word (n.process ∷ decimal n.place ∷ rest) ≡ true
named n h rest more =
    let parts = name_parts n h in
    and_from _ _ (name_is_word n.process parts.named) (and_from _ _ (number_is_word n.place (omega (arith, parts.most))) more)

valued : (location : List ℕ) (value : ℕ) (rest : List (List ℕ)) → is_name location ≡ true → value < 2 ^ 64 → list_all is_word rest ≡ true → list_all is_word (location ∷ decimal value ∷ rest) ≡ true
valued location value rest name small more = and_from _ _ (name_is_word location name) (and_from _ _ (number_is_word value small) more)

origin_are_words : (origin : Origin) → is_written_origin origin ≡ true → list_all is_word (origin_words origin) ≡ true
origin_are_words Any h = refl
origin_are_words Initial h = refl
origin_are_words (Operation n) h = named n h [] refl

-- lines
header_is_line : (version : Version) → is_line (header_line version) ≡ true
header_is_line One = refl
header_is_line Two = refl
header_is_line Three = refl

entry_words : (entry : List ℕ × ℕ) → is_written_value entry ≡ true → list_all is_word (entry.0 ∷ decimal entry.1 ∷ []) ≡ true
entry_words entry h = let parts = value_parts entry.0 entry.1 h in valued entry.0 entry.1 [] parts.0 parts.1 refl

init_is_line : (entry : List ℕ × ℕ) → is_written_value entry ≡ true → is_line (init_line entry) ≡ true
init_is_line entry h = and_from _ true (entry_words entry h) refl

final_is_line : (entry : List ℕ × ℕ) → is_written_value entry ≡ true → is_line (final_line entry) ≡ true
final_is_line entry h = and_from _ true (entry_words entry h) refl

span_are_words : (span : Option Span) → is_written_span span ≡ true → list_all is_word (span_words span) ≡ true
span_are_words None h = refl
span_are_words (Some span) h =
    let parts = and_parts (nat_lt span.start (2 ^ 64)) (nat_lt span.end (2 ^ 64)) h in
    and_from _ _ (number_is_word span.start (ltb-true span.start (2 ^ 64) parts.0)) (and_from _ true (number_is_word span.end (ltb-true span.end (2 ^ 64) parts.1)) refl)

last_are_words : (origin : Origin) (span : Option Span) → is_written_origin origin ≡ true → is_written_span span ≡ true → list_all is_word (origin_words origin ++ span_words span) ≡ true
last_are_words origin span h k = list_all-append is_word (origin_words origin) (span_words span) ∙ and_from _ _ (origin_are_words origin h) (span_are_words span k)

op_is_line : (op : Op) → is_written_op op ≡ true → is_line (op_line op) ≡ true
op_is_line (Read location value origin span) h =
    let parts = read_parts location value origin span h in
    and_from _ true (valued location value (origin_words origin ++ span_words span) parts.named parts.small (last_are_words origin span parts.origin_is parts.span_is)) refl
op_is_line (Write location value span) h =
    let parts = write_parts location value span h in
    and_from _ true (valued location value (span_words span) parts.named parts.small (span_are_words span parts.span_is)) refl
op_is_line (Update location read left origin span) h =
    let parts = update_parts location read left origin span h in
    and_from _ true (valued location read (decimal left ∷ (origin_words origin ++ span_words span)) parts.named parts.read_small (and_from _ _ (number_is_word left parts.left_small) (last_are_words origin span parts.origin_is parts.span_is))) refl

process_are_lines : (p : Process) → is_written_process p ≡ true → list_all is_line (process_lines p) ≡ true
process_are_lines p h =
    let parts = and_parts (is_name p.name) (list_all is_written_op p.operations) h in
    and_from (is_line (proc_line p.name)) (list_all is_line (map op_line p.operations))
    (and_from _ true (and_from _ true (name_is_word p.name parts.0) refl) refl)
    (all_map is_line is_written_op op_line op_is_line p.operations parts.1)

before_is_line : (pair : OpName × OpName) → is_written_pair pair ≡ true → is_line (before_line pair) ≡ true
before_is_line pair h =
    let parts = and_parts (is_written_name pair.0) (is_written_name pair.1) h in
    and_from _ true (named pair.0 parts.0 (pair.1.process ∷ decimal pair.1.place ∷ []) (named pair.1 parts.1 [] refl)) refl

body_are_lines : (t : TraceValue) → IsWritten t → list_all is_line (canonical_body t) ≡ true
body_are_lines t h =
    list_all-append is_line (map init_line t.initial) _ ∙ and_from _ _ (all_map is_line is_written_value init_line init_is_line t.initial h.initial)
    (list_all-append is_line (map final_line t.final_values) _ ∙ and_from _ _ (all_map is_line is_written_value final_line final_is_line t.final_values h.final_values)
    (list_all-append is_line (flat_map process_lines t.processes) _
    ∙ and_from _ _ (all_flat_map is_line is_written_process process_lines process_are_lines t.processes h.processes) (all_map is_line is_written_pair before_line before_is_line t.before h.before)))

pub lines_kept_of : (t : TraceValue) → IsWritten t → list_all is_line (canonical_lines t) ≡ true
lines_kept_of t h = and_from _ _ (header_is_line (version_for t)) (body_are_lines t h)

-- which lines a test keeps
keep_all : {A : Type 0} (p : A → Bool) (xs : List A) → list_all p xs ≡ true → filter p xs ≡ xs
keep_all p [] h = refl
keep_all p (x ∷ xs) h =
    let parts = and_parts (p x) (list_all p xs) h in
    ap (λ b. cond b (x ∷ filter p xs) (filter p xs)) parts.0 ∙ ap (λ l. x ∷ l) (keep_all p xs parts.1)

keep_none : {A : Type 0} (p : A → Bool) (xs : List A) → list_any p xs ≡ false → filter p xs ≡ []
keep_none p [] h = refl
keep_none p (x ∷ xs) h =
    let parts = or_parts (p x) (list_any p xs) h in
    ap (λ b. cond b (x ∷ filter p xs) (filter p xs)) parts.0 ∙ keep_none p xs parts.1

each_map : {A B : Type 0} (p : B → Bool) (f : A → B) → ((x : A) → p (f x) ≡ true) → (xs : List A) → list_all p (map f xs) ≡ true
each_map p f each [] = refl
each_map p f each (x ∷ xs) = and_from (p (f x)) (list_all p (map f xs)) (each x) (each_map p f each xs)

none_map : {A B : Type 0} (p : B → Bool) (f : A → B) → ((x : A) → p (f x) ≡ false) → (xs : List A) → list_any p (map f xs) ≡ false
none_map p f each [] = refl
none_map p f each (x ∷ xs) = or_from (p (f x)) (list_any p (map f xs)) (each x) (none_map p f each xs)

-- what a test answers at each line of a process
record Answers (p : List (List ℕ) → Bool) (b : Bool) : Type 0 where
  proc : (words : List (List ℕ)) → p (codes "proc" ∷ words) ≡ b
  read : (words : List (List ℕ)) → p (codes "R" ∷ words) ≡ b
  write : (words : List (List ℕ)) → p (codes "W" ∷ words) ≡ b
  update : (words : List (List ℕ)) → p (codes "U" ∷ words) ≡ b

at_op : (p : List (List ℕ) → Bool) (b : Bool) → Answers p b → (op : Op) → p (op_line op) ≡ b
at_op p b h (Read location value origin span) = h.read (location ∷ decimal value ∷ (origin_words origin ++ span_words span))
at_op p b h (Write location value span) = h.write (location ∷ decimal value ∷ span_words span)
at_op p b h (Update location read left origin span) = h.update (location ∷ decimal read ∷ decimal left ∷ (origin_words origin ++ span_words span))

each_of_processes : (p : List (List ℕ) → Bool) → Answers p true → (ps : List Process) → list_all p (flat_map process_lines ps) ≡ true
each_of_processes p h [] = refl
each_of_processes p h (x ∷ ps) =
    list_all-append p (process_lines x) (flat_map process_lines ps)
    ∙ and_from _ _ (and_from _ _ (h.proc (x.name ∷ [])) (each_map p op_line (at_op p true h) x.operations)) (each_of_processes p h ps)

none_of_processes : (p : List (List ℕ) → Bool) → Answers p false → (ps : List Process) → list_any p (flat_map process_lines ps) ≡ false
none_of_processes p h [] = refl
none_of_processes p h (x ∷ ps) =
    list_any-append p (process_lines x) (flat_map process_lines ps)
    ∙ or_from _ _ (or_from _ _ (h.proc (x.name ∷ [])) (none_map p op_line (at_op p false h) x.operations)) (none_of_processes p h ps)

filter_parts : (p : List (List ℕ) → Bool) (a b c d : List (List (List ℕ))) → filter p (a ++ (b ++ (c ++ d))) ≡ filter p a ++ (filter p b ++ (filter p c ++ filter p d))
filter_parts p a b c d =
    filter-append p a (b ++ (c ++ d))
    ∙ ap (λ l. filter p a ++ l) (filter-append p b (c ++ d) ∙ ap (λ l. filter p b ++ l) (filter-append p c d))

body_parts : (p : List (List ℕ) → Bool) (t : TraceValue) (a b c d : List (List (List ℕ))) → filter p (map init_line t.initial) ≡ a → filter p (map final_line t.final_values) ≡ b →
    filter p (flat_map process_lines t.processes) ≡ c → filter p (map before_line t.before) ≡ d → filter p (canonical_body t) ≡ a ++ (b ++ (c ++ d))
body_parts p t a b c d initial final_values processes pairs =
    filter_parts p (map init_line t.initial) (map final_line t.final_values) (flat_map process_lines t.processes) (map before_line t.before)
    ∙ (λ i. initial i ++ (final_values i ++ (processes i ++ pairs i)))

no_key : (key : List ℕ) → Answers (begins key) false → (ps : List Process) → filter (begins key) (flat_map process_lines ps) ≡ []
no_key key h ps = keep_none (begins key) (flat_map process_lines ps) (none_of_processes (begins key) h ps)

pub process_part : (t : TraceValue) → filter is_process_line (canonical_body t) ≡ flat_map process_lines t.processes
process_part t =
    body_parts is_process_line t [] [] (flat_map process_lines t.processes) []
    (keep_none is_process_line (map init_line t.initial) (none_map is_process_line init_line (λ x. refl) t.initial))
    (keep_none is_process_line (map final_line t.final_values) (none_map is_process_line final_line (λ x. refl) t.final_values))
    (keep_all is_process_line (flat_map process_lines t.processes)
    (each_of_processes is_process_line (record { proc = λ ws. refl; read = λ ws. refl; write = λ ws. refl; update = λ ws. refl }) t.processes))
    (keep_none is_process_line (map before_line t.before) (none_map is_process_line before_line (λ x. refl) t.before))
    ∙ append-nil (flat_map process_lines t.processes)

pub init_part : (t : TraceValue) → filter (begins (codes "init")) (canonical_body t) ≡ map init_line t.initial
init_part t =
    body_parts (begins (codes "init")) t (map init_line t.initial) [] [] []
    (keep_all (begins (codes "init")) (map init_line t.initial) (each_map (begins (codes "init")) init_line (λ x. refl) t.initial))
    (keep_none (begins (codes "init")) (map final_line t.final_values) (none_map (begins (codes "init")) final_line (λ x. refl) t.final_values))
    (no_key (codes "init") (record { proc = λ ws. refl; read = λ ws. refl; write = λ ws. refl; update = λ ws. refl }) t.processes)
    (keep_none (begins (codes "init")) (map before_line t.before) (none_map (begins (codes "init")) before_line (λ x. refl) t.before))
    ∙ append-nil (map init_line t.initial)

pub final_part : (t : TraceValue) → filter (begins (codes "final")) (canonical_body t) ≡ map final_line t.final_values
final_part t =
    body_parts (begins (codes "final")) t [] (map final_line t.final_values) [] []
    (keep_none (begins (codes "final")) (map init_line t.initial) (none_map (begins (codes "final")) init_line (λ x. refl) t.initial))
    (keep_all (begins (codes "final")) (map final_line t.final_values) (each_map (begins (codes "final")) final_line (λ x. refl) t.final_values))
    (no_key (codes "final") (record { proc = λ ws. refl; read = λ ws. refl; write = λ ws. refl; update = λ ws. refl }) t.processes)
    (keep_none (begins (codes "final")) (map before_line t.before) (none_map (begins (codes "final")) before_line (λ x. refl) t.before))
    ∙ append-nil (map final_line t.final_values)

pub before_part : (t : TraceValue) → filter (begins (codes "before")) (canonical_body t) ≡ map before_line t.before
before_part t =
    body_parts (begins (codes "before")) t [] [] [] (map before_line t.before)
    (keep_none (begins (codes "before")) (map init_line t.initial) (none_map (begins (codes "before")) init_line (λ x. refl) t.initial))
    (keep_none (begins (codes "before")) (map final_line t.final_values) (none_map (begins (codes "before")) final_line (λ x. refl) t.final_values))
    (no_key (codes "before") (record { proc = λ ws. refl; read = λ ws. refl; write = λ ws. refl; update = λ ws. refl }) t.processes)
    (keep_all (begins (codes "before")) (map before_line t.before) (each_map (begins (codes "before")) before_line (λ x. refl) t.before))

-- where nothing early passes p and nothing in the rest passes q, nothing passes q after what passes p
late : {A : Type 0} (p q : A → Bool) (early rest front behind : List A) → early ++ rest ≡ front ++ behind → list_any p early ≡ false → list_any q rest ≡ false → list_any p front ≡ true → list_any q behind ≡ false
late p q early rest [] behind e none last some = absurd (false≢true some)
late p q [] rest (x ∷ front) behind e none last some =
    (or_parts (list_any q (x ∷ front)) (list_any q behind) (sym (list_any-append q (x ∷ front) behind) ∙ ap (list_any q) (sym e) ∙ last)).1
late p q (y ∷ early) rest (x ∷ front) behind e none last some =
    let parts = or_parts (p y) (list_any p early) none in
    let same : x ≡ y = cc in
    let tails : early ++ rest ≡ front ++ behind = cc in
    late p q early rest front behind tails parts.1 last (ap (λ b. b || list_any p front) (sym (ap p same ∙ parts.0)) ∙ some)

abbrev is_value_line : List (List ℕ) → Bool
is_value_line words = begins (codes "init") words || begins (codes "final") words

values_in_front : (t : TraceValue) (front behind : List (List (List ℕ))) → canonical_body t ≡ front ++ behind → list_any (begins (codes "proc")) front ≡ true → list_any is_value_line behind ≡ false
values_in_front t front behind e some =
    let early = map init_line t.initial ++ map final_line t.final_values in
    let rest = flat_map process_lines t.processes ++ map before_line t.before in
    late (begins (codes "proc")) is_value_line early rest front behind
    (append_assoc (map init_line t.initial) (map final_line t.final_values) rest ∙ e)
    (list_any-append (begins (codes "proc")) (map init_line t.initial) (map final_line t.final_values)
    ∙ or_from _ _ (none_map (begins (codes "proc")) init_line (λ x. refl) t.initial) (none_map (begins (codes "proc")) final_line (λ x. refl) t.final_values))
    (list_any-append is_value_line (flat_map process_lines t.processes) (map before_line t.before)
    ∙ or_from _ _ (none_of_processes is_value_line (record { proc = λ ws. refl; read = λ ws. refl; write = λ ws. refl; update = λ ws. refl }) t.processes)
    (none_map is_value_line before_line (λ x. refl) t.before))
    some

same_permutation : {A : Type 0} (xs ys : List A) → xs ≡ ys → IsPermutation ys xs
same_permutation {A} xs ys e = subst (λ (l : List A). IsPermutation l xs) e (IsPermutation-refl xs)

same_elements : {A : Type 0} (xs ys : List A) → xs ≡ ys → (x : A) → Contains xs x ↔ Contains ys x
same_elements {A} xs ys e x = (subst (λ (l : List A). Contains l x) e, subst (λ (l : List A). Contains l x) (sym e))

-- the version of the canonical text has lines and room
record HasVersion (t : TraceValue) (version : Version) : Type 0 where
  lines_known : has_version_2_lines version ≡ false → needs_version_2 t ≡ false
  times_known : has_times version ≡ false → says_times t ≡ false
  fits : FitsIn (limits_of version) t
  few_pairs : length t.before ≤ max_pairs (limits_of version)

-- no times, and no more than versions 1 and 2 have room for
record IsSmall (t : TraceValue) : Type 0 where
  untimed : says_times t ≡ false
  fits : FitsIn Small t
  few_pairs : length t.before ≤ max_pairs Small

small_fits : (t : TraceValue) → needs_version_3 t ≡ false → IsSmall t
small_fits t few =
    let first = or_parts (says_times t) (nat_lt (max_operations Small) (operation_count t) || (nat_lt (max_pairs Small) (length t.before) || nat_lt (max_locations Small) (location_count t))) few in
    let parts = or_parts (nat_lt (max_operations Small) (operation_count t)) (nat_lt (max_pairs Small) (length t.before) || nat_lt (max_locations Small) (location_count t)) first.1 in
    let more = or_parts (nat_lt (max_pairs Small) (length t.before)) (nat_lt (max_locations Small) (location_count t)) parts.1 in
    let operations = ltb-false (max_operations Small) (operation_count t) parts.0 in
    let pairs = ltb-false (max_pairs Small) (length t.before) more.0 in
    let locations = ltb-false (max_locations Small) (location_count t) more.1 in
    record { untimed = first.0; fits = record { few_operations = omega (arith, operations); few_locations = omega (arith, locations) }; few_pairs = omega (arith, pairs) }

small_version : (t : TraceValue) (two : Bool) → needs_version_2 t ≡ two → IsSmall t → HasVersion t (if two then Two else One)
small_version t true says small = record { lines_known = λ h. absurd (let clash : true ≡ false = h in cc); times_known = λ h. small.untimed; fits = small.fits; few_pairs = small.few_pairs }
small_version t false says small = record { lines_known = λ h. says; times_known = λ h. small.untimed; fits = small.fits; few_pairs = small.few_pairs }

version_by : (t : TraceValue) → IsTrace t → (large : Bool) → needs_version_3 t ≡ large → HasVersion t (if large then Three else if needs_version_2 t then Two else One)
version_by t ok true says = record {
  lines_known = λ h. absurd (let clash : true ≡ false = h in cc);
  times_known = λ h. absurd (let clash : true ≡ false = h in cc);
  fits = record { few_operations = ok.few_operations; few_locations = ok.few_locations };
  few_pairs = ok.few_pairs;
}
version_by t ok false says = small_version t (needs_version_2 t) refl (small_fits t says)

version_right : (t : TraceValue) → IsTrace t → HasVersion t (version_for t)
version_right t ok = version_by t ok (needs_version_3 t) refl

pub written_spells : (t : TraceValue) → IsTrace t → SpellsTrace (canonical_trace t) t
written_spells t ok =
    let pairs = before_part t in
    let right = version_right t ok in
    record {
      version = version_for t;
      body = canonical_body t;
      lines = written_kept (canonical_lines t) (lines_kept_of t ok.written);
      processes = process_part t;
      initial = same_permutation (filter (begins (codes "init")) (canonical_body t)) (map init_line t.initial) (init_part t);
      final_values = same_permutation (filter (begins (codes "final")) (canonical_body t)) (map final_line t.final_values) (final_part t);
      in_front = values_in_front t;
      before = same_elements (filter (begins (codes "before")) (canonical_body t)) (map before_line t.before) pairs;
      few_before = omega (arith, ap length pairs, length-map t.before before_line, right.few_pairs);
      lines_known = right.lines_known;
      times_known = right.times_known;
      fits = right.fits;
    }
