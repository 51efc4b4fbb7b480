-- The lines of a trace determine it.
use Rattle.std.proofs.Common.{◌≡◌, ℕ, List, [], ◌∷◌, ◌++◌, map, get_or, true, refl, ap, sym, ◌∙◌, subst, arith}
use Rattle.std.specs.Prelude.{◌↔◌, ◌^◌, Option, Some, None, codes, nat_lt}
use Rattle.std.specs.Fmt.{decimal}
use Rattle.std.specs.List.{list_all, filter, flat_map, Contains}
use Rattle.std.specs.List.Sorted.{IsPermutation}
use Rattle.std.specs.Str.Parse.{digits_value}
use Rattle.std.proofs.lemmas.Bool.{and_parts, ltb-true}
use Rattle.std.proofs.lemmas.Fmt.{decimal_injective, decimal_is_IsNumeral}
use Rattle.std.proofs.lemmas.List.Sorted.{IsPermutation-map, IsPermutation-sym, IsPermutation-trans}
use Rattle.text_lines.specs.Lines.{lines_of}
use Rattle.trace_semantics.specs.declared.operation.Op.{Op}
use Rattle.trace_semantics.specs.declared.operation.Op.TheVariants.{Read, Write, Update}
use Rattle.trace_semantics.specs.declared.operation.OpName.{OpName}
use Rattle.trace_semantics.specs.declared.operation.Origin.{Origin}
use Rattle.trace_semantics.specs.declared.operation.Origin.TheVariants.{Any, Initial, Operation}
use Rattle.trace_semantics.specs.declared.operation.Span.{Span}
use Rattle.trace_semantics.specs.declared.trace.Process.{Process}
use Rattle.text_lines.specs.Kept.{kept}
use Rattle.trace_semantics.specs.Names.{is_name}
use Rattle.trace_semantics.specs.PairOrder.{ArePairsRising}
use Rattle.trace_semantics.specs.Trace.{TraceValue, IsTrace, IsWritten, is_written_value, is_written_name, is_written_origin, is_written_span, is_written_op, is_written_process, is_written_pair}
use Rattle.trace_text.specs.TraceText.{SpellsTrace, begins, is_process_line, header_line, init_line, final_line, proc_line, origin_words, span_words, op_line, process_lines, before_line}
use Rattle.trace_text.specs.TraceWritten.{canonical_body, canonical_lines, canonical_trace}
use Rattle.trace_semantics.proofs.ElementLemmas.{all_pass, from_map, to_map}
use Rattle.trace_text.proofs.Writing.LineTextLemmas.{written_kept}
use Rattle.trace_text.proofs.InOrder.RisingLemmas.{values_same, pairs_same}
use Rattle.trace_text.proofs.Writing.TraceWrittenLemmas.{lines_kept_of, process_part, init_part, final_part, before_part}
use Rattle.trace_text.proofs.Writing.WritableLemmas.{name_parts, value_parts, read_parts, write_parts, update_parts}

-- words determine operations' names
same_op_name : (m n : OpName) → is_written_name m ≡ true → is_written_name n ≡ true → m.process ≡ n.process → decimal m.place ≡ decimal n.place → m ≡ n
same_op_name m n h k process digits =
    let first = (name_parts m h).most in
    let second = (name_parts n k).most in
    let place = decimal_injective m.place n.place (omega (arith, first)) (omega (arith, second)) digits in
    (λ i. record { process = process i; place = place i })

-- words determine the origin of a value
same_origin : (a b : Origin) → is_written_origin a ≡ true → is_written_origin b ≡ true → origin_words a ≡ origin_words b → a ≡ b
same_origin Any Any h k e = refl
same_origin Any Initial h k e = absurd (cc)
same_origin Any (Operation n) h k e = absurd (cc)
same_origin Initial Any h k e = absurd (cc)
same_origin Initial Initial h k e = refl
same_origin Initial (Operation n) h k e = absurd (cc)
same_origin (Operation m) Any h k e = absurd (cc)
same_origin (Operation m) Initial h k e = absurd (cc)
same_origin (Operation m) (Operation n) h k e =
    let process : m.process ≡ n.process = cc in
    let place : decimal m.place ≡ decimal n.place = cc in
    ap Operation (same_op_name m n h k process place)

-- the first byte of a line
abbrev first_byte : List (List ℕ) → ℕ
first_byte words = get_or (get_or words 0 []) 0 0

same_first : (a b : List (List ℕ)) → a ≡ b → first_byte a ≡ first_byte b
same_first a b e = ap first_byte e

-- words determine a span
same_span : (s r : Option Span) → is_written_span s ≡ true → is_written_span r ≡ true → span_words s ≡ span_words r → s ≡ r
same_span None None h k e = refl
same_span None (Some r) h k e = absurd (cc)
same_span (Some s) None h k e = absurd (cc)
same_span (Some s) (Some r) h k e =
    let first = and_parts (nat_lt s.start (2 ^ 64)) (nat_lt s.end (2 ^ 64)) h in
    let second = and_parts (nat_lt r.start (2 ^ 64)) (nat_lt r.end (2 ^ 64)) k in
    let start_digits : decimal s.start ≡ decimal r.start = cc in
    let end_digits : decimal s.end ≡ decimal r.end = cc in
    let start = decimal_injective s.start r.start (ltb-true s.start (2 ^ 64) first.0) (ltb-true r.start (2 ^ 64) second.0) start_digits in
    let end = decimal_injective s.end r.end (ltb-true s.end (2 ^ 64) first.1) (ltb-true r.end (2 ^ 64) second.1) end_digits in
    (λ i. Some (record { start = start i; end = end i }))

-- where a value comes from, and when, are apart in the words
record AreApart (o p : Origin) (s r : Option Span) : Type 0 where
  origins : origin_words o ≡ origin_words p
  spans : span_words s ≡ span_words r

words_apart : (o p : Origin) (s r : Option Span) → origin_words o ++ span_words s ≡ origin_words p ++ span_words r → AreApart o p s r
words_apart Any Any s r e = record { origins = refl; spans = e }
words_apart Any Initial None r e = absurd (cc)
words_apart Any Initial (Some s) r e = let bytes = same_first (span_words (Some s)) (origin_words Initial ++ span_words r) e in absurd (omega (arith, bytes))
words_apart Any (Operation n) None r e = absurd (cc)
words_apart Any (Operation n) (Some s) r e = let bytes = same_first (span_words (Some s)) (origin_words (Operation n) ++ span_words r) e in absurd (omega (arith, bytes))
words_apart Initial Any s None e = absurd (cc)
words_apart Initial Any s (Some r) e = let bytes = same_first (origin_words Initial ++ span_words s) (span_words (Some r)) e in absurd (omega (arith, bytes))
words_apart Initial Initial s r e = record { origins = refl; spans = (cc) }
words_apart Initial (Operation n) None r e = absurd (cc)
words_apart Initial (Operation n) (Some s) None e = absurd (cc)
words_apart Initial (Operation n) (Some s) (Some r) e = absurd (cc)
words_apart (Operation m) Any s None e = absurd (cc)
words_apart (Operation m) Any s (Some r) e = let bytes = same_first (origin_words (Operation m) ++ span_words s) (span_words (Some r)) e in absurd (omega (arith, bytes))
words_apart (Operation m) Initial s None e = absurd (cc)
words_apart (Operation m) Initial None (Some r) e = absurd (cc)
words_apart (Operation m) Initial (Some s) (Some r) e = absurd (cc)
words_apart (Operation m) (Operation n) s r e =
    let process : m.process ≡ n.process = cc in
    let digits : decimal m.place ≡ decimal n.place = cc in
    record { origins = λ i. codes "from" ∷ process i ∷ digits i ∷ []; spans = (cc) }

-- a line gives the operation
same_op : (a b : Op) → is_written_op a ≡ true → is_written_op b ≡ true → op_line a ≡ op_line b → a ≡ b
same_op (Read l v o s) (Read m w p r) h k e =
    let first = read_parts l v o s h in
    let second = read_parts m w p r k in
    let location : l ≡ m = cc in
    let digits : decimal v ≡ decimal w = cc in
    let words : origin_words o ++ span_words s ≡ origin_words p ++ span_words r = cc in
    let parts = words_apart o p s r words in
    let value = decimal_injective v w first.small second.small digits in
    let origin = same_origin o p first.origin_is second.origin_is parts.origins in
    let span = same_span s r first.span_is second.span_is parts.spans in
    (λ i. Read (location i) (value i) (origin i) (span i))
same_op (Read l v o s) (Write m w r) h k e = let bytes = same_first (op_line (Read l v o s)) (op_line (Write m w r)) e in absurd (omega (arith, bytes))
same_op (Read l v o s) (Update m w x p r) h k e = let bytes = same_first (op_line (Read l v o s)) (op_line (Update m w x p r)) e in absurd (omega (arith, bytes))
same_op (Write l v s) (Read m w p r) h k e = let bytes = same_first (op_line (Write l v s)) (op_line (Read m w p r)) e in absurd (omega (arith, bytes))
same_op (Write l v s) (Write m w r) h k e =
    let first = write_parts l v s h in
    let second = write_parts m w r k in
    let location : l ≡ m = cc in
    let digits : decimal v ≡ decimal w = cc in
    let words : span_words s ≡ span_words r = cc in
    let value = decimal_injective v w first.small second.small digits in
    let span = same_span s r first.span_is second.span_is words in
    (λ i. Write (location i) (value i) (span i))
same_op (Write l v s) (Update m w x p r) h k e = let bytes = same_first (op_line (Write l v s)) (op_line (Update m w x p r)) e in absurd (omega (arith, bytes))
same_op (Update l u v o s) (Read m w p r) h k e = let bytes = same_first (op_line (Update l u v o s)) (op_line (Read m w p r)) e in absurd (omega (arith, bytes))
same_op (Update l u v o s) (Write m w r) h k e = let bytes = same_first (op_line (Update l u v o s)) (op_line (Write m w r)) e in absurd (omega (arith, bytes))
same_op (Update l u v o s) (Update m w x p r) h k e =
    let first = update_parts l u v o s h in
    let second = update_parts m w x p r k in
    let location : l ≡ m = cc in
    let read_digits : decimal u ≡ decimal w = cc in
    let left_digits : decimal v ≡ decimal x = cc in
    let words : origin_words o ++ span_words s ≡ origin_words p ++ span_words r = cc in
    let parts = words_apart o p s r words in
    let read = decimal_injective u w first.read_small second.read_small read_digits in
    let left = decimal_injective v x first.left_small second.left_small left_digits in
    let origin = same_origin o p first.origin_is second.origin_is parts.origins in
    let span = same_span s r first.span_is second.span_is parts.spans in
    (λ i. Update (location i) (read i) (left i) (origin i) (span i))

-- no line of an operation begins a process
not_proc : (name : List ℕ) (op : Op) → proc_line name ≡ op_line op → ⊥
not_proc name (Read l v o s) e = let bytes = same_first (proc_line name) (op_line (Read l v o s)) e in omega (arith, bytes)
not_proc name (Write l v s) e = let bytes = same_first (proc_line name) (op_line (Write l v s)) e in omega (arith, bytes)
not_proc name (Update l v w o s) e = let bytes = same_first (proc_line name) (op_line (Update l v w o s)) e in omega (arith, bytes)

not_op : (ps : List Process) (op : Op) (rest : List (List (List ℕ))) → flat_map process_lines ps ≡ op_line op ∷ rest → ⊥
not_op [] op rest e = cc
not_op (p ∷ ps) op rest e = let line : proc_line p.name ≡ op_line op = cc in not_proc p.name op line

-- lines determine the operations up to the next process
same_ops : (a b : List Op) (ps qs : List Process) → list_all is_written_op a ≡ true → list_all is_written_op b ≡ true →
    map op_line a ++ flat_map process_lines ps ≡ map op_line b ++ flat_map process_lines qs → (a ≡ b) × (flat_map process_lines ps ≡ flat_map process_lines qs)
same_ops [] [] ps qs h k e = (refl, e)
same_ops [] (y ∷ b) ps qs h k e = absurd (not_op ps y (map op_line b ++ flat_map process_lines qs) e)
same_ops (x ∷ a) [] ps qs h k e = absurd (not_op qs x (map op_line a ++ flat_map process_lines ps) (sym e))
same_ops (x ∷ a) (y ∷ b) ps qs h k e =
    let first = and_parts (is_written_op x) (list_all is_written_op a) h in
    let second = and_parts (is_written_op y) (list_all is_written_op b) k in
    let line : op_line x ≡ op_line y = cc in
    let lines : map op_line a ++ flat_map process_lines ps ≡ map op_line b ++ flat_map process_lines qs = cc in
    let head = same_op x y first.0 second.0 line in
    let tail = same_ops a b ps qs first.1 second.1 lines in
    (λ i. head i ∷ tail.0 i, tail.1)

pub same_processes : (ps qs : List Process) → list_all is_written_process ps ≡ true → list_all is_written_process qs ≡ true → flat_map process_lines ps ≡ flat_map process_lines qs → ps ≡ qs
same_processes [] [] h k e = refl
same_processes [] (q ∷ qs) h k e = absurd (cc)
same_processes (p ∷ ps) [] h k e = absurd (cc)
same_processes (p ∷ ps) (q ∷ qs) h k e =
    let first = and_parts (is_written_process p) (list_all is_written_process ps) h in
    let second = and_parts (is_written_process q) (list_all is_written_process qs) k in
    let name : p.name ≡ q.name = cc in
    let lines : map op_line p.operations ++ flat_map process_lines ps ≡ map op_line q.operations ++ flat_map process_lines qs = cc in
    let ops = same_ops p.operations q.operations ps qs (and_parts (is_name p.name) (list_all is_written_op p.operations) first.0).1
    (and_parts (is_name q.name) (list_all is_written_op q.operations) second.0).1 lines in
    let tail = same_processes ps qs first.1 second.1 ops.1 in
    (λ i. record { name = name i; operations = ops.0 i } ∷ tail i)

-- a line gives the pair
same_pair : (a b : OpName × OpName) → is_written_pair a ≡ true → is_written_pair b ≡ true → before_line a ≡ before_line b → a ≡ b
same_pair a b h k e =
    let first = and_parts (is_written_name a.0) (is_written_name a.1) h in
    let second = and_parts (is_written_name b.0) (is_written_name b.1) k in
    let front : a.0.process ≡ b.0.process = cc in
    let front_place : decimal a.0.place ≡ decimal b.0.place = cc in
    let back : a.1.process ≡ b.1.process = cc in
    let back_place : decimal a.1.place ≡ decimal b.1.place = cc in
    let one = same_op_name a.0 b.0 first.0 second.0 front front_place in
    let other = same_op_name a.1 b.1 first.1 second.1 back back_place in
    (λ i. (one i, other i))

-- a line gives the location and the value
abbrev entry_of : List (List ℕ) → List ℕ × ℕ
entry_of words = (get_or words 1 [], digits_value 10 (get_or words 2 []))

told_back : (line : List ℕ × ℕ → List (List ℕ)) → ((entry : List ℕ × ℕ) → entry_of (line entry) ≡ (entry.0, digits_value 10 (decimal entry.1))) →
    (entries : List (List ℕ × ℕ)) → list_all is_written_value entries ≡ true → map entry_of (map line entries) ≡ entries
told_back line tells [] h = refl
told_back line tells (entry ∷ entries) h =
    let parts = and_parts (is_written_value entry) (list_all is_written_value entries) h in
    let small = (value_parts entry.0 entry.1 parts.0).1 in
    let value = (decimal_is_IsNumeral entry.1 small).1 in
    let rest = told_back line tells entries parts.1 in
    let here : entry_of (line entry) ≡ entry = tells entry ∙ (λ i. (entry.0, value i)) in
    (λ i. here i ∷ rest i)

same_entries : (line : List ℕ × ℕ → List (List ℕ)) → ((entry : List ℕ × ℕ) → entry_of (line entry) ≡ (entry.0, digits_value 10 (decimal entry.1))) →
    (xs ys : List (List ℕ × ℕ)) → list_all is_written_value xs ≡ true → list_all is_written_value ys ≡ true → map line xs ≡ map line ys → xs ≡ ys
same_entries line tells xs ys h k e = sym (told_back line tells xs h) ∙ ap (map entry_of) e ∙ told_back line tells ys k

pub permuted_entries : (line : List ℕ × ℕ → List (List ℕ)) → ((entry : List ℕ × ℕ) → entry_of (line entry) ≡ (entry.0, digits_value 10 (decimal entry.1))) →
    (xs ys : List (List ℕ × ℕ)) → list_all is_written_value xs ≡ true → list_all is_written_value ys ≡ true → IsPermutation (map line xs) (map line ys) → IsPermutation xs ys
permuted_entries line tells xs ys h k moved =
    subst (λ (l : List (List ℕ × ℕ)). IsPermutation l ys) (told_back line tells xs h)
    (subst (λ (l : List (List ℕ × ℕ)). IsPermutation (map entry_of (map line xs)) l) (told_back line tells ys k)
    (IsPermutation-map entry_of (map line xs) (map line ys) moved))

same_pairs : (xs ys : List (OpName × OpName)) → list_all is_written_pair xs ≡ true → list_all is_written_pair ys ≡ true → map before_line xs ≡ map before_line ys → xs ≡ ys
same_pairs [] [] h k e = refl
same_pairs [] (y ∷ ys) h k e = absurd (cc)
same_pairs (x ∷ xs) [] h k e = absurd (cc)
same_pairs (x ∷ xs) (y ∷ ys) h k e =
    let first = and_parts (is_written_pair x) (list_all is_written_pair xs) h in
    let second = and_parts (is_written_pair y) (list_all is_written_pair ys) k in
    let line : before_line x ≡ before_line y = cc in
    let lines : map before_line xs ≡ map before_line ys = cc in
    let head = same_pair x y first.0 second.0 line in
    let tail = same_pairs xs ys first.1 second.1 lines in
    (λ i. head i ∷ tail i)

-- a canonical text is of one trace
pub one_canonical : (s t : TraceValue) → IsWritten s → IsWritten t → canonical_trace s ≡ canonical_trace t → s ≡ t
one_canonical s t h k e =
    let lines = sym (written_kept (canonical_lines s) (lines_kept_of s h)) ∙ ap (λ text. kept (lines_of text)) e ∙ written_kept (canonical_lines t) (lines_kept_of t k) in
    let body : canonical_body s ≡ canonical_body t = cc in
    let processes = same_processes s.processes t.processes h.processes k.processes (sym (process_part s) ∙ ap (filter is_process_line) body ∙ process_part t) in
    let initial = same_entries init_line (λ entry. refl) s.initial t.initial h.initial k.initial (sym (init_part s) ∙ ap (filter (begins (codes "init"))) body ∙ init_part t) in
    let final_values = same_entries final_line (λ entry. refl) s.final_values t.final_values h.final_values k.final_values (sym (final_part s) ∙ ap (filter (begins (codes "final"))) body ∙ final_part t) in
    let before = same_pairs s.before t.before h.before k.before (sym (before_part s) ∙ ap (filter (begins (codes "before"))) body ∙ before_part t) in
    (λ i. record { processes = processes i; initial = initial i; final_values = final_values i; before = before i })

-- both are the same lines in another order
both_permuted : (a b c d : List (List (List ℕ))) → IsPermutation a c → IsPermutation b d → c ≡ d → IsPermutation a b
both_permuted a b c d h k e = IsPermutation-trans a d b (subst (λ (l : List (List (List ℕ))). IsPermutation a l) e h) (IsPermutation-sym b d k)

pairs_told : (xs ys : List (OpName × OpName)) (lines others : List (List (List ℕ))) → list_all is_written_pair xs ≡ true → list_all is_written_pair ys ≡ true → lines ≡ others →
    ((words : List (List ℕ)) → Contains lines words ↔ Contains (map before_line xs) words) → ((words : List (List ℕ)) → Contains others words ↔ Contains (map before_line ys) words) →
    (pair : OpName × OpName) → Contains xs pair → Contains ys pair
pairs_told xs ys lines others h k e first second pair c =
    let here = (first (before_line pair)).1 (to_map before_line xs pair c) in
    let there = (second (before_line pair)).0 (subst (λ (l : List (List (List ℕ))). Contains l (before_line pair)) e here) in
    let found = from_map before_line ys (before_line pair) there in
    let same = same_pair found.0 pair (all_pass is_written_pair ys k found.0 found.1) (all_pass is_written_pair xs h pair c) found.2 in
    subst (λ (p : OpName × OpName). Contains ys p) same found.1

-- a text spells one trace
pub one_spelled : (text : List ℕ) (s t : TraceValue) → IsTrace s → IsTrace t → SpellsTrace text s → SpellsTrace text t → s ≡ t
one_spelled text s t h k first second =
    let lines : header_line first.version ∷ first.body ≡ header_line second.version ∷ second.body = sym first.lines ∙ second.lines in
    let body : first.body ≡ second.body = cc in
    let pairs : filter (begins (codes "before")) first.body ≡ filter (begins (codes "before")) second.body = ap (filter (begins (codes "before"))) body in
    let processes = same_processes s.processes t.processes h.written.processes k.written.processes (sym first.processes ∙ ap (filter is_process_line) body ∙ second.processes) in
    let initial = values_same s.initial t.initial h.initial_order k.initial_order (permuted_entries init_line (λ entry. refl) s.initial t.initial h.written.initial k.written.initial
    (both_permuted (map init_line s.initial) (map init_line t.initial) (filter (begins (codes "init")) first.body) (filter (begins (codes "init")) second.body) first.initial second.initial (ap (filter (begins (codes "init"))) body))) in
    let final_values = values_same s.final_values t.final_values h.final_order k.final_order (permuted_entries final_line (λ entry. refl) s.final_values t.final_values h.written.final_values k.written.final_values
    (both_permuted (map final_line s.final_values) (map final_line t.final_values) (filter (begins (codes "final")) first.body) (filter (begins (codes "final")) second.body) first.final_values second.final_values (ap (filter (begins (codes "final"))) body))) in
    let before = pairs_same s.processes s.before t.before h.before_order (subst (λ (ps : List Process). ArePairsRising ps t.before) (sym processes) k.before_order)
    (pairs_told s.before t.before (filter (begins (codes "before")) first.body) (filter (begins (codes "before")) second.body) h.written.before k.written.before pairs first.before second.before)
    (pairs_told t.before s.before (filter (begins (codes "before")) second.body) (filter (begins (codes "before")) first.body) k.written.before h.written.before (sym pairs) second.before first.before) in
    (λ i. record { processes = processes i; initial = initial i; final_values = final_values i; before = before i })
