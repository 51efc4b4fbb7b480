-- The text of a part spells it: comments are passed over.
use Rattle.std.proofs.Common.{◌≡◌, ◌^◌, ◌<◌, ◌≤◌, ◌+◌, ℕ, zero, suc, List, [], ◌∷◌, ◌++◌, length, map, get_or, Bool, true, false, cond, not, ◌&&◌, refl, ap, sym, ◌∙◌, arith, append_assoc, length-append, subst, inl, inr}
use Rattle.std.specs.Prelude.{Option, None, Some, codes, slice_index_or}
use Rattle.std.specs.Fmt.{decimal}
use Rattle.std.specs.List.{filter, flat_map, join_with_byte, list_all, list_any, slice_get}
use Rattle.std.proofs.lemmas.Bool.{and_from, and_parts, cases_lt, ne_eqb, not-true, not_from_false, or_from}
use Rattle.std.proofs.lemmas.List.{get_or-map, get_or_past, length-map}
use Rattle.std.proofs.lemmas.Option.{none-some}
use Rattle.std.proofs.lemmas.List.Elements.{filter-append}
use Rattle.std.proofs.lemmas.List.Folds.{list_all-append, list_any-append}
use Rattle.std.proofs.lemmas.List.Sums.{get_or-le-sum_by}
use Rattle.text_lines.specs.Kept.{kept, is_skipped}
use Rattle.text_lines.specs.Lines.{lines_of, is_line_feed}
use Rattle.text_lines.specs.Words.{is_blank, is_empty}
use Rattle.text_lines.proofs.Cutting.LineLemmas.{line_ended}
use Rattle.trace_semantics.specs.declared.operation.Op.{Op}
use Rattle.trace_semantics.specs.declared.operation.OpName.{OpName}
use Rattle.trace_semantics.specs.declared.trace.Process.{Process}
use Rattle.trace_semantics.specs.Judgement.{has_come}
use Rattle.trace_semantics.specs.Names.{is_name}
use Rattle.trace_semantics.specs.Trace.{TraceValue, IsTrace, is_written_process}
use Rattle.restriction.specs.Left.{is_left, names_from}
use Rattle.part_law.specs.Part.{stays}
use Rattle.part_law.proofs.TraceLemmas.{part_is_trace}
use Rattle.trace_text.specs.TraceText.{SpellsTrace, header_line, init_line, final_line, op_line, proc_line, process_lines, before_line}
use Rattle.trace_text.specs.TraceWritten.{version_for, canonical_lines, canonical_trace, line_text}
use Rattle.trace_text.proofs.Writing.LineTextLemmas.{is_line, is_word, name_is_word, no_line_feed_joined, number_is_word, words_joined, written_kept}
use Rattle.trace_text.proofs.Writing.TraceWrittenLemmas.{lines_kept_of, written_spells}
use Rattle.trace_part.specs.TraceParts.{PartValue, IsPart, left_places}
use Rattle.part_text.specs.PartText.{name_comment, named_op, named_ops, named_process, named_processes, named_lines, part_text}

-- ---- lines of words

abbrev says : List (List ℕ) → Bool
says words = not (is_skipped words)

abbrev are_words : List (List ℕ) → Bool
are_words words = list_all is_word words

-- of a text that is written, the lines that say something are kept
kept_written : (lines : List (List (List ℕ))) → list_all are_words lines ≡ true → kept (lines_of (flat_map line_text lines)) ≡ filter says lines
kept_written [] h = refl
kept_written (line ∷ lines) h =
    let parts = and_parts (are_words line) (list_all are_words lines) h in
    let words = words_joined line parts.0 in
    let more = kept_written lines parts.1 in
    ap (λ l. kept (lines_of l)) (append_assoc (join_with_byte 32 line) (10 ∷ []) (flat_map line_text lines))
    ∙ ap kept (line_ended (join_with_byte 32 line) (flat_map line_text lines) (no_line_feed_joined line parts.0))
    ∙ (λ i. cond (says (words i)) (words i ∷ more i) (more i))

-- ---- the words of a comment

joined_word : (p d : List ℕ) → is_word p ≡ true → is_word d ≡ true → is_word (p ++ 46 ∷ d) ≡ true
joined_word p d hp hd =
    let p_all = and_parts (not (is_empty p) && not (list_any is_blank p)) (not (list_any is_line_feed p)) hp in
    let d_all = and_parts (not (is_empty d) && not (list_any is_blank d)) (not (list_any is_line_feed d)) hd in
    let p_some = and_parts (not (is_empty p)) (not (list_any is_blank p)) p_all.0 in
    let d_some = and_parts (not (is_empty d)) (not (list_any is_blank d)) d_all.0 in
    and_from _ _
    (and_from _ _
    (not_from_false (is_empty (p ++ 46 ∷ d)) (ne_eqb (length (p ++ 46 ∷ d)) 0 (λ e. omega (arith, e, length-append p (46 ∷ d)))))
    (not_from_false _ (list_any-append is_blank p (46 ∷ d) ∙ or_from _ _ (not-true _ p_some.1) (or_from (is_blank 46) (list_any is_blank d) refl (not-true _ d_some.1)))))
    (not_from_false _ (list_any-append is_line_feed p (46 ∷ d) ∙ or_from _ _ (not-true _ p_all.1) (or_from (is_line_feed 46) (list_any is_line_feed d) refl (not-true _ d_all.1))))

comment_words : (process : List ℕ) (place : ℕ) → is_name process ≡ true → place < 2 ^ 64 → are_words (name_comment (record { process = process; place = place })) ≡ true
comment_words process place name small =
    and_from (is_word (codes "#")) _ refl (and_from (is_word (process ++ 46 ∷ decimal place)) true (joined_word process (decimal place) (name_is_word process name) (number_is_word place small)) refl)

-- places that can be written
abbrev AreSmall : List ℕ → Type 0
AreSmall places = (k v : ℕ) → slice_get places k ≡ Some v → v < 2 ^ 64

module _ (process : List ℕ) (name : is_name process ≡ true) where
  op_words : (place : Option ℕ) (op : Op) → ((v : ℕ) → place ≡ Some v → v < 2 ^ 64) → are_words (op_line op) ≡ true → list_all are_words (named_op process place op) ≡ true
  op_words None op small h = and_from (are_words (op_line op)) true h refl
  op_words (Some v) op small h = and_from _ _ (comment_words process v name (small v refl)) (and_from (are_words (op_line op)) true h refl)

  ops_words : (places : List ℕ) (k : ℕ) (ops : List Op) → AreSmall places → list_all are_words (map op_line ops) ≡ true → list_all are_words (named_ops process places k ops) ≡ true
  ops_words places k [] small h = refl
  ops_words places k (op ∷ ops) small h =
      let parts = and_parts (are_words (op_line op)) (list_all are_words (map op_line ops)) h in
      list_all-append are_words (named_op process (slice_get places k) op) (named_ops process places (k + 1) ops)
      ∙ and_from _ _ (op_words (slice_get places k) op (small k) parts.0) (ops_words places (k + 1) ops small parts.1)

-- ---- comments say nothing

op_says : (process : List ℕ) (place : Option ℕ) (op : Op) → filter says (named_op process place op) ≡ filter says (op_line op ∷ [])
op_says process None op = refl
op_says process (Some v) op = refl

ops_say : (process places : List ℕ) (k : ℕ) (ops : List Op) → filter says (named_ops process places k ops) ≡ filter says (map op_line ops)
ops_say process places k [] = refl
ops_say process places k (op ∷ ops) =
    filter-append says (named_op process (slice_get places k) op) (named_ops process places (k + 1) ops)
    ∙ (λ i. op_says process (slice_get places k) op i ++ ops_say process places (k + 1) ops i)
    ∙ sym (filter-append says (op_line op ∷ []) (map op_line ops))

processes_say : (places : List (List ℕ)) (k : ℕ) (ps : List Process) → filter says (named_processes places k ps) ≡ filter says (flat_map process_lines ps)
processes_say places k [] = refl
processes_say places k (p ∷ ps) =
    let one : filter says (named_process (slice_index_or places k []) p) ≡ filter says (process_lines p) =
    ap (λ l. cond (says (proc_line p.name)) (proc_line p.name ∷ l) l) (ops_say p.name (slice_index_or places k []) 0 p.operations) in
    filter-append says (named_process (slice_index_or places k []) p) (named_processes places (k + 1) ps)
    ∙ (λ i. one i ++ processes_say places (k + 1) ps i)
    ∙ sym (filter-append says (process_lines p) (flat_map process_lines ps))

-- ---- the whole text

all_words : (lines : List (List (List ℕ))) → list_all is_line lines ≡ true → list_all are_words lines ≡ true
all_words [] h = refl
all_words (line ∷ lines) h =
    let parts = and_parts (is_line line) (list_all is_line lines) h in
    and_from _ _ (and_parts (are_words line) (says line) parts.0).0 (all_words lines parts.1)

all_say : (lines : List (List (List ℕ))) → list_all is_line lines ≡ true → filter says lines ≡ lines
all_say [] h = refl
all_say (line ∷ lines) h =
    let parts = and_parts (is_line line) (list_all is_line lines) h in
    let here = (and_parts (are_words line) (says line) parts.0).1 in
    (λ i. cond (here i) (line ∷ filter says lines) (filter says lines)) ∙ ap (λ l. line ∷ l) (all_say lines parts.1)

processes_words : (places : List (List ℕ)) (k : ℕ) (ps : List Process) → ((j : ℕ) → AreSmall (slice_index_or places j [])) → list_all is_written_process ps ≡ true → list_all are_words (flat_map process_lines ps) ≡ true →
    list_all are_words (named_processes places k ps) ≡ true
processes_words places k [] small written h = refl
processes_words places k (p ∷ ps) small written h =
    let parts = and_parts (list_all are_words (process_lines p)) (list_all are_words (flat_map process_lines ps)) (sym (list_all-append are_words (process_lines p) (flat_map process_lines ps)) ∙ h) in
    let named = and_parts (is_written_process p) (list_all is_written_process ps) written in
    let first = and_parts (are_words (proc_line p.name)) (list_all are_words (map op_line p.operations)) parts.0 in
    list_all-append are_words (named_process (slice_index_or places k []) p) (named_processes places (k + 1) ps)
    ∙ and_from _ _
    (and_from _ _ first.0 (ops_words p.name (and_parts (is_name p.name) _ named.0).0 (slice_index_or places k []) 0 p.operations (small k) first.1))
    (processes_words places (k + 1) ps small named.1 parts.1)

-- four lists one after the other, of which the third is another
module _ (head : List (List ℕ)) (a b c d : List (List (List ℕ))) where
  abbrev row : List (List (List ℕ)) → List (List (List ℕ))
  row x = head ∷ (a ++ (b ++ (x ++ d)))

  row_says : (x : List (List (List ℕ))) → filter says x ≡ filter says c → filter says (row x) ≡ filter says (row c)
  row_says x e =
      let parts : (y : List (List (List ℕ))) → filter says (a ++ (b ++ (y ++ d))) ≡ filter says a ++ (filter says b ++ (filter says y ++ filter says d)) =
      λ y. filter-append says a (b ++ (y ++ d)) ∙ ap (λ l. filter says a ++ l) (filter-append says b (y ++ d) ∙ ap (λ l. filter says b ++ l) (filter-append says y d)) in
      ap (λ l. cond (says head) (head ∷ l) l) (parts x ∙ ap (λ l. filter says a ++ (filter says b ++ (l ++ filter says d))) e ∙ sym (parts c))

  row_words : (x : List (List (List ℕ))) → (list_all are_words c ≡ true → list_all are_words x ≡ true) → list_all are_words (row c) ≡ true → list_all are_words (row x) ≡ true
  row_words x more h =
      let first = and_parts (are_words head) (list_all are_words (a ++ (b ++ (c ++ d)))) h in
      let second = and_parts (list_all are_words a) (list_all are_words (b ++ (c ++ d))) (sym (list_all-append are_words a (b ++ (c ++ d))) ∙ first.1) in
      let third = and_parts (list_all are_words b) (list_all are_words (c ++ d)) (sym (list_all-append are_words b (c ++ d)) ∙ second.1) in
      let fourth = and_parts (list_all are_words c) (list_all are_words d) (sym (list_all-append are_words c d) ∙ third.1) in
      and_from _ _ first.0
      (list_all-append are_words a (b ++ (x ++ d)) ∙ and_from _ _ second.0
      (list_all-append are_words b (x ++ d) ∙ and_from _ _ third.0
      (list_all-append are_words x d ∙ and_from _ _ (more fourth.0) fourth.1)))

-- ---- places in the whole

-- the places of what remains of a process
low_places : (p : OpName → Bool) (process : List ℕ) (low n most k v : ℕ) → low + n ≤ most + 1 → slice_get (map (λ (m : OpName). m.place) (filter p (names_from process low n))) k ≡ Some v → v ≤ most
low_places p process low zero most k v l e = absurd (cc)
low_places p process low (suc n) most k v l e =
    go (p (record { process = process; place = low })) k (λ j. low_places p process (low + 1) n most j v (omega (arith, l))) e
  where
    go : (b : Bool) (j : ℕ) → ((i : ℕ) → slice_get (map (λ (m : OpName). m.place) (filter p (names_from process (low + 1) n))) i ≡ Some v → v ≤ most)
        → slice_get (map (λ (m : OpName). m.place) (cond b (record { process = process; place = low } ∷ filter p (names_from process (low + 1) n)) (filter p (names_from process (low + 1) n)))) j ≡ Some v → v ≤ most
    go false j later f = later j f
    go true zero later f = let same : low ≡ v = cc in omega (arith, l, same)
    go true (suc j) later f = later j f

small_places : (t : TraceValue) → IsTrace t → (left : OpName → Option Op) (j : ℕ) → AreSmall (slice_index_or (map (left_places left) t.processes) j [])
small_places t ok left j k v e =
    elim (cases_lt j (length t.processes)) [
      | inl within ↦ (
          let q : Process = get_or t.processes j blank in
          let here : get_or (map (left_places left) t.processes) j [] ≡ left_places left q = get_or-map (left_places left) t.processes j blank [] within in
          let low = low_places (is_left left) q.name 1 (length q.operations) (length q.operations) k v (omega arith) (ap (λ l. slice_get l k) (sym here) ∙ e) in
          omega (arith, low, get_or-le-sum_by (λ (p : Process). length p.operations) t.processes j blank within, ok.few_operations)
          )
      | inr past ↦ (
          let none : get_or (map (left_places left) t.processes) j [] ≡ [] = get_or_past (map (left_places left) t.processes) j [] (omega (arith, past, length-map t.processes (left_places left))) in
          let nothing : None ≡ Some v = ap (λ l. slice_get l k) (sym none) ∙ e in
          absurd (none-some v nothing)
          )
    ]
  where
    blank : Process
    blank = record { name = []; operations = [] }

-- ---- the law

pub text_spells : (t : TraceValue) (names : List OpName) (p : PartValue) (shows_names : Bool) → IsTrace t → IsPart t names p → SpellsTrace (part_text shows_names p) p.trace
text_spells t names p false ok given = written_spells p.trace (subst IsTrace (sym given.trace_is) (part_is_trace t ok given.ordered (has_come names)))
text_spells t names p true ok given =
    let is_trace : IsTrace p.trace = subst IsTrace (sym given.trace_is) (part_is_trace t ok given.ordered (has_come names)) in
    let plain = written_spells p.trace is_trace in
    let small : (j : ℕ) → AreSmall (slice_index_or p.places j []) =
    subst (λ (places : List (List ℕ)). (j : ℕ) → AreSmall (slice_index_or places j [])) (sym given.places_are) (small_places t ok (stays t given.ordered (has_come names))) in
    let head = header_line (version_for p.trace) in
    let first = map init_line p.trace.initial in
    let second = map final_line p.trace.final_values in
    let third = flat_map process_lines p.trace.processes in
    let last = map before_line p.trace.before in
    let lines = lines_kept_of p.trace is_trace.written in
    let words = row_words head first second third last (named_processes p.places 0 p.trace.processes)
    (processes_words p.places 0 p.trace.processes small is_trace.written.processes) (all_words (canonical_lines p.trace) lines) in
    let same : kept (lines_of (part_text true p)) ≡ canonical_lines p.trace =
    kept_written (named_lines p) words ∙ row_says head first second third last (named_processes p.places 0 p.trace.processes) (processes_say p.places 0 p.trace.processes) ∙ all_say (canonical_lines p.trace) lines in
    let before : kept (lines_of (canonical_trace p.trace)) ≡ canonical_lines p.trace = written_kept (canonical_lines p.trace) lines in
    record {
      version = plain.version;
      body = plain.body;
      lines = same ∙ sym before ∙ plain.lines;
      processes = plain.processes;
      initial = plain.initial;
      final_values = plain.final_values;
      in_front = plain.in_front;
      before = plain.before;
      few_before = plain.few_before;
      lines_known = plain.lines_known;
      times_known = plain.times_known;
      fits = plain.fits;
    }
