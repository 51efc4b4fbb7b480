-- What is gathered from statements, put in order, is a trace that their lines spell.
use Rattle.std.proofs.Common.{◌≡◌, ◌≢◌, ℕ, ◌≤◌, List, [], ◌∷◌, ◌++◌, length, get_or, map, Bool, true, false, not, ◌||◌, codes, refl, ap, sym, ◌∙◌, arith, subst}
use Rattle.std.specs.Prelude.{Some, ◌==◌, ◌↔◌}
use Rattle.std.specs.List.{AllPairs, Contains, filter, filter_map, flat_map, list_all, list_any}
use Rattle.std.specs.List.Sorted.{IsPermutation}
use Rattle.std.proofs.lemmas.List.{length-map}
use Rattle.std.proofs.lemmas.List.Elements.{Contains-get_or}
use Rattle.std.proofs.lemmas.List.Sorted.{IsPermutation-map, IsPermutation-sym, All-permutation}
use Rattle.std.proofs.lemmas.List.Sums.{AllPass-from_list_all, list_all-from_AllPass}
use Rattle.text_lines.specs.FirstFault.{IsFaultless}
use Rattle.text_lines.specs.Lines.{lines_of}
use Rattle.trace_semantics.specs.declared.operation.OpName.{OpName}
use Rattle.trace_semantics.specs.declared.trace.Process.{Process}
use Rattle.trace_text.specs.Entry.{init_statement, final_statement, before_statement}
use Rattle.trace_text.specs.Gathered.{IsArranged, is_of_process, is_init, is_final, process_statements}
use Rattle.trace_semantics.specs.Locations.{distinct}
use Rattle.trace_semantics.specs.PairOrder.{ArrangesPairs}
use Rattle.trace_text.specs.Read.{saying, AreSaid}
use Rattle.trace_text.specs.References.{fault_of_line}
use Rattle.trace_text.specs.Statement.{Statement, words_for}
use Rattle.trace_semantics.specs.Trace.{TraceValue, IsTrace, IsWritten, IsOneEach, is_written_value, is_written_process, is_written_pair, locations_of}
use Rattle.trace_text.specs.TraceFault.{statement_fault, is_proc, is_operation, is_before, is_value_line, location_named}
use Rattle.trace_text.specs.TraceText.{SpellsTrace, init_line, final_line, before_line, begins, is_process_line, needs_version_2}
use Rattle.trace_text.proofs.Reading.CountLemmas.{count_procs, count_operations}
use Rattle.trace_text.proofs.LineWords.KnownLemmas.{pairs_known, pairs_apart, origins_known}
use Rattle.trace_text.proofs.Reading.LocationLemmas.{named_by_some}
use Rattle.trace_text.proofs.InOrder.OrderedLemmas.{one_each_moved, rising}
use Rattle.trace_semantics.proofs.ElementLemmas.{from_map, to_map, all_pass, pass_all}
use Rattle.trace_semantics.proofs.DistinctLemmas.{few_named}
use Rattle.trace_text.proofs.InOrder.PairOrderLemmas.{IsKnownPair, pair_kept}
use Rattle.trace_text.proofs.LineWords.SpellLemmas.{filter_lines, any_line, of_process, of_init, of_final, of_before, of_proc, of_value, processes_words, mapped_words, values_in_front, split_lines, no_origins, no_spans, no_pairs}
use Rattle.trace_text.proofs.LineWords.SpanLemmas.{span_right}
use Rattle.trace_semantics.specs.declared.limits.Limits.{Limits}
use Rattle.trace_semantics.specs.Limits.{max_operations, max_locations, max_pairs}
use Rattle.trace_semantics.proofs.LimitLemmas.{operations_in, pairs_in, locations_in}
use Rattle.trace_text.specs.declared.version.Version.{Version}
use Rattle.trace_text.specs.declared.version.Version.TheVariants.{One, Two, Three}
use Rattle.trace_text.specs.Version.{has_version_2_lines, limits_of}

-- what is gathered from statements in their order, where none has a fault
pub record AreGathered (limits : Limits) (ss : List Statement) (u : TraceValue) : Type 0 where
  pub processes : filter is_of_process ss ≡ flat_map process_statements u.processes
  pub initial : filter is_init ss ≡ map init_statement u.initial
  pub final_values : filter is_final ss ≡ map final_statement u.final_values
  pub before : filter is_before ss ≡ map before_statement u.before
  pub processes_apart : AllPairs (λ (p q : Process). p.name ≢ q.name) u.processes
  pub initial_apart : IsOneEach u.initial
  pub finals_apart : IsOneEach u.final_values
  pub written : IsWritten u
  pub few_processes : length (filter is_proc ss) ≤ 64
  pub few_operations : length (filter is_operation ss) ≤ max_operations limits
  pub few_before : length (filter is_before ss) ≤ max_pairs limits
  pub few_locations : length (distinct (filter_map location_named ss)) ≤ max_locations limits

all_moved : {A : Type 0} (p : A → Bool) (xs ys : List A) → IsPermutation xs ys → list_all p xs ≡ true → list_all p ys ≡ true
all_moved p xs ys m h = list_all-from_AllPass p ys (All-permutation (λ x. p x ≡ true) xs ys m (AllPass-from_list_all p xs h))

-- the operations of the pairs are known
pairs_of : (version : Version) (lines : List (List ℕ)) (ss : List Statement) (u t : TraceValue) → AreSaid version lines ss → AreGathered (limits_of version) ss u → IsArranged u t → IsFaultless (λ (before : List (List ℕ)) (here : List ℕ). fault_of_line version t.processes here) lines →
    (pair : OpName × OpName) → Contains u.before pair → IsKnownPair t pair
pairs_of version lines ss u t r g a f = pairs_known t u.before version lines ss (subst (λ (ps : List Process). AllPairs (λ (p q : Process). p.name ≢ q.name) ps) (sym a.processes) g.processes_apart) r g.before g.written.before f

-- what is gathered, in order, is a trace
pub trace_arranged : (version : Version) (lines : List (List ℕ)) (ss : List Statement) (u t : TraceValue) → AreSaid version lines ss → AreGathered (limits_of version) ss u → IsArranged u t → IsFaultless (λ (before : List (List ℕ)) (here : List ℕ). fault_of_line version t.processes here) lines → IsTrace t
trace_arranged version lines ss u t r g a f =
    let distinct_ones = subst (λ (ps : List Process). AllPairs (λ (p q : Process). p.name ≢ q.name) ps) (sym a.processes) g.processes_apart in
    let processes : filter is_of_process ss ≡ flat_map process_statements t.processes = g.processes ∙ ap (flat_map process_statements) (sym a.processes) in
    let pairs : length (filter is_before ss) ≡ length u.before = ap length g.before ∙ length-map u.before before_statement in
    let written_processes : list_all is_written_process t.processes ≡ true = ap (list_all is_written_process) a.processes ∙ g.written.processes in
    let initial = one_each_moved u.initial t.initial a.initial g.initial_apart in
    let finals = one_each_moved u.final_values t.final_values a.final_values g.finals_apart in
    record {
      distinct = distinct_ones;
      few_processes = omega (arith, g.few_processes, count_procs ss t.processes processes);
      few_operations = omega (arith, operations_in (limits_of version), g.few_operations, count_operations ss t.processes processes);
      initial = initial;
      final_values = finals;
      few_pairs = omega (arith, pairs_in (limits_of version), g.few_before, pairs, a.before.few);
      known = λ k d l. pairs_of version lines ss u t r g a f (get_or t.before k d) (a.before.taken (get_or t.before k d) (Contains-get_or t.before k d l));
      written = record {
        processes = written_processes;
        initial = all_moved is_written_value u.initial t.initial a.initial g.written.initial;
        final_values = all_moved is_written_value u.final_values t.final_values a.final_values g.written.final_values;
        before = pass_all is_written_pair t.before (λ pair c. all_pass is_written_pair u.before g.written.before pair (a.before.taken pair c));
      };
      initial_order = rising t.initial a.initial_sorted initial;
      final_order = rising t.final_values a.final_sorted finals;
      before_apart = λ k d l. pairs_apart u.before version lines ss t.processes r g.before f (get_or t.before k d) (a.before.taken (get_or t.before k d) (Contains-get_or t.before k d l));
      origins = λ k d l j e m. origins_known t version lines ss distinct_ones r processes written_processes f (get_or t.processes k d) (Contains-get_or t.processes k d l) (get_or (get_or t.processes k d).operations j e) (Contains-get_or (get_or t.processes k d).operations j e m);
      spans = λ k d l j e m. span_right (limits_of version) ss t.processes r.faultless processes written_processes (get_or t.processes k d) (Contains-get_or t.processes k d l) (get_or (get_or t.processes k d).operations j e) (Contains-get_or (get_or t.processes k d).operations j e m);
      before_order = a.before.rising;
      few_locations = omega (arith, locations_in (limits_of version), g.few_locations, few_named (locations_of t) (filter_map location_named ss) (named_by_some ss t u.initial u.final_values a.initial a.final_values g.initial g.final_values processes));
    }

lines_in_front : (limits : Limits) (ss : List Statement) (front behind : List (List (List ℕ))) → IsFaultless (statement_fault limits) ss → map words_for ss ≡ front ++ behind → list_any (begins (codes "proc")) front ≡ true → list_any (λ words. begins (codes "init") words || begins (codes "final") words) behind ≡ false
lines_in_front limits ss front behind f e p =
    let split = split_lines ss front behind e in
    let proc : list_any is_proc split.first ≡ true = sym (any_line (begins (codes "proc")) is_proc of_proc split.first) ∙ ap (list_any (begins (codes "proc"))) (sym split.front_is) ∙ p in
    ap (list_any (λ words. begins (codes "init") words || begins (codes "final") words)) split.behind_is
    ∙ any_line (λ words. begins (codes "init") words || begins (codes "final") words) is_value_line of_value split.last
    ∙ values_in_front limits ss split.first split.last f split.parts proc

none_left : (old new : List (OpName × OpName)) → old ≡ [] → length new ≤ length old → new ≡ []
none_left old [] e l = refl
none_left old (x ∷ xs) e l = absurd (omega (arith, l, ap length e))

plain_version : (version : Version) (ss : List Statement) (t : TraceValue) (pairs : List (OpName × OpName)) → map (saying version) ss ≡ map Some ss → filter is_of_process ss ≡ flat_map process_statements t.processes → filter is_before ss ≡ map before_statement pairs → length t.before ≤ length pairs → has_version_2_lines version ≡ false → needs_version_2 t ≡ false
plain_version Two ss t pairs h p b l e = absurd (cc)
plain_version Three ss t pairs h p b l e = absurd (cc)
plain_version One ss t pairs h p b l e =
    (λ i. not (length (none_left pairs t.before (no_pairs ss pairs h b) l i) == 0) || no_origins ss t.processes h p i)

-- the lines of a kind are those of what is gathered
pub init_lines : (ss : List Statement) (xs : List (List ℕ × ℕ)) → filter is_init ss ≡ map init_statement xs → filter (begins (codes "init")) (map words_for ss) ≡ map init_line xs
init_lines ss xs h = filter_lines (begins (codes "init")) is_init of_init ss ∙ ap (map words_for) h ∙ mapped_words init_statement init_line (λ x. refl) xs

pub final_lines : (ss : List Statement) (xs : List (List ℕ × ℕ)) → filter is_final ss ≡ map final_statement xs → filter (begins (codes "final")) (map words_for ss) ≡ map final_line xs
final_lines ss xs h = filter_lines (begins (codes "final")) is_final of_final ss ∙ ap (map words_for) h ∙ mapped_words final_statement final_line (λ x. refl) xs

before_lines : (ss : List Statement) (xs : List (OpName × OpName)) → filter is_before ss ≡ map before_statement xs → filter (begins (codes "before")) (map words_for ss) ≡ map before_line xs
before_lines ss xs h = filter_lines (begins (codes "before")) is_before of_before ss ∙ ap (map words_for) h ∙ mapped_words before_statement before_line (λ x. refl) xs

-- the lines of the pairs
same_lines : (t : TraceValue) (old new : List (OpName × OpName)) (lines : List (List (List ℕ))) → lines ≡ map before_line old → ArrangesPairs t.processes old new → ((pair : OpName × OpName) → Contains old pair → IsKnownPair t pair) →
    (words : List (List ℕ)) → Contains lines words ↔ Contains (map before_line new) words
same_lines t old new lines e a known words = (
  (λ (c : Contains lines words).
      let found = from_map before_line old words (subst (λ (l : List (List (List ℕ))). Contains l words) e c) in
      subst (λ (w : List (List ℕ)). Contains (map before_line new) w) found.2 (to_map before_line new found.0 (pair_kept t old new a known found.0 found.1))),
  (λ (c : Contains (map before_line new) words).
      let found = from_map before_line new words c in
      subst (λ (l : List (List (List ℕ))). Contains l words) (sym e) (subst (λ (w : List (List ℕ)). Contains (map before_line old) w) found.2 (to_map before_line old found.0 (a.taken found.0 found.1)))),
)

-- the text of these lines spells it
pub spells_arranged : (version : Version) (text : List ℕ) (ss : List Statement) (u t : TraceValue) → AreSaid version (lines_of text) ss → AreGathered (limits_of version) ss u → IsArranged u t → IsFaultless (λ (before : List (List ℕ)) (here : List ℕ). fault_of_line version t.processes here) (lines_of text) → SpellsTrace text t
spells_arranged version text ss u t r g a f =
    let before = before_lines ss u.before g.before in
    let processes : filter is_of_process ss ≡ flat_map process_statements t.processes = g.processes ∙ ap (flat_map process_statements) (sym a.processes) in
    record {
      version = version;
      body = map words_for ss;
      lines = r.kept_lines;
      processes = filter_lines is_process_line is_of_process of_process ss ∙ ap (map words_for) processes ∙ processes_words t.processes;
      initial = subst (λ (l : List (List (List ℕ))). IsPermutation (map init_line t.initial) l) (sym (init_lines ss u.initial g.initial)) (IsPermutation-map init_line t.initial u.initial (IsPermutation-sym u.initial t.initial a.initial));
      final_values = subst (λ (l : List (List (List ℕ))). IsPermutation (map final_line t.final_values) l) (sym (final_lines ss u.final_values g.final_values)) (IsPermutation-map final_line t.final_values u.final_values (IsPermutation-sym u.final_values t.final_values a.final_values));
      in_front = λ front behind e p. lines_in_front (limits_of version) ss front behind r.faultless e p;
      before = same_lines t u.before t.before (filter (begins (codes "before")) (map words_for ss)) before a.before (pairs_of version (lines_of text) ss u t r g a f);
      few_before = omega (arith, g.few_before, ap length before, length-map u.before before_line, ap length g.before, length-map u.before before_statement);
      lines_known = plain_version version ss t u.before r.said processes g.before a.before.few;
      times_known = λ without. no_spans version ss t.processes without r.said processes;
      fits = record {
        few_operations = omega (arith, g.few_operations, count_operations ss t.processes processes);
        few_locations = omega (arith, g.few_locations, few_named (locations_of t) (filter_map location_named ss) (named_by_some ss t u.initial u.final_values a.initial a.final_values g.initial g.final_values processes));
      };
    }
