-- The statements of a text that spells a trace.
use Rattle.std.proofs.Common.{◌≡◌, ℕ, ◌≤◌, List, [], ◌∷◌, ◌++◌, length, map, true, false, cond, ◌||◌, codes, refl, inl, inr, ap, sym, ◌∙◌, subst, arith}
use Rattle.std.specs.Prelude.{Some}
use Rattle.std.specs.List.{Contains, filter, flat_map, list_any}
use Rattle.std.specs.List.Sorted.{IsPermutation}
use Rattle.std.proofs.lemmas.List.{length-map, map-append}
use Rattle.trace_text.specs.declared.entry.Entry.{Entry}
use Rattle.trace_text.specs.declared.entry.Entry.TheVariants.{Initial as InitialEntry, Final as FinalEntry, Process as ProcessEntry, Operation as OperationEntry, Before as BeforeEntry}
use Rattle.trace_text.specs.Entry.{op_statement, init_statement, final_statement, statement_for}
use Rattle.trace_text.specs.Gathered.{is_init, is_final, is_of_process, process_statements}
use Rattle.trace_text.specs.Read.{saying}
use Rattle.trace_text.specs.Statement.{Statement, Proc, statement_of, words_for}
use Rattle.trace_semantics.specs.Trace.{TraceValue, IsTrace, IsOneEach, is_written_value}
use Rattle.trace_text.specs.TraceFault.{is_proc, is_before, is_value_line, statements_of}
use Rattle.trace_text.specs.TraceText.{SpellsTrace, init_line, final_line, begins, is_process_line}
use Rattle.trace_text.proofs.Reading.ArrangedLemmas.{init_lines, final_lines}
use Rattle.trace_semantics.proofs.ElementLemmas.{head_in, tail_in, none_in, cases_in, pass_all, from_map, from_filter, from_flat_map}
use Rattle.trace_text.proofs.Reading.GatheredLemmas.{op_kind}
use Rattle.trace_text.proofs.OneTraceLemmas.{permuted_entries}
use Rattle.trace_text.proofs.InOrder.OrderedLemmas.{one_each_moved}
use Rattle.trace_text.proofs.LineWords.SaidLemmas.{statements_said}
use Rattle.trace_text.proofs.LineWords.SpellLemmas.{filter_lines, any_line, of_process, of_before, of_proc, of_value, processes_words}
use Rattle.trace_text.proofs.NeverFaulty.ToldLemmas.{Has, are_told, line_tells, had_said, has_writable}
use Rattle.trace_semantics.specs.Limits.{max_pairs}
use Rattle.trace_text.specs.declared.version.Version.{Version}
use Rattle.trace_text.specs.Version.{limits_of}

-- the statement is of an entry of the trace
abbrev pub IsHad : TraceValue → Statement → Type 0
IsHad t s = (e : Entry) × Has t e × (statement_for e ≡ s)

-- the statements of the lines after the header, and which of them are of which kind
pub record AreStated (t : TraceValue) (version : Version) (body : List (List (List ℕ))) : Type 0 where
  pub ss : List Statement
  pub words : body ≡ map words_for ss
  pub said : map (saying version) ss ≡ map Some ss
  pub each : (s : Statement) → Contains ss s → IsHad t s
  pub processes : filter is_of_process ss ≡ flat_map process_statements t.processes
  pub initial : List (List ℕ × ℕ)
  pub initial_are : filter is_init ss ≡ map init_statement initial
  pub initial_apart : IsOneEach initial
  pub finals : List (List ℕ × ℕ)
  pub finals_are : filter is_final ss ≡ map final_statement finals
  pub finals_apart : IsOneEach finals
  pub few_before : length (filter is_before ss) ≤ max_pairs (limits_of version)
  pub in_front : (front behind : List Statement) → ss ≡ front ++ behind → list_any is_proc front ≡ true → list_any is_value_line behind ≡ false

-- the values that entries give
abbrev initial_of : List Entry → List (List ℕ × ℕ)
initial_of [] = []
initial_of (InitialEntry a d ∷ es) = (a, d) ∷ initial_of es
initial_of (FinalEntry a d ∷ es) = initial_of es
initial_of (ProcessEntry name ∷ es) = initial_of es
initial_of (OperationEntry op ∷ es) = initial_of es
initial_of (BeforeEntry m n ∷ es) = initial_of es

abbrev finals_of : List Entry → List (List ℕ × ℕ)
finals_of [] = []
finals_of (InitialEntry a d ∷ es) = finals_of es
finals_of (FinalEntry a d ∷ es) = (a, d) ∷ finals_of es
finals_of (ProcessEntry name ∷ es) = finals_of es
finals_of (OperationEntry op ∷ es) = finals_of es
finals_of (BeforeEntry m n ∷ es) = finals_of es

initial_filtered : (es : List Entry) → filter is_init (map statement_for es) ≡ map init_statement (initial_of es)
initial_filtered [] = refl
initial_filtered (InitialEntry a d ∷ es) = ap (λ l. init_statement (a, d) ∷ l) (initial_filtered es)
initial_filtered (FinalEntry a d ∷ es) = initial_filtered es
initial_filtered (ProcessEntry name ∷ es) = initial_filtered es
initial_filtered (OperationEntry op ∷ es) = ap (λ b. cond b (op_statement op ∷ filter is_init (map statement_for es)) (filter is_init (map statement_for es))) (op_kind op).no_init ∙ initial_filtered es
initial_filtered (BeforeEntry m n ∷ es) = initial_filtered es

finals_filtered : (es : List Entry) → filter is_final (map statement_for es) ≡ map final_statement (finals_of es)
finals_filtered [] = refl
finals_filtered (InitialEntry a d ∷ es) = finals_filtered es
finals_filtered (FinalEntry a d ∷ es) = ap (λ l. final_statement (a, d) ∷ l) (finals_filtered es)
finals_filtered (ProcessEntry name ∷ es) = finals_filtered es
finals_filtered (OperationEntry op ∷ es) = ap (λ b. cond b (op_statement op ∷ filter is_final (map statement_for es)) (filter is_final (map statement_for es))) (op_kind op).no_final ∙ finals_filtered es
finals_filtered (BeforeEntry m n ∷ es) = finals_filtered es

from_initial : (es : List Entry) (x : List ℕ × ℕ) → Contains (initial_of es) x → Contains es (InitialEntry x.0 x.1)
from_initial [] x c = absurd (none_in x c)
from_initial (InitialEntry a d ∷ es) x c = elim (cases_in (a, d) (initial_of es) x c) [
  | inl e ↦ subst (λ (y : List ℕ × ℕ). Contains (InitialEntry a d ∷ es) (InitialEntry y.0 y.1)) e (head_in (InitialEntry a d) es)
  | inr r ↦ tail_in (InitialEntry a d) es (InitialEntry x.0 x.1) (from_initial es x r)
]
from_initial (FinalEntry a d ∷ es) x c = tail_in (FinalEntry a d) es (InitialEntry x.0 x.1) (from_initial es x c)
from_initial (ProcessEntry name ∷ es) x c = tail_in (ProcessEntry name) es (InitialEntry x.0 x.1) (from_initial es x c)
from_initial (OperationEntry op ∷ es) x c = tail_in (OperationEntry op) es (InitialEntry x.0 x.1) (from_initial es x c)
from_initial (BeforeEntry m n ∷ es) x c = tail_in (BeforeEntry m n) es (InitialEntry x.0 x.1) (from_initial es x c)

from_finals : (es : List Entry) (x : List ℕ × ℕ) → Contains (finals_of es) x → Contains es (FinalEntry x.0 x.1)
from_finals [] x c = absurd (none_in x c)
from_finals (InitialEntry a d ∷ es) x c = tail_in (InitialEntry a d) es (FinalEntry x.0 x.1) (from_finals es x c)
from_finals (FinalEntry a d ∷ es) x c = elim (cases_in (a, d) (finals_of es) x c) [
  | inl e ↦ subst (λ (y : List ℕ × ℕ). Contains (FinalEntry a d ∷ es) (FinalEntry y.0 y.1)) e (head_in (FinalEntry a d) es)
  | inr r ↦ tail_in (FinalEntry a d) es (FinalEntry x.0 x.1) (from_finals es x r)
]
from_finals (ProcessEntry name ∷ es) x c = tail_in (ProcessEntry name) es (FinalEntry x.0 x.1) (from_finals es x c)
from_finals (OperationEntry op ∷ es) x c = tail_in (OperationEntry op) es (FinalEntry x.0 x.1) (from_finals es x c)
from_finals (BeforeEntry m n ∷ es) x c = tail_in (BeforeEntry m n) es (FinalEntry x.0 x.1) (from_finals es x c)

pub said_map : (version : Version) (ss : List Statement) → ((s : Statement) → Contains ss s → statement_of version (words_for s) ≡ Some s) → map (saying version) ss ≡ map Some ss
said_map version [] h = refl
said_map version (s ∷ ss) h = λ i. h s (head_in s ss) i ∷ said_map version ss (λ u c. h u (tail_in s ss u c)) i

had_says : (text : List ℕ) (t : TraceValue) (h : SpellsTrace text t) (s : Statement) → IsHad t s → statement_of h.version (words_for s) ≡ Some s
had_says text t h s (e, has, same) = subst (λ (u : Statement). statement_of h.version (words_for u) ≡ Some u) same (had_said h.version t e h.lines_known h.times_known has)

process_had : (t : TraceValue) (s : Statement) → Contains (flat_map process_statements t.processes) s → IsHad t s
process_had t s c =
    let at = from_flat_map process_statements t.processes s c in
    elim (cases_in (Proc at.0.name) (map op_statement at.0.operations) s at.2) [
      | inl e ↦ (ProcessEntry at.0.name, (at.0, at.1, refl), e)
      | inr d ↦ (let op = from_map op_statement at.0.operations s d in (OperationEntry op.0, (at.0, at.1, op.1), op.2))
    ]

-- statements of the same words are the same
same_statements : (version : Version) (xs ys : List Statement) → map (saying version) xs ≡ map Some xs → map (saying version) ys ≡ map Some ys → map words_for xs ≡ map words_for ys → xs ≡ ys
same_statements version xs ys h k e = sym (statements_said version xs h) ∙ ap (statements_of version) e ∙ statements_said version ys k

lines_in_front : (text : List ℕ) (t : TraceValue) (h : SpellsTrace text t) (front behind : List Statement) → h.body ≡ map words_for (front ++ behind) → list_any is_proc front ≡ true → list_any is_value_line behind ≡ false
lines_in_front text t h front behind e p =
    sym (any_line (λ words. begins (codes "init") words || begins (codes "final") words) is_value_line of_value behind)
    ∙ h.in_front (map words_for front) (map words_for behind) (e ∙ map-append words_for front behind) (any_line (begins (codes "proc")) is_proc of_proc front ∙ p)

-- a text that spells a trace is of its statements
pub stated : (text : List ℕ) (t : TraceValue) → IsTrace t → (h : SpellsTrace text t) → AreStated t h.version h.body
stated text t ok h =
    let told = are_told t h.body (line_tells text t h) in
    let es = told.entries in
    let ss = map statement_for es in
    let each : (s : Statement) → Contains ss s → IsHad t s = λ s c. (let at = from_map statement_for es s c in (at.0, told.are_had at.0 at.1, at.2)) in
    let had_initial = λ (x : List ℕ × ℕ) (c : Contains (initial_of es) x). told.are_had (InitialEntry x.0 x.1) (from_initial es x c) in
    let had_final = λ (x : List ℕ × ℕ) (c : Contains (finals_of es) x). told.are_had (FinalEntry x.0 x.1) (from_finals es x c) in
    let initial = permuted_entries init_line (λ entry. refl) t.initial (initial_of es) ok.written.initial
    (pass_all is_written_value (initial_of es) (λ x c. has_writable t (InitialEntry x.0 x.1) ok.written (had_initial x c)))
    (subst (λ (l : List (List (List ℕ))). IsPermutation (map init_line t.initial) l) (ap (filter (begins (codes "init"))) told.words ∙ init_lines ss (initial_of es) (initial_filtered es)) h.initial) in
    let finals = permuted_entries final_line (λ entry. refl) t.final_values (finals_of es) ok.written.final_values
    (pass_all is_written_value (finals_of es) (λ x c. has_writable t (FinalEntry x.0 x.1) ok.written (had_final x c)))
    (subst (λ (l : List (List (List ℕ))). IsPermutation (map final_line t.final_values) l) (ap (filter (begins (codes "final"))) told.words ∙ final_lines ss (finals_of es) (finals_filtered es)) h.final_values) in
    record {
      ss = ss;
      words = told.words;
      said = said_map h.version ss (λ s c. had_says text t h s (each s c));
      each = each;
      processes = same_statements h.version (filter is_of_process ss) (flat_map process_statements t.processes)
          (said_map h.version (filter is_of_process ss) (λ s c. had_says text t h s (each s (from_filter is_of_process ss s c).0)))
          (said_map h.version (flat_map process_statements t.processes) (λ s c. had_says text t h s (process_had t s c)))
          (sym (filter_lines is_process_line is_of_process of_process ss) ∙ ap (filter is_process_line) (sym told.words) ∙ h.processes ∙ sym (processes_words t.processes));
      initial = initial_of es;
      initial_are = initial_filtered es;
      initial_apart = one_each_moved t.initial (initial_of es) initial ok.initial;
      finals = finals_of es;
      finals_are = finals_filtered es;
      finals_apart = one_each_moved t.final_values (finals_of es) finals ok.final_values;
      few_before = omega (arith, h.few_before, ap length (ap (filter (begins (codes "before"))) told.words ∙ filter_lines (begins (codes "before")) is_before of_before ss), length-map (filter is_before ss) words_for);
      in_front = λ front behind e p. lines_in_front text t h front behind (told.words ∙ ap (map words_for) e) p;
    }
