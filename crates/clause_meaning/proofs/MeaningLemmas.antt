-- The clauses that say what the meanings do are the clause list, family by family.
use Rattle.std.proofs.Common.{◌≡◌, ℕ, ◌+◌, ℤ, pos, List, [], ◌∷◌, ◌++◌, length, map, Option, Some, None, Bool, true, false, cond, not, eqb, refl, sym, ap, ◌∙◌, append-nil}
use Rattle.std.specs.Prelude.{◌&&◌, slice_get}
use Rattle.std.specs.List.{filter, flat_map, range_with_len}
use Rattle.std.specs.Option.{option_map_or, option_and_then}
use Rattle.std.proofs.lemmas.List.Concat.{flat_map_single}
use Rattle.std.proofs.lemmas.List.Folds.{flat_map-map}
use Rattle.std.proofs.lemmas.Simd.{map-map}
use Rattle.trace_semantics.specs.Trace.{TraceValue, operation_count}
use Rattle.var_layout.specs.declared.candidate.Candidate.{Candidate}
use Rattle.var_layout.specs.declared.candidate.Candidate.TheVariants.{InitialValue, Writer}
use Rattle.var_layout.specs.declared.candidate.FinalChoice.{FinalChoice}
use Rattle.var_layout.specs.declared.candidate.ReadsFromChoice.{ReadsFromChoice}
use Rattle.var_layout.specs.Candidates.{candidates}
use Rattle.var_layout.specs.ChoiceVariables.{choices, first_choice}
use Rattle.var_layout.specs.FinalVariables.{final_candidates, finals, first_final, is_untouched, void_final, void_of}
use Rattle.var_layout.specs.KnownPairs.{known_pairs}
use Rattle.var_layout.specs.Numbers.{numbers, readers, in_one_process, others, other_writers}
use Rattle.var_layout.specs.OrderVariables.{numbers_above}
use Rattle.var_layout.specs.Tables.{final_writers}
use Rattle.clause_blocks.specs.Blocks.{implies, stands_before, void_clauses, program_order, transitivity_from, transitivity, reads_from, clauses_of_read, read_clauses, clauses_of_final, final_clauses, before_clauses}
use Rattle.clause_blocks.specs.Clauses.{clauses_of}
use Rattle.clause_blocks.specs.FinalClauses.{clauses_at}
use Rattle.clause_blocks.proofs.ClauseList.FinalLemmas.{all_finals, chosen_finals, empty_finals, nonzero_from_test, of_choice, zero_from_test}
use Rattle.clause_blocks.proofs.ClauseList.ListLemmas.{clause_list}
use Rattle.clause_meaning.specs.declared.meaning.ClauseMeaning.TheVariants as say
use Rattle.clause_meaning.specs.declared.run.ClauseRun.{ClauseRun}
use Rattle.clause_meaning.specs.declared.run.ClauseRun.TheVariants as run
use Rattle.clause_meaning.specs.Meanings.{clause_of, of_three, triples_from, meanings_of_run}
use Rattle.clause_meaning.specs.Runs.{order_runs, triple_runs, run_from, runs_of_read, read_runs, runs_unless_void, runs_of_final, final_runs, runs}
use Rattle.clause_meaning.specs.Starts.{meanings}
use Rattle.clause_meaning.proofs.ListLemmas.{flat_flat, flat_if, flat_joined, mapped_flat}

-- the clauses of a run
abbrev pub clauses_of_run : TraceValue → ClauseRun → List (List ℤ)
clauses_of_run t r = map (clause_of t) (meanings_of_run t r)

order_said : (t : TraceValue) → flat_map (clauses_of_run t) (order_runs t) ≡ program_order t
order_said t =
    let ended = filter (λ i. in_one_process t i (i + 1)) (numbers t) in
    flat_map-map (clauses_of_run t) (λ (i : ℕ). run.ProgramOrder i) ended ∙ flat_map_single (λ (i : ℕ). stands_before t i (i + 1) ∷ []) ended

pub triples_said : (t : TraceValue) (i : ℕ) → map (clause_of t) (triples_from (operation_count t) i) ≡ transitivity_from (operation_count t) i
triples_said t i =
    let n = operation_count t in
    mapped_flat (clause_of t) (λ (j : ℕ). flat_map (of_three i j) (numbers_above n j)) (numbers_above n i)
    ∙ (λ p. flat_map (λ (j : ℕ). mapped_flat (clause_of t) (of_three i j) (numbers_above n j) p) (numbers_above n i))

transitivity_said : (t : TraceValue) → flat_map (clauses_of_run t) (triple_runs t) ≡ transitivity (operation_count t)
transitivity_said t =
    flat_map-map (clauses_of_run t) (λ (i : ℕ). run.TriplesFrom i) (numbers t)
    ∙ (λ p. flat_map (λ (i : ℕ). triples_said t i p) (numbers t))

source_said : (t : TraceValue) (r v : ℕ) (c : Candidate) → clauses_of_run t (run_from r v c) ≡ reads_from t r v c
source_said t r v InitialValue = map-map (clause_of t) (λ (w : ℕ). say.BeforeWriter r v w) (other_writers t r)
source_said t r v (Writer s) = ap (λ l. implies v (stands_before t s r ∷ []) ∷ l) (map-map (clause_of t) (λ (w : ℕ). say.NotBetween r v s w) (others s (other_writers t r)))

read_said : (t : TraceValue) (r : ℕ) → flat_map (clauses_of_run t) (runs_of_read t r) ≡ clauses_of_read t r
read_said t r =
    let cs = choices t r in
    let literals = map (λ (c : ReadsFromChoice). pos c.variable) cs in
    flat_if (clauses_of_run t) (eqb (length (candidates t r)) 0)
    (run.NoSource r (first_choice t r) ∷ []) (run.HasSource r ∷ map (λ (c : ReadsFromChoice). run_from r c.variable c.candidate) cs)
    (void_clauses (first_choice t r)) (literals ∷ flat_map (λ (c : ReadsFromChoice). reads_from t r c.variable c.candidate) cs)
    refl
    (ap (λ l. literals ∷ l) (flat_map-map (clauses_of_run t) (λ (c : ReadsFromChoice). run_from r c.variable c.candidate) cs
    ∙ (λ p. flat_map (λ (c : ReadsFromChoice). source_said t r c.variable c.candidate p) cs)))

reads_said : (t : TraceValue) → flat_map (clauses_of_run t) (read_runs t) ≡ read_clauses t
reads_said t = flat_flat (clauses_of_run t) (runs_of_read t) (readers t) ∙ (λ p. flat_map (λ (r : ℕ). read_said t r p) (readers t))

-- nothing leaves the final value
void_test : (u z : Bool) (f v : ℕ) (cs : List (List ℤ)) → cond (not u && z) (Some f) None ≡ Some v → cond u [] (cond z (void_clauses f) cs) ≡ void_clauses v
void_test true z f v cs e = absurd (cc)
void_test false true f v cs e = let same : f ≡ v = cc in ap void_clauses same
void_test false false f v cs e = absurd (cc)

void_at : (t : TraceValue) (k : ℕ) (o : Option (List ℕ × ℕ)) (v : ℕ) → option_and_then (void_of t k) o ≡ Some v → option_map_or (clauses_of_final t k) o [] ≡ void_clauses v
void_at t k None v e = absurd (cc)
void_at t k (Some entry) v e = void_test (is_untouched t entry) (eqb (length (final_candidates t entry)) 0) (first_final t k) v _ e

last_said : (t : TraceValue) (k : ℕ) (c : FinalChoice) → clauses_of_run t (run.FromLast k c.variable c.writer) ≡ of_choice t (final_writers t k) c
last_said t k c = map-map (clause_of t) (λ (w : ℕ). say.BeforeLast k c.variable c.writer w) (others c.writer (final_writers t k))

abbrev last_runs : ℕ → List FinalChoice → List ClauseRun
last_runs k fs = run.HasLast k ∷ map (λ (c : FinalChoice). run.FromLast k c.variable c.writer) fs

final_left : (t : TraceValue) (k : ℕ) (b : Bool) → void_final t k ≡ None → eqb (length (finals t k)) 0 ≡ b → flat_map (clauses_of_run t) (cond b [] (last_runs k (finals t k))) ≡ clauses_at t k
final_left t k true v h = sym (empty_finals t k (finals t k) refl v (zero_from_test (length (finals t k)) (sym h)))
final_left t k false v h =
    let fs = finals t k in
    ap (λ l. map (λ (c : FinalChoice). pos c.variable) fs ∷ l) (flat_map-map (clauses_of_run t) (λ (c : FinalChoice). run.FromLast k c.variable c.writer) fs
    ∙ (λ p. flat_map (λ (c : FinalChoice). last_said t k c p) fs))
    ∙ sym (chosen_finals t k fs (final_writers t k) refl refl (nonzero_from_test (length fs) (sym h)))

final_said : (t : TraceValue) (k : ℕ) (v : Option ℕ) → void_final t k ≡ v → flat_map (clauses_of_run t) (runs_unless_void t k v) ≡ clauses_at t k
final_said t k None e = final_left t k (eqb (length (finals t k)) 0) e refl
final_said t k (Some v) e = sym (void_at t k (slice_get t.final_values k) v e)

finals_said : (t : TraceValue) → flat_map (clauses_of_run t) (final_runs t) ≡ final_clauses t
finals_said t =
    let places = range_with_len 0 (length t.final_values) in
    flat_flat (clauses_of_run t) (runs_of_final t) places
    ∙ (λ p. flat_map (λ (k : ℕ). final_said t k (void_final t k) refl p) places)
    ∙ all_finals t

pairs_said : (t : TraceValue) → flat_map (clauses_of_run t) (run.BeforePairs ∷ []) ≡ before_clauses t
pairs_said t = append-nil (clauses_of_run t run.BeforePairs) ∙ map-map (clause_of t) (λ (pair : ℕ × ℕ). say.BeforePair pair.0 pair.1) (known_pairs t)

pub all_said : (t : TraceValue) → map (clause_of t) (meanings t) ≡ clauses_of t
all_said t =
    let n = operation_count t in
    let pairs = run.BeforePairs ∷ [] in
    mapped_flat (clause_of t) (meanings_of_run t) (runs t)
    ∙ flat_joined (clauses_of_run t) (order_runs t) (triple_runs t ++ (read_runs t ++ (final_runs t ++ pairs))) (program_order t) (transitivity n ++ (read_clauses t ++ (final_clauses t ++ before_clauses t))) (order_said t)
    (flat_joined (clauses_of_run t) (triple_runs t) (read_runs t ++ (final_runs t ++ pairs)) (transitivity n) (read_clauses t ++ (final_clauses t ++ before_clauses t)) (transitivity_said t)
    (flat_joined (clauses_of_run t) (read_runs t) (final_runs t ++ pairs) (read_clauses t) (final_clauses t ++ before_clauses t) (reads_said t)
    (flat_joined (clauses_of_run t) (final_runs t) pairs (final_clauses t) (before_clauses t) (finals_said t) (pairs_said t))))
    ∙ sym (clause_list t)
