-- A legal schedule has a model, in which the operations are in its order.
use Rattle.std.proofs.Common.{◌≡◌, ℕ, ◌+◌, ◌<◌, ℤ, pos, List, [], ◌∷◌, ◌++◌, length, map, Bool, true, false, cond, refl, ap, sym, ◌∙◌, arith, inl, inr, subst, Some}
use Rattle.std.specs.Prelude.{◌≢◌, ◌==◌}
use Rattle.std.specs.List.{Contains, enumerate_from, flat_map}
use Rattle.std.proofs.lemmas.List.Elements.{Contains-append_cases}
use Rattle.dimacs.specs.Assignment.{makes_true, makes_some}
use Rattle.dimacs.specs.Models.{IsModel}
use Rattle.trace_semantics.specs.declared.operation.OpName.{OpName}
use Rattle.trace_semantics.specs.Legal.{IsLegal}
use Rattle.trace_semantics.specs.Operation.{location_of}
use Rattle.trace_semantics.specs.Trace.{TraceValue, IsTrace, operation_count}
use Rattle.trace_semantics.proofs.ElementLemmas.{all_pass, pass_all, cases_in, none_in, from_map, to_map, from_filter, from_flat_map}
use Rattle.var_layout.specs.declared.candidate.Candidate.{Candidate}
use Rattle.var_layout.specs.declared.candidate.Candidate.TheVariants.{InitialValue, Writer}
use Rattle.var_layout.specs.declared.candidate.ReadsFromChoice.{ReadsFromChoice}
use Rattle.var_layout.specs.declared.candidate.FinalChoice.{FinalChoice}
use Rattle.var_layout.specs.Candidates.{sources, is_candidate, candidates}
use Rattle.var_layout.specs.ChoiceVariables.{choices, first_choice}
use Rattle.var_layout.specs.FinalVariables.{final_candidates, is_untouched, first_final, final_choices}
use Rattle.var_layout.specs.Numbers.{name_at, left_at, readers, writers, others, other_writers}
use Rattle.var_layout.proofs.NumberingLemmas.{at_enumerated}
use Rattle.var_layout.proofs.WriterLemmas.{from_others}
use Rattle.trace_semantics.specs.Judgement.{is_held}
use Rattle.clause_blocks.specs.Blocks.{stands_before, implies, void_clauses, program_order, transitivity, reads_from, clauses_of_read, read_clauses, writes_last, clauses_of_final, final_clauses, before_clauses}
use Rattle.clause_blocks.specs.Clauses.{clauses_of}
use Rattle.clause_blocks.proofs.ClauseList.ListLemmas.{clause_list}
use Rattle.clause_blocks.specs.ModelOrder.{IsInOrderOf}
use Rattle.clause_blocks.proofs.ModelToSchedule.ModelChoiceLemmas.{IsLastWriter, IsFinal, from_choices, from_final_choices}
use Rattle.clause_blocks.proofs.ModelToSchedule.ModelClauseLemmas.{Meets, to_enumerate}
use Rattle.clause_blocks.proofs.NumbersOfNames.OperationNumberLemmas.{get_listed, listed_get}
use Rattle.clause_blocks.proofs.ScheduleToModel.ScheduleChoiceLemmas.{IsReader, reader_at, schedule_read, schedule_final}
use Rattle.clause_blocks.proofs.ScheduleToModel.ScheduleModelLemmas.{first_makes, rest_makes, implies_makes, variable_makes, to_meets, from_meets, no_length, values, literal_is, program_true, pairs_true, transitivity_true}
use Rattle.clause_blocks.proofs.ScheduleToModel.ScheduleOrderLemmas.{ahead_in, stands_numbered, numbered_stands}
use Rattle.clause_blocks.proofs.ScheduleToModel.ScheduleValueLemmas.{meets, is_last, choice_value, final_value}
use Rattle.clause_blocks.proofs.NumbersOfNames.WriterNumberLemmas.{candidates_are, other_writers_are, writer_at}

-- a candidate of a reading operation with its variable
pub to_choices : (t : TraceValue) (r : ℕ) (c : Candidate) → Contains (candidates t r) c → (x : ReadsFromChoice) × Contains (choices t r) x × (x.candidate ≡ c)
to_choices t r c d =
    let at = listed_get (candidates t r) c d in (
      record { candidate = c; variable = first_choice t r + at.0 },
      to_map (λ (numbered : ℕ × Candidate). record { candidate = numbered.1; variable = numbered.0 }) (enumerate_from (first_choice t r) (candidates t r)) (first_choice t r + at.0, c) (to_enumerate (first_choice t r) (candidates t r) at.0 c at.1),
      refl,
    )

-- a writer that may be the last one, with its variable
pub to_final_choices : (t : TraceValue) (k : ℕ) (entry : List ℕ × ℕ) (w : ℕ) → Contains (final_candidates t entry) w → (x : FinalChoice) × Contains (final_choices t k entry) x × (x.writer ≡ w)
to_final_choices t k entry w d =
    let at = listed_get (final_candidates t entry) w d in (
      record { writer = w; variable = first_final t k + at.0 },
      to_map (λ (numbered : ℕ × ℕ). record { writer = numbered.1; variable = numbered.0 }) (enumerate_from (first_final t k) (final_candidates t entry)) (first_final t k + at.0, w) (to_enumerate (first_final t k) (final_candidates t entry) at.0 w at.1),
      refl,
    )

module _ (t : TraceValue) (names : List OpName) (ok : IsTrace t) (legal : IsLegal t names) where
  abbrev truths : ℕ → Bool
  truths = values t names ok legal

  ahead_true : (i j : ℕ) (m n : OpName) → i ≢ j → name_at t i ≡ Some m → name_at t j ≡ Some n → ahead_in t names i j ≡ true → makes_true truths (stands_before t i j) ≡ true
  ahead_true i j m n d e f h = literal_is t names ok legal i j m n d e f ∙ h

  -- what is read
  module _ (r : ℕ) (reading : Contains (readers t) r) where
    reader : IsReader t r
    reader = reader_at t r reading

    other : (v : ℕ) → Contains (other_writers t r) v → Contains (writers t (location_of reader.op)) v × (v ≢ r)
    other v c = from_others r (writers t (location_of reader.op)) v (subst (λ l. Contains l v) (other_writers_are t r reader.op reader.at) c)

    writer_listed : (w : ℕ) → Contains (candidates t r) (Writer w) → Contains (other_writers t r) w
    writer_listed w c =
        let listed = from_filter (is_candidate t reader.op) (sources t r) (Writer w) (subst (λ l. Contains l (Writer w)) (candidates_are t r reader.op reader.at) c) in
        elim (cases_in InitialValue (map (λ (v : ℕ). Writer v) (other_writers t r)) (Writer w) listed.0) [
          | inl e ↦ absurd (cc)
          | inr d ↦ (let at = from_map (λ (v : ℕ). Writer v) (other_writers t r) (Writer w) d in let same : at.0 ≡ w = cc in subst (λ v. Contains (other_writers t r) v) same at.1)
        ]

    -- the literals that say where a writer stands
    behind_true : (u : ℕ) → Contains (other_writers t r) u → ahead_in t names r u ≡ true → makes_true truths (stands_before t r u) ≡ true
    behind_true u c h =
        let writer = other u c in
        let at = writer_at t (location_of reader.op) u writer.0 in
        ahead_true r u reader.name at.name (λ e. writer.1 (sym e)) reader.named at.named h

    before_true : (w : ℕ) → Contains (other_writers t r) w → ahead_in t names w r ≡ true → makes_true truths (stands_before t w r) ≡ true
    before_true w c h =
        let writer = other w c in
        let at = writer_at t (location_of reader.op) w writer.0 in
        ahead_true w r at.name reader.name writer.1 at.named reader.named h

    between_true : (u w : ℕ) → Contains (other_writers t r) u → Contains (other_writers t r) w → u ≢ w → ahead_in t names u w ≡ true → makes_true truths (stands_before t u w) ≡ true
    between_true u w c d apart h =
        let first = writer_at t (location_of reader.op) u (other u c).0 in
        let second = writer_at t (location_of reader.op) w (other w d).0 in
        ahead_true u w first.name second.name apart first.named second.named h

    reads_from_true : (v : ℕ) (c : Candidate) → 0 < v → Contains (candidates t r) c → (truths v ≡ true → Meets (ahead_in t names) t r c) → (l : List ℤ) → Contains (reads_from t r v c) l → makes_some truths l ≡ true
    reads_from_true v InitialValue h listed means l d =
        let at = from_map (λ (u : ℕ). implies v (stands_before t r u ∷ [])) (other_writers t r) l d in
        subst (λ k. makes_some truths k ≡ true) at.2 (implies_makes truths v (stands_before t r at.0 ∷ []) h (λ e.
        first_makes truths (stands_before t r at.0) [] (behind_true at.0 at.1 (means e at.0 at.1))))
    reads_from_true v (Writer w) h listed means l d =
        let w_listed = writer_listed w listed in
        elim (cases_in (implies v (stands_before t w r ∷ [])) (map (λ (u : ℕ). implies v (stands_before t u w ∷ stands_before t r u ∷ [])) (others w (other_writers t r))) l d) [
          | inl e ↦ subst (λ k. makes_some truths k ≡ true) e (implies_makes truths v (stands_before t w r ∷ []) h (λ f.
              first_makes truths (stands_before t w r) [] (before_true w w_listed (means f).0)))
          | inr rest ↦ (
              let at = from_map (λ (u : ℕ). implies v (stands_before t u w ∷ stands_before t r u ∷ [])) (others w (other_writers t r)) l rest in
              let second = from_others w (other_writers t r) at.0 at.1 in
              subst (λ k. makes_some truths k ≡ true) at.2 (implies_makes truths v (stands_before t at.0 w ∷ stands_before t r at.0 ∷ []) h (λ f. (elim ((means f).1 at.0 at.1) [
                | inl ahead ↦ first_makes truths (stands_before t at.0 w) (stands_before t r at.0 ∷ []) (between_true at.0 w second.0 w_listed second.1 ahead)
                | inr behind ↦ rest_makes truths (stands_before t at.0 w) (stands_before t r at.0 ∷ []) (first_makes truths (stands_before t r at.0) [] (behind_true at.0 second.0 behind))
              ]))))
        ]

    choice_true : (c : ReadsFromChoice) → Contains (choices t r) c → (l : List ℤ) → Contains (reads_from t r c.variable c.candidate) l → makes_some truths l ≡ true
    choice_true c a l d =
        let at = from_choices t r c a in
        reads_from_true c.variable c.candidate (omega (arith, at.1)) (get_listed (candidates t r) at.0 c.candidate at.2)
        (λ e. from_meets (ahead_in t names) t r c.candidate (sym (choice_value (ahead_in t names) t r c reading a) ∙ e)) l d

    some_choice : makes_some truths (map (λ (c : ReadsFromChoice). pos c.variable) (choices t r)) ≡ true
    some_choice =
        let chosen = schedule_read t names ok legal r reading in
        let x = to_choices t r chosen.0 chosen.1.listed in
        variable_makes truths (λ (c : ReadsFromChoice). c.variable) (choices t r) x.0 x.1
        (choice_value (ahead_in t names) t r x.0 reading x.1 ∙ ap (meets (ahead_in t names) t r) x.2 ∙ to_meets (ahead_in t names) t r chosen.0 chosen.1.meets)

    read_by : (b : Bool) → (length (candidates t r) == 0) ≡ b → (l : List ℤ) →
        Contains (cond b (void_clauses (first_choice t r)) (map (λ (c : ReadsFromChoice). pos c.variable) (choices t r) ∷ flat_map (λ (c : ReadsFromChoice). reads_from t r c.variable c.candidate) (choices t r))) l → makes_some truths l ≡ true
    read_by true e l d = (let chosen = schedule_read t names ok legal r reading in absurd (no_length (candidates t r) chosen.0 chosen.1.listed e))
    read_by false e l d =
        elim (cases_in (map (λ (c : ReadsFromChoice). pos c.variable) (choices t r)) (flat_map (λ (c : ReadsFromChoice). reads_from t r c.variable c.candidate) (choices t r)) l d) [
          | inl f ↦ subst (λ k. makes_some truths k ≡ true) f some_choice
          | inr rest ↦ (let at = from_flat_map (λ (c : ReadsFromChoice). reads_from t r c.variable c.candidate) (choices t r) l rest in choice_true at.0 at.1 l at.2)
        ]

  reads_true : (l : List ℤ) → Contains (read_clauses t) l → makes_some truths l ≡ true
  reads_true l d =
      let at = from_flat_map (clauses_of_read t) (readers t) l d in
      read_by at.0 at.1 (length (candidates t at.0) == 0) refl l at.2

  -- final values
  module _ (k : ℕ) (entry : List ℕ × ℕ) (given : Contains (enumerate_from 0 t.final_values) (k, entry)) (touched : is_untouched t entry ≡ false) where
    last_true : (c : FinalChoice) → Contains (final_choices t k entry) c → (l : List ℤ) → Contains (writes_last t entry.0 c) l → makes_some truths l ≡ true
    last_true c a l d =
        let at = from_map (λ (u : ℕ). implies c.variable (stands_before t u c.writer ∷ [])) (others c.writer (writers t entry.0)) l d in
        let choice = from_final_choices t k entry c a in
        let writer = from_filter (λ (w : ℕ). is_held (left_at t entry.0 w) entry.1) (writers t entry.0) c.writer (get_listed (final_candidates t entry) choice.0 c.writer choice.2) in
        let other = from_others c.writer (writers t entry.0) at.0 at.1 in
        let first = writer_at t entry.0 at.0 other.0 in
        let second = writer_at t entry.0 c.writer writer.0 in
        subst (λ m. makes_some truths m ≡ true) at.2 (implies_makes truths c.variable (stands_before t at.0 c.writer ∷ []) (omega (arith, choice.1)) (λ e.
        first_makes truths (stands_before t at.0 c.writer) [] (ahead_true at.0 c.writer first.name second.name other.1 first.named second.named
        (all_pass (λ v. ahead_in t names v c.writer) (others c.writer (writers t entry.0)) (sym (final_value (ahead_in t names) t k entry c given touched a) ∙ e) at.0 at.1))))

    some_last : (w : ℕ) → IsLastWriter (ahead_in t names) t entry w → makes_some truths (map (λ (c : FinalChoice). pos c.variable) (final_choices t k entry)) ≡ true
    some_last w is =
        let x = to_final_choices t k entry w is.listed in
        variable_makes truths (λ (c : FinalChoice). c.variable) (final_choices t k entry) x.0 x.1
        (final_value (ahead_in t names) t k entry x.0 given touched x.1 ∙ ap (is_last (ahead_in t names) t entry.0) x.2
        ∙ pass_all (λ v. ahead_in t names v w) (others w (writers t entry.0)) is.last)

    written_true : (w : ℕ) → IsLastWriter (ahead_in t names) t entry w → (g : Bool) → (length (final_candidates t entry) == 0) ≡ g → (l : List ℤ) →
        Contains (cond g (void_clauses (first_final t k)) (map (λ (c : FinalChoice). pos c.variable) (final_choices t k entry) ∷ flat_map (writes_last t entry.0) (final_choices t k entry))) l → makes_some truths l ≡ true
    written_true w is true e l d = absurd (no_length (final_candidates t entry) w is.listed e)
    written_true w is false e l d =
        elim (cases_in (map (λ (c : FinalChoice). pos c.variable) (final_choices t k entry)) (flat_map (writes_last t entry.0) (final_choices t k entry)) l d) [
          | inl f ↦ subst (λ m. makes_some truths m ≡ true) f (some_last w is)
          | inr rest ↦ (let at = from_flat_map (writes_last t entry.0) (final_choices t k entry) l rest in last_true at.0 at.1 l at.2)
        ]

  final_by : (k : ℕ) (entry : List ℕ × ℕ) → Contains (enumerate_from 0 t.final_values) (k, entry) → IsFinal (ahead_in t names) t entry → (b g : Bool) → is_untouched t entry ≡ b → (length (final_candidates t entry) == 0) ≡ g → (l : List ℤ) →
      Contains (cond b [] (cond g (void_clauses (first_final t k)) (map (λ (c : FinalChoice). pos c.variable) (final_choices t k entry) ∷ flat_map (writes_last t entry.0) (final_choices t k entry)))) l → makes_some truths l ≡ true
  final_by k entry given is true g e f l d = absurd (none_in l d)
  final_by k entry given (inl untouched) false g e f l d = absurd (let clash : true ≡ false = sym untouched ∙ e in cc)
  final_by k entry given (inr last) false g e f l d = written_true k entry given e last.0 last.1 g f l d

  finals_true : (l : List ℤ) → Contains (final_clauses t) l → makes_some truths l ≡ true
  finals_true l d =
      let at = from_flat_map (λ (numbered : ℕ × (List ℕ × ℕ)). clauses_of_final t numbered.0 numbered.1) (enumerate_from 0 t.final_values) l d in
      let from = at_enumerated 0 t.final_values at.0 at.1 in
      final_by at.0.0 at.0.1 at.1 (schedule_final t names ok legal at.0.1 (get_listed t.final_values from.0 at.0.1 from.2))
      (is_untouched t at.0.1) (length (final_candidates t at.0.1) == 0) refl refl l at.2

  all_true : (l : List ℤ) → Contains (program_order t ++ (transitivity (operation_count t) ++ (read_clauses t ++ (final_clauses t ++ before_clauses t)))) l → makes_some truths l ≡ true
  all_true l c =
      elim (Contains-append_cases (program_order t) (transitivity (operation_count t) ++ (read_clauses t ++ (final_clauses t ++ before_clauses t))) l c) [
        | inl here ↦ program_true t names ok legal l here
        | inr there ↦ elim (Contains-append_cases (transitivity (operation_count t)) (read_clauses t ++ (final_clauses t ++ before_clauses t)) l there) [
          | inl here ↦ transitivity_true t names ok legal l here
          | inr further ↦ elim (Contains-append_cases (read_clauses t) (final_clauses t ++ before_clauses t) l further) [
            | inl here ↦ reads_true l here
            | inr last ↦ elim (Contains-append_cases (final_clauses t) (before_clauses t) l last) [
              | inl here ↦ finals_true l here
              | inr pairs ↦ pairs_true t names ok legal l pairs
            ]
          ]
        ]
      ]

  pub schedule_model : IsModel truths (clauses_of t)
  schedule_model = subst (λ clauses. IsModel truths clauses) (sym (clause_list t)) (pass_all (makes_some truths) _ all_true)

  pub schedule_order : IsInOrderOf truths t names
  schedule_order = record {
    all = record { each = legal.interleaving.each; only = legal.interleaving.only; once = legal.interleaving.once };
    ordered = λ i j m n d e f. (
      (λ s. ahead_true i j m n d e f (stands_numbered t names ok legal.interleaving i j m n e f s)),
      (λ h. numbered_stands t names ok legal.interleaving i j m n e f (sym (literal_is t names ok legal i j m n d e f) ∙ h)),
    );
  }

  pub schedule_values : (value : ℕ → Bool) × IsModel value (clauses_of t) × IsInOrderOf value t names
  schedule_values = (truths, schedule_model, schedule_order)
