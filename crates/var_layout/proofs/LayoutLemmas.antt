-- What the tables of a layout hold at a place, and past the end.
use Rattle.std.proofs.Common.{◌≡◌, ℕ, ◌<◌, ◌≤◌, List, [], length, map, get_or, Bool, true, false, eqb, refl, ap, sym, ◌∙◌, arith, inl, inr, zero-add}
use Rattle.std.specs.Prelude.{Option, Some, None, is_some, ◌==◌, ◌&&◌, if◌then◌else◌}
use Rattle.std.specs.List.{enumerate_from, filter, position_or_len, range_with_len, slice_get}
use Rattle.std.specs.Option.{option_and_then, option_map, option_map_or}
use Rattle.std.specs.Str.{bytes_eq}
use Rattle.std.proofs.lemmas.Bool.{cases_lt, eq-eqb, ne_eqb}
use Rattle.std.proofs.lemmas.List.FromFn.{get_or-range_with_len, length-range_with_len, length-map-range_with_len}
use Rattle.std.proofs.lemmas.List.Sums.{fails_before_first, passes_at_first}
use Rattle.std.proofs.lemmas.Option.{slice_get-get_or, slice_get-map, slice_get_past, slice_get_within}
use Rattle.trace_semantics.specs.declared.operation.Op.{Op}
use Rattle.trace_semantics.specs.declared.operation.OpName.{OpName}
use Rattle.trace_semantics.specs.Operation.{location_of, value_read}
use Rattle.trace_semantics.specs.Trace.{TraceValue, operation_at, operation_names, operation_count}
use Rattle.trace_semantics.proofs.NameLemmas.{same_bytes, bytes_same}
use Rattle.var_layout.specs.declared.candidate.Candidate.{Candidate}
use Rattle.var_layout.specs.declared.candidate.ReadsFromChoice.{ReadsFromChoice}
use Rattle.var_layout.specs.Candidates.{candidates, sources, is_candidate}
use Rattle.var_layout.specs.ChoiceVariables.{first_choice, choices, void_choice}
use Rattle.var_layout.specs.FinalVariables.{final_choices, finals, void_of, void_final}
use Rattle.var_layout.specs.Numbers.{numbers, name_at, op_at, read_at, writers, others, other_writers, share_process, in_one_process}
use Rattle.var_layout.specs.Tables.{OpTableValue, leader_of, leader_at, op_table, FinalTableValue, final_writers, final_table}
use Rattle.var_layout.proofs.NumberLemmas.{names_counted, name_here}

-- a place in a list of numbers
number_at : (n i : ℕ) → i < n → slice_get (range_with_len 0 n) i ≡ Some i
number_at n i l = slice_get-get_or (range_with_len 0 n) i 0 (omega (arith, l, length-range_with_len 0 n)) ∙ ap Some (get_or-range_with_len 0 n i 0 l ∙ zero-add i)

made_at : {X : Type 0} (f : ℕ → X) (n i : ℕ) → i < n → slice_get (map f (range_with_len 0 n)) i ≡ Some (f i)
made_at f n i l = slice_get-map f (range_with_len 0 n) i ∙ ap (option_map f) (number_at n i l)

made_past : {X : Type 0} (f : ℕ → X) (n i : ℕ) → n ≤ i → slice_get (map f (range_with_len 0 n)) i ≡ None
made_past f n i l = slice_get-map f (range_with_len 0 n) i ∙ ap (option_map f) (slice_get_past (range_with_len 0 n) i (omega (arith, l, length-range_with_len 0 n)))

-- past the last operation there is nothing
name_past : (t : TraceValue) (i : ℕ) → operation_count t ≤ i → name_at t i ≡ None
name_past t i l = slice_get_past (operation_names t) i (omega (arith, l, names_counted t))

op_past : (t : TraceValue) (i : ℕ) → operation_count t ≤ i → op_at t i ≡ None
op_past t i l = ap (option_and_then (operation_at t)) (name_past t i l)

pub read_past : (t : TraceValue) (i : ℕ) → operation_count t ≤ i → read_at t i ≡ None
read_past t i l = ap (option_and_then value_read) (op_past t i l)

pub record TableFacts (t : TraceValue) (i : ℕ) (o : Option OpTableValue) : Type 0 where
  pub leader : option_map (λ (table : OpTableValue). table.leader) o ≡ leader_at t i
  pub reads : option_map_or (λ (table : OpTableValue). table.reads) o false ≡ is_some (read_at t i)
  pub writers : option_map_or (λ (table : OpTableValue). table.writers) o [] ≡ other_writers t i
  pub choices : option_map_or (λ (table : OpTableValue). table.choices) o [] ≡ choices t i
  pub void : option_and_then (λ (table : OpTableValue). table.void) o ≡ void_choice t i

facts_here : (t : TraceValue) (i : ℕ) (o : Option OpTableValue) → i < operation_count t → o ≡ Some (op_table t i) → TableFacts t i o
facts_here t i o l e =
    let name = name_here t i l in
    record {
      leader = ap (option_map (λ (table : OpTableValue). table.leader)) e ∙ ap (option_map (λ (n : OpName). leader_of t i)) (sym name.1);
      reads = ap (λ p. option_map_or (λ (table : OpTableValue). table.reads) p false) e;
      writers = ap (λ p. option_map_or (λ (table : OpTableValue). table.writers) p []) e;
      choices = ap (λ p. option_map_or (λ (table : OpTableValue). table.choices) p []) e;
      void = ap (option_and_then (λ (table : OpTableValue). table.void)) e;
    }

facts_past : (t : TraceValue) (i : ℕ) (o : Option OpTableValue) → operation_count t ≤ i → o ≡ None → TableFacts t i o
facts_past t i o l e = record {
  leader = ap (option_map (λ (table : OpTableValue). table.leader)) e ∙ ap (option_map (λ (n : OpName). leader_of t i)) (sym (name_past t i l));
  reads = ap (λ p. option_map_or (λ (table : OpTableValue). table.reads) p false) e ∙ ap is_some (sym (read_past t i l));
  writers = ap (λ p. option_map_or (λ (table : OpTableValue). table.writers) p []) e ∙ ap (λ p. option_map_or (λ (op : Op). others i (writers t (location_of op))) p []) (sym (op_past t i l));
  choices = ap (λ p. option_map_or (λ (table : OpTableValue). table.choices) p []) e ∙
      ap (λ p. map (λ (numbered : ℕ × Candidate). let c : ReadsFromChoice = record { candidate = numbered.1; variable = numbered.0 } in c) (enumerate_from (first_choice t i) (option_map_or (λ (op : Op). filter (is_candidate t op) (sources t i)) p []))) (sym (op_past t i l));
  void = ap (option_and_then (λ (table : OpTableValue). table.void)) e ∙
      ap (λ p. if is_some p && (length (candidates t i) == 0) then Some (first_choice t i) else None) (sym (read_past t i l));
}

facts : (t : TraceValue) (i : ℕ) (o : Option OpTableValue) → o ≡ slice_get (map (op_table t) (numbers t)) i → TableFacts t i o
facts t i o e =
    elim (cases_lt i (operation_count t)) [
      | inl l ↦ facts_here t i o l (e ∙ made_at (op_table t) (operation_count t) i l)
      | inr l ↦ facts_past t i o l (e ∙ made_past (op_table t) (operation_count t) i l)
    ]

pub op_facts : (t s : TraceValue) (ops : List OpTableValue) (i : ℕ) (o : Option OpTableValue) → o ≡ slice_get ops i → ops ≡ map (op_table t) (numbers t) → t ≡ s → TableFacts s i o
op_facts t s ops i o e f same = facts s i o (e ∙ ap (λ l. slice_get l i) (f ∙ ap (λ u. map (op_table u) (numbers u)) same))

pub record FinalFacts (t : TraceValue) (k : ℕ) (o : Option FinalTableValue) : Type 0 where
  pub writers : option_map_or (λ (table : FinalTableValue). table.writers) o [] ≡ final_writers t k
  pub choices : option_map_or (λ (table : FinalTableValue). table.choices) o [] ≡ finals t k
  pub void : option_and_then (λ (table : FinalTableValue). table.void) o ≡ void_final t k

final_here : (t : TraceValue) (k : ℕ) (o : Option FinalTableValue) → o ≡ Some (final_table t k) → FinalFacts t k o
final_here t k o e = record {
  writers = ap (λ p. option_map_or (λ (table : FinalTableValue). table.writers) p []) e;
  choices = ap (λ p. option_map_or (λ (table : FinalTableValue). table.choices) p []) e;
  void = ap (option_and_then (λ (table : FinalTableValue). table.void)) e;
}

final_past : (t : TraceValue) (k : ℕ) (o : Option FinalTableValue) → length t.final_values ≤ k → o ≡ None → FinalFacts t k o
final_past t k o l e =
    let past : slice_get t.final_values k ≡ None = slice_get_past t.final_values k l in
    record {
      writers = ap (λ p. option_map_or (λ (table : FinalTableValue). table.writers) p []) e ∙ ap (λ p. option_map_or (λ (entry : List ℕ × ℕ). writers t entry.0) p []) (sym past);
      choices = ap (λ p. option_map_or (λ (table : FinalTableValue). table.choices) p []) e ∙ ap (λ p. option_map_or (final_choices t k) p []) (sym past);
      void = ap (option_and_then (λ (table : FinalTableValue). table.void)) e ∙ ap (option_and_then (void_of t k)) (sym past);
    }

final_facts_at : (t : TraceValue) (k : ℕ) (o : Option FinalTableValue) → o ≡ slice_get (map (final_table t) (range_with_len 0 (length t.final_values))) k → FinalFacts t k o
final_facts_at t k o e =
    elim (cases_lt k (length t.final_values)) [
      | inl l ↦ final_here t k o (e ∙ made_at (final_table t) (length t.final_values) k l)
      | inr l ↦ final_past t k o l (e ∙ made_past (final_table t) (length t.final_values) k l)
    ]

pub final_facts : (t s : TraceValue) (ends : List FinalTableValue) (k : ℕ) (o : Option FinalTableValue) → o ≡ slice_get ends k → ends ≡ map (final_table t) (range_with_len 0 (length t.final_values)) → t ≡ s → FinalFacts s k o
final_facts t s ends k o e f same = final_facts_at s k o (e ∙ ap (λ l. slice_get l k) (f ∙ ap (λ u. map (final_table u) (range_with_len 0 (length u.final_values))) same))

-- operations of one process are those of one leader
alike : (o : Option OpName) (m n : OpName) → m.process ≡ n.process → share_process o (Some m) ≡ share_process o (Some n)
alike None m n e = refl
alike (Some p) m n e = ap (bytes_eq p.process) e

meets : (o : Option OpName) (m n : OpName) → share_process o (Some m) ≡ true → share_process o (Some n) ≡ true → bytes_eq m.process n.process ≡ true
meets None m n h k = absurd (cc)
meets (Some p) m n h k = bytes_same m.process n.process (sym (same_bytes p.process m.process h) ∙ same_bytes p.process n.process k)

leader_within : (t : TraceValue) (i : ℕ) → i < operation_count t → in_one_process t i i ≡ true → leader_of t i < operation_count t
leader_within t i l self =
    elim (cases_lt (leader_of t i) (operation_count t)) [
      | inl h ↦ h
      | inr h ↦ (
          let p : ℕ → Bool = λ k. in_one_process t k i in
          let before : p (get_or (numbers t) i 0) ≡ false = fails_before_first p (numbers t) i 0 (omega (arith, l, h)) in
          let at : get_or (numbers t) i 0 ≡ i = get_or-range_with_len 0 (operation_count t) i 0 l ∙ zero-add i in
          absurd (let clash : true ≡ false = sym self ∙ sym (ap p at) ∙ before in cc))
    ]

leads : (t : TraceValue) (i : ℕ) (n : OpName) → name_at t i ≡ Some n → share_process (name_at t (leader_of t i)) (Some n) ≡ true
leads t i n e =
    let p : ℕ → Bool = λ k. in_one_process t k i in
    let l : i < operation_count t = omega (arith, slice_get_within (operation_names t) i n e, names_counted t) in
    let self : in_one_process t i i ≡ true = (λ s. share_process (e s) (e s)) ∙ bytes_same n.process n.process refl in
    let within = leader_within t i l self in
    let here : p (get_or (numbers t) (leader_of t i) 0) ≡ true = passes_at_first p (numbers t) 0 (omega (arith, within, length-range_with_len 0 (operation_count t))) in
    let at : get_or (numbers t) (leader_of t i) 0 ≡ leader_of t i = get_or-range_with_len 0 (operation_count t) (leader_of t i) 0 within ∙ zero-add (leader_of t i) in
    ap (share_process (name_at t (leader_of t i))) (sym e) ∙ sym (ap p at) ∙ here

leaders_by : (t : TraceValue) (i j : ℕ) (m n : OpName) (b : Bool) → name_at t i ≡ Some m → name_at t j ≡ Some n → bytes_eq m.process n.process ≡ b → eqb (leader_of t i) (leader_of t j) ≡ b
leaders_by t i j m n true e f h =
    let process = same_bytes m.process n.process h in
    let together : (k : ℕ) → in_one_process t k i ≡ in_one_process t k j = λ k. ap (share_process (name_at t k)) e ∙ alike (name_at t k) m n process ∙ ap (share_process (name_at t k)) (sym f) in
    eq-eqb (leader_of t i) (leader_of t j) (λ s. position_or_len (λ k. together k s) (numbers t))
leaders_by t i j m n false e f h =
    ne_eqb (leader_of t i) (leader_of t j) (λ same.
    let first : share_process (name_at t (leader_of t j)) (Some m) ≡ true = ap (λ k. share_process (name_at t k) (Some m)) (sym same) ∙ leads t i m e in
    let met = meets (name_at t (leader_of t j)) m n first (leads t j n f) in
    let clash : true ≡ false = sym met ∙ h in absurd (cc))

some_leader : (t : TraceValue) (i a : ℕ) (o : Option OpName) → name_at t i ≡ o → option_map (λ (n : OpName). leader_of t i) o ≡ Some a → (n : OpName) × (name_at t i ≡ Some n) × (leader_of t i ≡ a)
some_leader t i a None e h = absurd (cc)
some_leader t i a (Some n) e h = (n, e, cc)

pub leaders_tell : (t : TraceValue) (i j a b : ℕ) → leader_at t i ≡ Some a → leader_at t j ≡ Some b → eqb a b ≡ in_one_process t i j
leaders_tell t i j a b h k =
    let first = some_leader t i a (name_at t i) refl h in
    let second = some_leader t j b (name_at t j) refl k in
    (λ s. eqb (sym first.2 s) (sym second.2 s)) ∙ leaders_by t i j first.0 second.0 (bytes_eq first.0.process second.0.process) first.1 second.1 refl ∙ (λ s. share_process (sym first.1 s) (sym second.1 s))

-- how many there are
pub ops_counted : (t s : TraceValue) (ops : List OpTableValue) → ops ≡ map (op_table t) (numbers t) → t ≡ s → length ops ≡ operation_count s
ops_counted t s ops e same = ap length e ∙ length-map-range_with_len (op_table t) 0 (operation_count t) ∙ ap operation_count same

pub finals_counted : (t s : TraceValue) (ends : List FinalTableValue) → ends ≡ map (final_table t) (range_with_len 0 (length t.final_values)) → t ≡ s → length ends ≡ length s.final_values
finals_counted t s ends e same = ap length e ∙ length-map-range_with_len (final_table t) 0 (length t.final_values) ∙ ap (λ (u : TraceValue). length u.final_values) same
