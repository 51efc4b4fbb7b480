-- In a legal schedule each reading operation reads one of its candidates, and each final value is left by the last writer.
use Rattle.std.proofs.Common.{◌≡◌, ◌⊎◌, ℕ, List, [], ◌∷◌, ◌++◌, length, map, true, refl, ap, sym, ◌∙◌, inl, inr, subst}
use Rattle.std.specs.Prelude.{◌≢◌, Option, Some, None, IsSome, is_some, ◌==◌}
use Rattle.std.specs.List.{Contains}
use Rattle.std.proofs.lemmas.Bool.{and_from}
use Rattle.std.proofs.lemmas.List.Elements.{Contains-append_cases}
use Rattle.std.proofs.lemmas.Option.{option_and_then_some, none-some}
use Rattle.trace_semantics.specs.declared.operation.Op.{Op}
use Rattle.trace_semantics.specs.declared.operation.OpName.{OpName}
use Rattle.trace_semantics.specs.declared.operation.Origin.{Origin}
use Rattle.trace_semantics.specs.declared.operation.Origin.TheVariants.{Any, Initial, Operation}
use Rattle.trace_semantics.specs.Interleaving.{StandsBefore}
use Rattle.trace_semantics.specs.Judgement.{is_held, is_the_op}
use Rattle.trace_semantics.specs.Legal.{ComesFrom, ReadsRight, IsLegal}
use Rattle.trace_semantics.specs.Operation.{location_of, value_read, origin_of}
use Rattle.trace_semantics.specs.Trace.{TraceValue, IsTrace, operation_at, value_of}
use Rattle.trace_semantics.specs.ValueAfter.{value_left_at, value_after, last_writer}
use Rattle.trace_semantics.proofs.ElementLemmas.{placed, in_middle, head_in, tail_in, cases_in, to_map, from_filter, to_filter}
use Rattle.trace_semantics.proofs.NameLemmas.{name_same, some_value}
use Rattle.trace_semantics.proofs.OrderLemmas.{stands_behind, entry_given}
use Rattle.trace_semantics.proofs.CauseLemmas.{same_held}
use Rattle.restriction.proofs.StandLemmas.{stands_in, stands_left}
use Rattle.var_layout.specs.declared.candidate.Candidate.{Candidate}
use Rattle.var_layout.specs.declared.candidate.Candidate.TheVariants.{InitialValue, Writer}
use Rattle.var_layout.specs.Candidates.{sources, value_from, is_read, is_allowed, is_candidate, candidates}
use Rattle.var_layout.specs.FinalVariables.{is_untouched}
use Rattle.var_layout.specs.Numbers.{numbers, name_at, number_of, op_at, read_at, left_at, readers, writers, others, other_writers}
use Rattle.var_layout.proofs.WriterLemmas.{from_others}
use Rattle.clause_blocks.proofs.NamesInOrder.LastWriterLemmas.{GivesNone, IsLast, LastOrNone, NoOne, Last, last_or_none, value_unwritten, writer_unwritten, value_written, writer_written}
use Rattle.clause_blocks.proofs.ModelToSchedule.ModelChoiceLemmas.{IsRead, IsLastWriter, IsFinal}
use Rattle.clause_blocks.proofs.ModelToSchedule.ModelLegalLemmas.{came}
use Rattle.clause_blocks.proofs.NumbersOfNames.OperationNumberLemmas.{numbered, known_at}
use Rattle.clause_blocks.proofs.ScheduleToModel.ScheduleOrderLemmas.{ahead_in, stands_numbered, stands_either}
use Rattle.clause_blocks.proofs.NamesInOrder.StandLemmas.{IsOnce, stands_once}
use Rattle.clause_blocks.proofs.NumbersOfNames.WriterNumberLemmas.{to_others, candidates_are, other_writers_are, writer_known, left_numbered, writer_numbered, writer_at}

-- a reading operation of this number
pub record IsReader (t : TraceValue) (r : ℕ) : Type 0 where
  pub name : OpName
  pub op : Op
  pub value : ℕ
  pub named : name_at t r ≡ Some name
  pub op_is : operation_at t name ≡ Some op
  pub at : op_at t r ≡ Some op
  pub reads : value_read op ≡ Some value

pub reader_at : (t : TraceValue) (r : ℕ) → Contains (readers t) r → IsReader t r
reader_at t r c =
    let listed = from_filter (λ (i : ℕ). is_some (read_at t i)) (numbers t) r c in
    let value = some_value (read_at t r) listed.1 in
    option_and_then_some value_read (op_at t r) value.0 value.1 (λ op h k. option_and_then_some (operation_at t) (name_at t r) op h (λ n e f.
    record { name = n; op = op; value = value.0; named = e; op_is = f; at = h; reads = k }))

read_same : (o p : Option ℕ) (d : ℕ) → o ≡ Some d → p ≡ Some d → is_read o p ≡ true
read_same None p d e f = absurd (cc)
read_same (Some c) p d e f = same_held p c (f ∙ sym e)

initial_allowed : (t : TraceValue) (names : List OpName) (location : List ℕ) (origin : Origin) → ComesFrom t names location origin → last_writer t location names ≡ None → is_allowed t origin InitialValue ≡ true
initial_allowed t names location Any c e = refl
initial_allowed t names location Initial c e = refl
initial_allowed t names location (Operation n) c e = absurd (none-some n (sym e ∙ c))

writer_allowed : (t : TraceValue) (names : List OpName) (location : List ℕ) (origin : Origin) (w : ℕ) (x : OpName) → ComesFrom t names location origin → last_writer t location names ≡ Some x → name_at t w ≡ Some x → is_allowed t origin (Writer w) ≡ true
writer_allowed t names location Any w x c e f = refl
writer_allowed t names location Initial w x c e f = absurd (none-some x (sym c ∙ e))
writer_allowed t names location (Operation n) w x c e f =
    let both : Some x ≡ Some n = sym e ∙ c in
    let same : x ≡ n = cc in
    ap (λ o. is_the_op o n) f ∙ name_same x n same

no_elements : (xs : List ℕ) → ((x : ℕ) → Contains xs x → ⊥) → (length xs == 0) ≡ true
no_elements [] h = refl
no_elements (x ∷ xs) h = absurd (h x (head_in x xs))

-- what stands after an element of a part of a list is after it in the part
behind : (names : List OpName) → IsOnce names → (xs : List OpName) → ((a b : OpName) → StandsBefore xs a b → StandsBefore names a b) → (front : List OpName) (x : OpName) (back : List OpName) → xs ≡ front ++ x ∷ back →
    (z : OpName) → Contains xs z → StandsBefore names x z → Contains back z
behind names once xs lift front x back e z c s =
    elim (Contains-append_cases front (x ∷ back) z (subst (λ l. Contains l z) e c)) [
      | inl here ↦ absurd (stands_once names once x z s (lift z x (stands_behind xs front x back z e here)))
      | inr rest ↦ elim (cases_in x back z rest) [
        | inl same ↦ absurd (once z (subst (λ w. StandsBefore names w z) same s))
        | inr later ↦ later
      ]
    ]

module _ (t : TraceValue) (names : List OpName) (ok : IsTrace t) (legal : IsLegal t names) where
  once : IsOnce names
  once = legal.interleaving.once

  -- another writer of the location on which the operation works
  module _ (r : ℕ) (reader : IsReader t r) (before after : List OpName) (parts : names ≡ before ++ reader.name ∷ after) where
    right : ReadsRight t before reader.op
    right = legal.reads before reader.name after reader.op parts reader.op_is

    other_writer : (v : ℕ) → Contains (other_writers t r) v → Contains (writers t (location_of reader.op)) v × (v ≢ r)
    other_writer v c = from_others r (writers t (location_of reader.op)) v (subst (λ l. Contains l v) (other_writers_are t r reader.op reader.at) c)

    came_before : (x : OpName) → StandsBefore names x reader.name → Contains before x
    came_before x s = came names before reader.name after once parts x (stands_in names x reader.name s).0 s

    lift_before : (a b : OpName) → StandsBefore before a b → StandsBefore names a b
    lift_before a b s = subst (λ l. StandsBefore l a b) (sym parts) (stands_left before (reader.name ∷ after) a b s)

    candidate : (c : Candidate) → Contains (sources t r) c → is_read (value_from t (location_of reader.op) c) (value_read reader.op) ≡ true → is_allowed t (origin_of reader.op) c ≡ true → Contains (candidates t r) c
    candidate c listed reads allowed =
        subst (λ l. Contains l c) (sym (candidates_are t r reader.op reader.at))
        (to_filter (is_candidate t reader.op) (sources t r) c
        (and_from (is_read (value_from t (location_of reader.op) c) (value_read reader.op)) (is_allowed t (origin_of reader.op) c) reads allowed) listed)

    -- no other writer stands before it
    read_initial : GivesNone (value_left_at t (location_of reader.op)) before → IsRead (ahead_in t names) t r InitialValue
    read_initial none =
        let held = sym (value_unwritten t (location_of reader.op) before none) ∙ right.value reader.value reader.reads in
        record {
          listed = candidate InitialValue (head_in InitialValue (map (λ (w : ℕ). Writer w) (other_writers t r)))
              (read_same (value_of t.initial (location_of reader.op)) (value_read reader.op) reader.value held reader.reads)
              (initial_allowed t before (location_of reader.op) (origin_of reader.op) right.source (writer_unwritten t (location_of reader.op) before none));
          meets = first;
        }
      where
        first : (v : ℕ) → Contains (other_writers t r) v → ahead_in t names r v ≡ true
        first v c =
            let other = other_writer v c in
            let at = writer_at t (location_of reader.op) v other.0 in
            elim (stands_either t names ok legal.interleaving r v reader.name at.name (λ e. other.1 (sym e)) reader.named at.named) [
              | inl s ↦ stands_numbered t names ok legal.interleaving r v reader.name at.name reader.named at.named s
              | inr s ↦ absurd (none-some at.value (sym (none at.name (came_before at.name s)) ∙ at.leaves))
            ]

    -- the last writer before it
    read_writer : (x : OpName) (y : ℕ) → IsLast (value_left_at t (location_of reader.op)) before x y → IsRead (ahead_in t names) t r (Writer (number_of t x))
    read_writer x y last =
        let held : value_left_at t (location_of reader.op) x ≡ Some reader.value = last.gives ∙ sym (value_written t (location_of reader.op) before x y last) ∙ right.value reader.value reader.reads in
        record {
          listed = candidate (Writer (number_of t x)) (tail_in InitialValue (map (λ (w : ℕ). Writer w) (other_writers t r)) (Writer (number_of t x)) (to_map (λ (w : ℕ). Writer w) (other_writers t r) (number_of t x) other_listed))
              (read_same (left_at t (location_of reader.op) (number_of t x)) (value_read reader.op) reader.value (left_numbered t ok (location_of reader.op) x x_known ∙ held) reader.reads)
              (writer_allowed t before (location_of reader.op) (origin_of reader.op) (number_of t x) x right.source (writer_written t (location_of reader.op) before x y last) x_named);
          meets = (stands_numbered t names ok legal.interleaving (number_of t x) r x reader.name x_named reader.named x_before, later);
        }
      where
        x_known : IsSome (operation_at t x)
        x_known = writer_known t (location_of reader.op) x y last.gives

        x_named : name_at t (number_of t x) ≡ Some x
        x_named = numbered t ok x x_known

        x_before : StandsBefore names x reader.name
        x_before = stands_behind names before reader.name after x parts (subst (λ l. Contains l x) (sym last.parts) (in_middle last.front x last.back))

        other : number_of t x ≢ r
        other e = (let both : Some x ≡ Some reader.name = sym x_named ∙ ap (name_at t) e ∙ reader.named in let same : x ≡ reader.name = cc in once reader.name (subst (λ w. StandsBefore names w reader.name) same x_before))

        other_listed : Contains (other_writers t r) (number_of t x)
        other_listed = subst (λ l. Contains l (number_of t x)) (sym (other_writers_are t r reader.op reader.at)) (to_others r (writers t (location_of reader.op)) (number_of t x) (writer_numbered t ok (location_of reader.op) x y last.gives) other)

        later : (v : ℕ) → Contains (others (number_of t x) (other_writers t r)) v → (ahead_in t names v (number_of t x) ≡ true) ⊎ (ahead_in t names r v ≡ true)
        later v c =
            let second = from_others (number_of t x) (other_writers t r) v c in
            let writer = other_writer v second.0 in
            let at = writer_at t (location_of reader.op) v writer.0 in
            elim (stands_either t names ok legal.interleaving v (number_of t x) at.name x second.1 at.named x_named) [
              | inl s ↦ inl (stands_numbered t names ok legal.interleaving v (number_of t x) at.name x at.named x_named s)
              | inr s ↦ elim (stands_either t names ok legal.interleaving v r at.name reader.name writer.1 at.named reader.named) [
                | inl u ↦ absurd (none-some at.value (sym (last.none_behind at.name (behind names once before lift_before last.front x last.back last.parts at.name (came_before at.name u) s)) ∙ at.leaves))
                | inr u ↦ inr (stands_numbered t names ok legal.interleaving r v reader.name at.name reader.named at.named u)
              ]
            ]

    read_by : LastOrNone (value_left_at t (location_of reader.op)) before → (c : Candidate) × IsRead (ahead_in t names) t r c
    read_by (NoOne none) = (InitialValue, read_initial none)
    read_by (Last x y last) = (Writer (number_of t x), read_writer x y last)

  pub schedule_read : (r : ℕ) → Contains (readers t) r → (c : Candidate) × IsRead (ahead_in t names) t r c
  schedule_read r c =
      let reader = reader_at t r c in
      let here = placed names reader.name (legal.interleaving.each reader.name (known_at t ok r reader.name reader.named)) in
      read_by r reader here.front here.back here.parts (last_or_none (value_left_at t (location_of reader.op)) here.front)

  -- the last writer of a location with a final value
  module _ (entry : List ℕ × ℕ) (held : value_after t entry.0 names ≡ Some entry.1) where
    unwritten : GivesNone (value_left_at t entry.0) names → is_untouched t entry ≡ true
    unwritten none =
        and_from (length (writers t entry.0) == 0) (is_held (value_of t.initial entry.0) entry.1)
        (no_elements (writers t entry.0) (λ v c. (let at = writer_at t entry.0 v c in none-some at.value (sym (none at.name (legal.interleaving.each at.name (known_at t ok v at.name at.named))) ∙ at.leaves))))
        (same_held (value_of t.initial entry.0) entry.1 (sym (value_unwritten t entry.0 names none) ∙ held))

    written : (x : OpName) (y : ℕ) → IsLast (value_left_at t entry.0) names x y → IsLastWriter (ahead_in t names) t entry (number_of t x)
    written x y last = record {
      listed = to_filter (λ (w : ℕ). is_held (left_at t entry.0 w) entry.1) (writers t entry.0) (number_of t x)
          (same_held (left_at t entry.0 (number_of t x)) entry.1 (left_numbered t ok entry.0 x x_known ∙ last.gives ∙ sym (value_written t entry.0 names x y last) ∙ held))
          (writer_numbered t ok entry.0 x y last.gives);
      last = earlier;
    }
      where
        x_known : IsSome (operation_at t x)
        x_known = writer_known t entry.0 x y last.gives

        x_named : name_at t (number_of t x) ≡ Some x
        x_named = numbered t ok x x_known

        earlier : (v : ℕ) → Contains (others (number_of t x) (writers t entry.0)) v → ahead_in t names v (number_of t x) ≡ true
        earlier v c =
            let other = from_others (number_of t x) (writers t entry.0) v c in
            let at = writer_at t entry.0 v other.0 in
            elim (stands_either t names ok legal.interleaving v (number_of t x) at.name x other.1 at.named x_named) [
              | inl s ↦ stands_numbered t names ok legal.interleaving v (number_of t x) at.name x at.named x_named s
              | inr s ↦ absurd (none-some at.value (sym (last.none_behind at.name (behind names once names (λ a b u. u) last.front x last.back last.parts at.name (stands_in names x at.name s).1 s)) ∙ at.leaves))
            ]

    final_by : LastOrNone (value_left_at t entry.0) names → IsFinal (ahead_in t names) t entry
    final_by (NoOne none) = inl (unwritten none)
    final_by (Last x y last) = inr (number_of t x, written x y last)

  pub schedule_final : (entry : List ℕ × ℕ) → Contains t.final_values entry → IsFinal (ahead_in t names) t entry
  schedule_final entry c =
      final_by entry (legal.finals entry.0 entry.1 (entry_given t.final_values entry ok.final_values c)) (last_or_none (value_left_at t entry.0) names)
