-- What reads right with the dropped reads and without them.
use Rattle.std.proofs.Common.{◌≡◌, ℕ, List, [], ◌∷◌, ◌++◌, true, cond, refl, ap, sym, ◌∙◌, subst}
use Rattle.std.specs.Prelude.{Option, Some, None}
use Rattle.std.specs.List.{All, list_any}
use Rattle.std.specs.Option.{option_and_then, option_map}
use Rattle.std.proofs.lemmas.List.Elements.{All-contains}
use Rattle.std.proofs.lemmas.Option.{same_Some}
use Rattle.text_lines.proofs.LastLemmas.{over, last_given}
use Rattle.trace_semantics.specs.declared.operation.Op.{Op}
use Rattle.trace_semantics.specs.declared.operation.Op.TheVariants.{Read, Write, Update}
use Rattle.trace_semantics.specs.declared.operation.OpName.{OpName}
use Rattle.trace_semantics.specs.declared.operation.Origin.{Origin}
use Rattle.trace_semantics.specs.declared.operation.Origin.TheVariants.{Any, Initial, Operation}
use Rattle.trace_semantics.specs.declared.trace.Process.{Process}
use Rattle.trace_semantics.specs.Legal.{ComesFrom, ReadsRight}
use Rattle.trace_semantics.specs.Operation.{location_of, value_read, written_value, origin_of}
use Rattle.trace_semantics.specs.Trace.{TraceValue, IsTrace, IsKnownOrigin, operation_at, value_of}
use Rattle.trace_semantics.specs.ValueAfter.{value_left_at, value_after, last_writer}
use Rattle.trace_semantics.proofs.ElementLemmas.{passes_some}
use Rattle.trace_semantics.proofs.NameLemmas.{name_same, bytes_same}
use Rattle.restriction.specs.Left.{new_name, new_origin, new_op}
use Rattle.restriction.specs.Restriction.{left_by}
use Rattle.restriction.proofs.LeftLemmas.{IsOld, one_old, known_old}
use Rattle.restriction.proofs.ReadLemmas.{reads_left}
use Rattle.restriction.proofs.TraceLeftLemmas.{Listed, same_origin}
use Rattle.restriction.proofs.WriterLemmas.{same_location}
use Rattle.reducer.specs.Reduction.{value_behind, is_from, previous, is_dropped, kept_op, is_kept, kept_trace}
use Rattle.reducer.proofs.DroppedReads.InterleavingLemmas.{reduced, kept_as_origin}
use Rattle.reducer.proofs.KeptTrace.KeptLemmas.{kept_known}
use Rattle.reducer.proofs.DroppedReads.RepeatLemmas.{dropped_repeats}
use Rattle.reducer.proofs.DroppedReads.ValueLemmas.{same_read, values_alike, last_alike, writer_kept}

pub origin_known : (t : TraceValue) → IsTrace t → (op : Op) → Listed t op → IsKnownOrigin t (origin_of op)
origin_known t ok op at =
    All-contains (λ (o : Op). IsKnownOrigin t (origin_of o)) at.process.operations op
    (All-contains (λ (p : Process). All (λ (o : Op). IsKnownOrigin t (origin_of o)) p.operations) t.processes at.process ok.origins at.listed) at.there

-- an operation that an origin names is kept
pub named_by_origin : (t : TraceValue) → IsTrace t → (op : Op) (w : OpName) → Listed t op → origin_of op ≡ Operation w → is_kept t w ≡ true
named_by_origin t ok op w at e =
    kept_as_origin t w (subst (λ o. IsKnownOrigin t o) e (origin_known t ok op at))
    (passes_some (λ (p : Process). list_any (λ (o : Op). is_from w (origin_of o)) p.operations) t.processes at.process at.listed
    (passes_some (λ (o : Op). is_from w (origin_of o)) at.process.operations op at.there (ap (is_from w) e ∙ name_same w w refl)))

-- without the dropped reads
pub reads_without : (t : TraceValue) → IsTrace t → (names : List OpName) (op : Op) → ReadsRight t names op → ReadsRight (kept_trace t) (reduced t names) (new_op (kept_op t) op)
reads_without t ok names op right = reads_left t (kept_trace t) (kept_op t) names (reduced t names) op (values_alike t ok (location_of op) names) (last_alike t ok (location_of op) names) right

-- with them
one_writer : (t : TraceValue) → IsTrace t → (names : List OpName) (location : List ℕ) (n : OpName) (o : Option OpName) → is_kept t n ≡ true →
    last_writer t location names ≡ o → option_map (new_name (kept_op t)) o ≡ Some (new_name (kept_op t) n) → o ≡ Some n
one_writer t ok names location n None kept e h = absurd (cc)
one_writer t ok names location n (Some w) kept e h =
    let listed = writer_kept t location names w e in
    let same : new_name (kept_op t) w ≡ new_name (kept_op t) n = cc in
    let first = subst (λ x. IsOld t (kept_op t) x w) same (known_old t ok (kept_op t) w (kept_known t w listed) listed) in
    ap Some (one_old t (kept_op t) (new_name (kept_op t) n) w n first (known_old t ok (kept_op t) n (kept_known t n kept) kept))

no_writer : (t : TraceValue) (o : Option OpName) → option_map (new_name (kept_op t)) o ≡ None → o ≡ None
no_writer t None e = refl
no_writer t (Some w) e = absurd (cc)

came_from : (t : TraceValue) → IsTrace t → (names : List OpName) (location : List ℕ) (o : Origin) → ((w : OpName) → o ≡ Operation w → is_kept t w ≡ true) →
    ComesFrom (kept_trace t) (reduced t names) location (new_origin (kept_op t) o) → ComesFrom t names location o
came_from t ok names location Any kept h = tt
came_from t ok names location Initial kept h = no_writer t (last_writer t location names) (sym (last_alike t ok location names) ∙ h)
came_from t ok names location (Operation n) kept h = one_writer t ok names location n (last_writer t location names) (kept n refl) refl (sym (last_alike t ok location names) ∙ h)

pub reads_with : (t : TraceValue) → IsTrace t → (names : List OpName) (op : Op) → Listed t op → ReadsRight (kept_trace t) (reduced t names) (new_op (kept_op t) op) → ReadsRight t names op
reads_with t ok names op at right = record {
  value = λ d e.
      sym (values_alike t ok (location_of op) names)
      ∙ ap (λ l. value_after (kept_trace t) l (reduced t names)) (sym (same_location (kept_op t) op)) ∙ right.value d (same_read t op ∙ e);
  source = came_from t ok names (location_of op) (origin_of op) (λ w e. named_by_origin t ok op w at e)
      (subst (λ o. ComesFrom (kept_trace t) (reduced t names) (location_of op) o) (same_origin (kept_op t) op)
      (subst (λ l. ComesFrom (kept_trace t) (reduced t names) l (origin_of (new_op (kept_op t) op))) (same_location (kept_op t) op) right.source));
}

held_by : (op : Op) (o : Option ℕ) → ((d : ℕ) → value_read op ≡ Some d → o ≡ Some d) → over (cond true (written_value op) None) o ≡ Some (value_behind op)
held_by (Read location value origin span) o h = h value refl
held_by (Write location value span) o h = refl
held_by (Update location read left origin span) o h = refl

pub held_behind : (t : TraceValue) (names : List OpName) (n : OpName) (op : Op) → operation_at t n ≡ Some op → ReadsRight t names op → value_after t (location_of op) (names ++ n ∷ []) ≡ Some (value_behind op)
held_behind t names n op e right =
    last_given (value_left_at t (location_of op)) (value_of t.initial (location_of op)) names n
    ∙ ap (λ o. over (option_and_then (left_by (location_of op)) o) (value_after t (location_of op) names)) e
    ∙ ap (λ b. over (cond b (written_value op) None) (value_after t (location_of op) names)) (bytes_same (location_of op) (location_of op) refl)
    ∙ held_by op (value_after t (location_of op) names) right.value

-- so a read that is dropped after it reads right
pub repeat_reads : (t : TraceValue) (names : List OpName) (m n : OpName) (first second : Op) → previous n ≡ m → is_dropped t n ≡ true → operation_at t m ≡ Some first → operation_at t n ≡ Some second → ReadsRight t names first → ReadsRight t (names ++ m ∷ []) second
repeat_reads t names m n first second behind dropped e f right =
    let at = dropped_repeats t n dropped in
    let one : at.earlier ≡ first = same_Some at.earlier first (sym at.first_is ∙ ap (operation_at t) behind ∙ e) in
    let two : Read at.location at.value Any None ≡ second = same_Some (Read at.location at.value Any None) second (sym at.second_is ∙ f) in
    let held : value_after t at.location (names ++ m ∷ []) ≡ Some at.value =
    ap (λ l. value_after t l (names ++ m ∷ [])) (sym at.same_location ∙ ap location_of one) ∙ held_behind t names m first e right ∙ ap Some (ap value_behind (sym one) ∙ at.same_value) in
    subst (λ o. ReadsRight t (names ++ m ∷ []) o) two (record { value = λ d g. held ∙ g; source = tt })
