-- The last writer of a location, and that it is the same after a restriction in which it remains.
use Rattle.std.proofs.Common.{◌≡◌, ◌⊎◌, ℕ, List, [], ◌∷◌, ◌++◌, map, Bool, true, false, cond, refl, ap, sym, ◌∙◌, inl, inr}
use Rattle.std.specs.Prelude.{Option, Some, None, IsSome, is_some}
use Rattle.std.specs.List.{Contains, filter, filter_map, cons_option, last_or}
use Rattle.std.specs.Option.{option_and_then, option_map}
use Rattle.std.specs.Str.{bytes_eq}
use Rattle.trace_semantics.specs.declared.operation.Op.{Op}
use Rattle.trace_semantics.specs.declared.operation.Op.TheVariants.{Read, Write, Update}
use Rattle.trace_semantics.specs.declared.operation.OpName.{OpName}
use Rattle.trace_semantics.specs.Operation.{location_of, written_value}
use Rattle.trace_semantics.specs.Trace.{TraceValue, IsTrace, operation_at, value_of}
use Rattle.trace_semantics.specs.ValueAfter.{value_left_at, value_after, last_writer}
use Rattle.trace_semantics.proofs.ElementLemmas.{head_in, tail_in, cases_in, none_in}
use Rattle.restriction.specs.Left.{is_left, new_name, new_op, left_process, restricted}
use Rattle.restriction.specs.LastWriter.{AreSilent, IsLast}
use Rattle.restriction.specs.Restriction.{left_by, StaysAlike}
use Rattle.restriction.proofs.LeftLemmas.{new_operation}
use Rattle.restriction.proofs.RestrictLemmas.{restricted_split, restricted_from}

-- the last value that a list gives, and the last element that gives one
module _ {X Y : Type 0} (f : X → Option Y) where
  abbrev AreSilentIn : List X → Type 0
  AreSilentIn xs = (x : X) → Contains xs x → f x ≡ None

  silent_tail : (x : X) (xs : List X) → AreSilentIn (x ∷ xs) → AreSilentIn xs
  silent_tail x xs silent y c = silent y (tail_in x xs y c)

  no_value : (xs : List X) (o : Option Y) → AreSilentIn xs → last_or o (filter_map f xs) ≡ o
  no_value [] o silent = refl
  no_value (x ∷ xs) o silent =
      ap (λ v. last_or o (cons_option v (filter_map f xs))) (silent x (head_in x xs)) ∙ no_value xs o (silent_tail x xs silent)

  no_item : (xs : List X) (o : Option X) → AreSilentIn xs → last_or o (filter (λ x. is_some (f x)) xs) ≡ o
  no_item [] o silent = refl
  no_item (x ∷ xs) o silent =
      ap (λ v. last_or o (cond (is_some v) (x ∷ filter (λ y. is_some (f y)) xs) (filter (λ y. is_some (f y)) xs))) (silent x (head_in x xs)) ∙ no_item xs o (silent_tail x xs silent)

  value_by : (xs : List Y) (y : Y) (v o : Option Y) → ((p : Option Y) → last_or p xs ≡ Some y) → last_or o (cons_option v xs) ≡ Some y
  value_by xs y None o more = more o
  value_by xs y (Some z) o more = more (Some z)

  last_value : (front : List X) (w : X) (back : List X) (y : Y) (o : Option Y) → f w ≡ Some y → AreSilentIn back → last_or o (filter_map f (front ++ w ∷ back)) ≡ Some y
  last_value [] w back y o e silent = ap (λ v. last_or o (cons_option v (filter_map f back))) e ∙ no_value back (Some y) silent
  last_value (x ∷ front) w back y o e silent = value_by (filter_map f (front ++ w ∷ back)) y (f x) o (λ p. last_value front w back y p e silent)

  item_by : (x : X) (xs : List X) (w : X) (b : Bool) (o : Option X) → ((p : Option X) → last_or p xs ≡ Some w) → last_or o (cond b (x ∷ xs) xs) ≡ Some w
  item_by x xs w true o more = more (Some x)
  item_by x xs w false o more = more o

  last_item : (front : List X) (w : X) (back : List X) (y : Y) (o : Option X) → f w ≡ Some y → AreSilentIn back → last_or o (filter (λ x. is_some (f x)) (front ++ w ∷ back)) ≡ Some w
  last_item [] w back y o e silent =
      ap (λ v. last_or o (cond (is_some v) (w ∷ filter (λ x. is_some (f x)) back) (filter (λ x. is_some (f x)) back))) e ∙ no_item back (Some w) silent
  last_item (x ∷ front) w back y o e silent = item_by x (filter (λ z. is_some (f z)) (front ++ w ∷ back)) w (is_some (f x)) o (λ p. last_item front w back y p e silent)

pub silent_value : (t : TraceValue) (location : List ℕ) (names : List OpName) → AreSilent t location names → value_after t location names ≡ value_of t.initial location
silent_value t location names silent = no_value (value_left_at t location) names (value_of t.initial location) silent

pub silent_writer : (t : TraceValue) (location : List ℕ) (names : List OpName) → AreSilent t location names → last_writer t location names ≡ None
silent_writer t location names silent = no_item (value_left_at t location) names None silent

pub last_leaves : (t : TraceValue) (location : List ℕ) (names : List OpName) (w : OpName) (d : ℕ) → IsLast t location names w d → value_after t location names ≡ Some d
last_leaves t location names w d last =
    ap (value_after t location) last.parts ∙ last_value (value_left_at t location) last.front w last.back d (value_of t.initial location) last.leaves last.silent

pub last_writes : (t : TraceValue) (location : List ℕ) (names : List OpName) (w : OpName) (d : ℕ) → IsLast t location names w d → last_writer t location names ≡ Some w
last_writes t location names w d last =
    ap (last_writer t location) last.parts ∙ last_item (value_left_at t location) last.front w last.back d None last.leaves last.silent

-- what writes is an operation of the trace
pub writer_known : (t : TraceValue) (location : List ℕ) (w : OpName) (d : ℕ) → value_left_at t location w ≡ Some d → IsSome (operation_at t w)
writer_known t location w d e = at (operation_at t w) e
  where
    at : (o : Option Op) → option_and_then (left_by location) o ≡ Some d → IsSome o
    at None e = absurd (cc)
    at (Some op) e = refl

-- none writes the location, or there is a last that does
last_at : (t : TraceValue) (location : List ℕ) (n : OpName) (names : List OpName) (o : Option ℕ) → value_left_at t location n ≡ o → AreSilent t location names → AreSilent t location (n ∷ names) ⊎ ((w : OpName) × (d : ℕ) × IsLast t location (n ∷ names) w d)
last_at t location n names None e silent =
    inl (λ m c. elim (cases_in n names m c) [
      | inl same ↦ ap (value_left_at t location) (sym same) ∙ e
      | inr there ↦ silent m there
    ])
last_at t location n names (Some d) e silent = inr (n, d, record { front = []; back = names; parts = refl; leaves = e; silent = silent })

pub last_of : (t : TraceValue) (location : List ℕ) (names : List OpName) → AreSilent t location names ⊎ ((w : OpName) × (d : ℕ) × IsLast t location names w d)
last_of t location [] = inl (λ n c. absurd (none_in n c))
last_of t location (n ∷ names) =
    elim (last_of t location names) [
      | inl silent ↦ last_at t location n names (value_left_at t location n) refl silent
      | inr (w, d, last) ↦ inr (w, d, record { front = n ∷ last.front; back = last.back; parts = ap (λ l. n ∷ l) last.parts; leaves = last.leaves; silent = last.silent })
    ]

-- what the new name of an origin changes
pub same_location : (stays : OpName → Option Op) (op : Op) → location_of (new_op stays op) ≡ location_of op
same_location stays (Read location value origin span) = refl
same_location stays (Write location value span) = refl
same_location stays (Update location read left origin span) = refl

pub same_left : (stays : OpName → Option Op) (op : Op) → written_value (new_op stays op) ≡ written_value op
same_left stays (Read location value origin span) = refl
same_left stays (Write location value span) = refl
same_left stays (Update location read left origin span) = refl

left_mapped : (stays : OpName → Option Op) (location : List ℕ) (o : Option Op) → option_and_then (left_by location) (option_map (new_op stays) o) ≡ option_and_then (left_by location) o
left_mapped stays location None = refl
left_mapped stays location (Some op) = λ i. cond (bytes_eq (same_location stays op i) location) (same_left stays op i) None

module _ (t q : TraceValue) (ok : IsTrace t) (stays : OpName → Option Op) (made : q.processes ≡ map (left_process stays) t.processes) (initial : q.initial ≡ t.initial) (alike : StaysAlike t stays) where
  left_alike : (location : List ℕ) (n : OpName) → is_left stays n ≡ true → value_left_at q location (new_name stays n) ≡ value_left_at t location n
  left_alike location n left =
      ap (option_and_then (left_by location)) (new_operation t q ok stays made n (alike.known n left) left) ∙ left_mapped stays location (stays n) ∙ alike.leaves location n left

  silent_stays : (location : List ℕ) (names : List OpName) → AreSilent t location names → AreSilent q location (restricted stays names)
  silent_stays location names silent x c =
      let at = restricted_from stays names x c in
      ap (value_left_at q location) (sym at.3) ∙ left_alike location at.0 at.2 ∙ silent at.0 at.1

  last_stays : (location : List ℕ) (names : List OpName) (w : OpName) (d : ℕ) → IsLast t location names w d → is_left stays w ≡ true → IsLast q location (restricted stays names) (new_name stays w) d
  last_stays location names w d last left = record {
    front = restricted stays last.front;
    back = restricted stays last.back;
    parts = ap (restricted stays) last.parts ∙ restricted_split stays last.front w last.back left;
    leaves = left_alike location w left ∙ last.leaves;
    silent = silent_stays location last.back last.silent;
  }

  -- if the last writer remains, or there is none, value and writer are the same
  pub same_after : (location : List ℕ) (names : List OpName) → ((w : OpName) (d : ℕ) → IsLast t location names w d → is_left stays w ≡ true) →
      (value_after q location (restricted stays names) ≡ value_after t location names) × (last_writer q location (restricted stays names) ≡ option_map (new_name stays) (last_writer t location names))
  same_after location names left =
      elim (last_of t location names) [
        | inl silent ↦ (
          silent_value q location (restricted stays names) (silent_stays location names silent) ∙ ap (λ values. value_of values location) initial ∙ sym (silent_value t location names silent),
          silent_writer q location (restricted stays names) (silent_stays location names silent) ∙ sym (ap (option_map (new_name stays)) (silent_writer t location names silent)),
        )
        | inr (w, d, last) ↦ (let stays_last = last_stays location names w d last (left w d last) in (
          last_leaves q location (restricted stays names) (new_name stays w) d stays_last ∙ sym (last_leaves t location names w d last),
          last_writes q location (restricted stays names) (new_name stays w) d stays_last ∙ sym (ap (option_map (new_name stays)) (last_writes t location names w d last)),
        ))
      ]
