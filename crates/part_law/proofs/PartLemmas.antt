-- A legal schedule, restricted to what remains, is a legal schedule of the part.
use Rattle.std.proofs.Common.{◌≡◌, ℕ, List, ◌∷◌, ◌++◌, map, take, Bool, true, false, cond, not, ◌&&◌, refl, ap, sym, ◌∙◌, inl, inr, subst, append_assoc}
use Rattle.std.specs.Prelude.{Option, Some, None, IsSome, is_some}
use Rattle.std.specs.List.{Contains, filter, list_all, list_any}
use Rattle.std.specs.Option.{option_and_then, option_map}
use Rattle.std.specs.Str.{bytes_eq}
use Rattle.std.proofs.lemmas.Bool.{and_parts, and_from, not_from_false, false_from_ne_true}
use Rattle.std.proofs.lemmas.List.Elements.{Contains-append_cases}
use Rattle.std.proofs.lemmas.Option.{same_Some}
use Rattle.trace_semantics.specs.declared.operation.Op.{Op}
use Rattle.trace_semantics.specs.declared.operation.Op.TheVariants.{Read, Write, Update}
use Rattle.trace_semantics.specs.declared.operation.OpName.{OpName}
use Rattle.trace_semantics.specs.declared.operation.Origin.{Origin}
use Rattle.trace_semantics.specs.declared.operation.Span.{Span}
use Rattle.trace_semantics.specs.declared.operation.Origin.TheVariants.{Any, Initial, Operation}
use Rattle.trace_semantics.specs.Interleaving.{StandsBefore}
use Rattle.trace_semantics.specs.Judgement.{is_held}
use Rattle.trace_semantics.specs.KnownOrder.{ended_before}
use Rattle.trace_semantics.specs.Legal.{ComesFrom, ReadsRight, IsLegal}
use Rattle.trace_semantics.specs.Operation.{location_of, value_read, written_value, origin_of, span_of, same_op}
use Rattle.trace_semantics.specs.Trace.{TraceValue, IsTrace, operation_at, operation_names, value_of}
use Rattle.trace_semantics.specs.ValueAfter.{value_left_at, value_after}
use Rattle.trace_semantics.proofs.CauseLemmas.{same_held}
use Rattle.trace_semantics.proofs.ElementLemmas.{cases_in, in_middle, all_pass, some_passes, from_map, from_filter, to_filter, from_flat_map}
use Rattle.trace_semantics.proofs.NameLemmas.{known_listed, listed_known, same_name}
use Rattle.trace_semantics.proofs.OrderLemmas.{stands_behind, stands_ahead, given_entry, entry_given}
use Rattle.restriction.specs.Left.{is_left, new_name, new_op, new_pair, restricted}
use Rattle.forced_order.specs.Order.{Obeys}
use Rattle.part_law.specs.Part.{writes_at, writers_of, is_overwritten, may_be_source, sources, may_be_last, last_writers, keeps_read, stays_of, stays, stays_final, left_names, left_pairs, is_nearest, is_told, part}
use Rattle.restriction.proofs.LeftLemmas.{known_old, old_operation}
use Rattle.restriction.proofs.PlaceLemmas.{in_front}
use Rattle.restriction.proofs.ReadLemmas.{reads_left}
use Rattle.restriction.proofs.RestrictLemmas.{placed_in, restriction_interleaves}
use Rattle.restriction.proofs.StandLemmas.{stands_back, never_both}
use Rattle.restriction.specs.LastWriter.{IsLast}
use Rattle.restriction.specs.Restriction.{StaysAlike, left_by, ArePairsLeft, KeepsSpans}
use Rattle.restriction.proofs.WriterLemmas.{last_leaves, last_writes, writer_known, same_after}

refuted : (b : Bool) → (b ≡ true → ⊥) → not b ≡ true
refuted b h = not_from_false b (false_from_ne_true b h)

-- what stays of an operation leaves what the operation leaves
left_of : (t : TraceValue) (ordered : OpName → OpName → Bool) (chosen : OpName → Bool) (location : List ℕ) (n : OpName) (op : Op) → is_some (stays_of t ordered chosen n op) ≡ true →
    option_and_then (left_by location) (stays_of t ordered chosen n op) ≡ left_by location op
left_of t ordered chosen location n (Read place value origin span) h = at (keeps_read t ordered chosen n place value origin) h
  where
    at : (b : Bool) → is_some (cond b (Some (Read place value origin span)) None) ≡ true → option_and_then (left_by location) (cond b (Some (Read place value origin span)) None) ≡ left_by location (Read place value origin span)
    at true k = refl
    at false k = absurd (cc)
left_of t ordered chosen location n (Write place value span) h = refl
left_of t ordered chosen location n (Update place read left origin span) h = at (keeps_read t ordered chosen n place read origin)
  where
    at : (b : Bool) → left_by location (cond b (Update place read left origin span) (Write place left span)) ≡ left_by location (Update place read left origin span)
    at true = refl
    at false = refl

-- what stays comes from an operation that is chosen
pub record Comes (t : TraceValue) (ordered : OpName → OpName → Bool) (chosen : OpName → Bool) (n : OpName) : Type 0 where
  pub op : Op
  pub chosen_it : chosen n ≡ true
  pub known : operation_at t n ≡ Some op
  pub there : is_some (stays_of t ordered chosen n op) ≡ true
  pub stays_is : stays t ordered chosen n ≡ stays_of t ordered chosen n op

comes_by : (t : TraceValue) (ordered : OpName → OpName → Bool) (chosen : OpName → Bool) (n : OpName) (b : Bool) (o : Option Op) → chosen n ≡ b → operation_at t n ≡ o →
    is_some (cond b (option_and_then (stays_of t ordered chosen n) o) None) ≡ true → Comes t ordered chosen n
comes_by t ordered chosen n false o e f h = absurd (cc)
comes_by t ordered chosen n true None e f h = absurd (cc)
comes_by t ordered chosen n true (Some op) e f h = record {
  op = op;
  chosen_it = e;
  known = f;
  there = h;
  stays_is = λ i. cond (e i) (option_and_then (stays_of t ordered chosen n) (f i)) None;
}

pub comes : (t : TraceValue) (ordered : OpName → OpName → Bool) (chosen : OpName → Bool) (n : OpName) → is_left (stays t ordered chosen) n ≡ true → Comes t ordered chosen n
comes t ordered chosen n h = comes_by t ordered chosen n (chosen n) (operation_at t n) refl refl h

pub part_alike : (t : TraceValue) (ordered : OpName → OpName → Bool) (chosen : OpName → Bool) → StaysAlike t (stays t ordered chosen)
part_alike t ordered chosen = record {
  known = λ n h. (let at = comes t ordered chosen n h in ap is_some at.known);
  leaves = λ location n h. (
      let at = comes t ordered chosen n h in
      ap (option_and_then (left_by location)) at.stays_is ∙ left_of t ordered chosen location n at.op at.there ∙ sym (ap (option_and_then (left_by location)) at.known));
}

-- what stays of an operation was under way when it was
span_of_left : (t : TraceValue) (ordered : OpName → OpName → Bool) (chosen : OpName → Bool) (n : OpName) (op : Op) → is_some (stays_of t ordered chosen n op) ≡ true → option_and_then span_of (stays_of t ordered chosen n op) ≡ span_of op
span_of_left t ordered chosen n (Read place value origin span) h = at (keeps_read t ordered chosen n place value origin) h
  where
    at : (b : Bool) → is_some (cond b (Some (Read place value origin span)) None) ≡ true → option_and_then span_of (cond b (Some (Read place value origin span)) None) ≡ span
    at true k = refl
    at false k = absurd (cc)
span_of_left t ordered chosen n (Write place value span) h = refl
span_of_left t ordered chosen n (Update place read left origin span) h = at (keeps_read t ordered chosen n place read origin)
  where
    at : (b : Bool) → span_of (cond b (Update place read left origin span) (Write place left span)) ≡ span
    at true = refl
    at false = refl

pub part_spans : (t : TraceValue) (ordered : OpName → OpName → Bool) (chosen : OpName → Bool) → KeepsSpans t (stays t ordered chosen)
part_spans t ordered chosen n h =
    let at = comes t ordered chosen n h in
    ap (option_and_then span_of) at.stays_is ∙ span_of_left t ordered chosen n at.op at.there ∙ sym (ap (option_and_then span_of) at.known)

-- a chosen writer remains
writer_stays : (t : TraceValue) (ordered : OpName → OpName → Bool) (chosen : OpName → Bool) (location : List ℕ) (w : OpName) (d : ℕ) → chosen w ≡ true → value_left_at t location w ≡ Some d → is_left (stays t ordered chosen) w ≡ true
writer_stays t ordered chosen location w d e h = ap (λ b. is_some (cond b (option_and_then (stays_of t ordered chosen w) (operation_at t w)) None)) e ∙ by_op (operation_at t w) h
  where
    none_left : (b : Bool) → cond b None None ≡ Some d → ⊥
    none_left true k = cc
    none_left false k = cc

    by_op : (o : Option Op) → option_and_then (left_by location) o ≡ Some d → is_some (option_and_then (stays_of t ordered chosen w) o) ≡ true
    by_op None k = absurd (cc)
    by_op (Some (Read place value origin span)) k = absurd (none_left (bytes_eq place location) k)
    by_op (Some (Write place value span)) k = refl
    by_op (Some (Update place read left origin span)) k = refl

-- what stays of an operation: the whole of it, and then its read is kept, or what reads nothing
pub data HowItStays (t : TraceValue) (ordered : OpName → OpName → Bool) (chosen : OpName → Bool) (n : OpName) (op new : Op) : Type 0 where
  Whole : op ≡ new → ((d : ℕ) → value_read op ≡ Some d → keeps_read t ordered chosen n (location_of op) d (origin_of op) ≡ true) → HowItStays t ordered chosen n op new
  Unread : (location : List ℕ) (d : ℕ) (span : Option Span) → Write location d span ≡ new → HowItStays t ordered chosen n op new

pub how_it_stays : (t : TraceValue) (ordered : OpName → OpName → Bool) (chosen : OpName → Bool) (n : OpName) (op new : Op) → stays_of t ordered chosen n op ≡ Some new → HowItStays t ordered chosen n op new
how_it_stays t ordered chosen n (Read place value origin span) new h = at (keeps_read t ordered chosen n place value origin) refl h
  where
    at : (b : Bool) → keeps_read t ordered chosen n place value origin ≡ b → cond b (Some (Read place value origin span)) None ≡ Some new → HowItStays t ordered chosen n (Read place value origin span) new
    at true e k = Whole (same_Some (Read place value origin span) new k) (λ d f. ap (λ v. keeps_read t ordered chosen n place v origin) (sym (same_Some value d f)) ∙ e)
    at false e k = absurd (cc)
how_it_stays t ordered chosen n (Write place value span) new h = Unread place value span (same_Some (Write place value span) new h)
how_it_stays t ordered chosen n (Update place read left origin span) new h = at (keeps_read t ordered chosen n place read origin) refl h
  where
    at : (b : Bool) → keeps_read t ordered chosen n place read origin ≡ b → Some (cond b (Update place read left origin span) (Write place left span)) ≡ Some new → HowItStays t ordered chosen n (Update place read left origin span) new
    at true e k = Whole (same_Some (Update place read left origin span) new k) (λ d f. ap (λ v. keeps_read t ordered chosen n place v origin) (sym (same_Some read d f)) ∙ e)
    at false e k = Unread place left span (same_Some (Write place left span) new k)

module _ (t : TraceValue) (ok : IsTrace t) (ordered : OpName → OpName → Bool) (chosen : OpName → Bool) (names : List OpName) (legal : IsLegal t names) (obeyed : Obeys t names ordered) where
  abbrev left : OpName → Option Op
  left = stays t ordered chosen

  pub not_silent : (location : List ℕ) (x : OpName) → writes_at t location x ≡ true → value_left_at t location x ≡ None → ⊥
  not_silent location x h e = let clash : true ≡ false = sym h ∙ ap is_some e in cc

  written_here : (location : List ℕ) (w : OpName) (d : ℕ) → value_left_at t location w ≡ Some d → Contains (writers_of t location) w
  written_here location w d h = to_filter (writes_at t location) (operation_names t) w (ap is_some h) (known_listed t w (writer_known t location w d h))

  pub writer_in : (location : List ℕ) (x : OpName) → Contains (writers_of t location) x → IsSome (operation_at t x) × (writes_at t location x ≡ true)
  writer_in location x c = let at = from_filter (writes_at t location) (operation_names t) x c in (listed_known t ok x at.0, at.1)

  -- the last writer before a reading operation may be its source
  pub source_may_be : (front : List OpName) (n : OpName) (back : List OpName) (location : List ℕ) (d : ℕ) (w : OpName) → names ≡ front ++ n ∷ back → IsLast t location front w d → may_be_source t ordered n location d w ≡ true
  source_may_be front n back location d w e last =
      and_from (is_held (value_left_at t location w) d) (not (same_op w n) && (not (ordered n w) && not (is_overwritten t ordered location w n))) (same_held (value_left_at t location w) d last.leaves)
      (and_from (not (same_op w n)) (not (ordered n w) && not (is_overwritten t ordered location w n)) (refuted (same_op w n) not_same)
      (and_from (not (ordered n w)) (not (is_overwritten t ordered location w n)) (refuted (ordered n w) not_behind) (refuted (is_overwritten t ordered location w n) not_over)))
    where
      once : (m : OpName) → StandsBefore names m m → ⊥
      once = legal.interleaving.once

      parts : names ≡ last.front ++ w ∷ (last.back ++ n ∷ back)
      parts = e ∙ ap (λ l. l ++ n ∷ back) last.parts ∙ append_assoc last.front (w ∷ last.back) (n ∷ back)

      known : IsSome (operation_at t n)
      known = legal.interleaving.only n (subst (λ l. Contains l n) (sym e) (in_middle front n back))

      w_known : IsSome (operation_at t w)
      w_known = writer_known t location w d last.leaves

      before : StandsBefore names w n
      before = stands_behind names front n back w e (subst (λ l. Contains l w) (sym last.parts) (in_middle last.front w last.back))

      not_same : same_op w n ≡ true → ⊥
      not_same h = once n (subst (λ m. StandsBefore names m n) (same_name w n h) before)

      not_behind : ordered n w ≡ true → ⊥
      not_behind h = never_both names once w n before (obeyed n w known w_known h)

      not_over : is_overwritten t ordered location w n ≡ true → ⊥
      not_over h =
          let at = some_passes (λ x. ordered w x && ordered x n) (writers_of t location) h in
          let x = at.0 in
          let writer = writer_in location x at.1 in
          let orders = and_parts (ordered w x) (ordered x n) at.2 in
          let first = obeyed w x w_known writer.0 orders.0 in
          let second = obeyed x n writer.0 known orders.1 in
          elim (Contains-append_cases last.back (n ∷ back) x (stands_back names once last.front w (last.back ++ n ∷ back) x parts first)) [
            | inl between ↦ not_silent location x writer.1 (last.silent x between)
            | inr rest ↦ elim (cases_in n back x rest) [
              | inl same ↦ once x (subst (λ m. StandsBefore names x m) same second)
              | inr behind ↦ never_both names once x n second (let at_x : StandsBefore names n x = ahead x behind in at_x)
            ]
          ]
        where
          ahead : (y : OpName) → Contains back y → StandsBefore names n y
          ahead y c = stands_ahead names front n back y e c

  -- the last writer of all may be the one of the final value
  last_may_be : (location : List ℕ) (d : ℕ) (w : OpName) → IsLast t location names w d → may_be_last t ordered location d w ≡ true
  last_may_be location d w last =
      and_from (is_held (value_left_at t location w) d) (not (list_any (ordered w) (writers_of t location))) (same_held (value_left_at t location w) d last.leaves)
      (refuted (list_any (ordered w) (writers_of t location)) (λ h.
      let at = some_passes (ordered w) (writers_of t location) h in
      let writer = writer_in location at.0 at.1 in
      not_silent location at.0 writer.1 (last.silent at.0 (stands_back names legal.interleaving.once last.front w last.back at.0 last.parts (obeyed w at.0 (writer_known t location w d last.leaves) writer.0 at.2)))))

  -- what a kept read reads, and from where
  writer_left : (front : List OpName) (n : OpName) (back : List OpName) (location : List ℕ) (d : ℕ) (origin : Origin) → names ≡ front ++ n ∷ back → keeps_read t ordered chosen n location d origin ≡ true →
      value_after t location front ≡ Some d → ComesFrom t front location origin → (w : OpName) (e : ℕ) → IsLast t location front w e → is_left left w ≡ true
  writer_left front n back location d Any e keeps value source w v last =
      let same : v ≡ d = same_Some v d (sym (last_leaves t location front w v last) ∙ value) in
      let here : IsLast t location front w d = subst (λ x. IsLast t location front w x) same last in
      writer_stays t ordered chosen location w d
      (all_pass chosen (sources t ordered n location d) keeps w (to_filter (may_be_source t ordered n location d) (writers_of t location) w (source_may_be front n back location d w e here) (written_here location w d here.leaves))) here.leaves
  writer_left front n back location d Initial e keeps value source w v last = absurd (let clash : Some w ≡ None = sym (last_writes t location front w v last) ∙ source in cc)
  writer_left front n back location d (Operation u) e keeps value source w v last =
      let same : w ≡ u = same_Some w u (sym (last_writes t location front w v last) ∙ source) in
      writer_stays t ordered chosen location w v (ap chosen same ∙ (and_parts (chosen u) (is_some (option_and_then written_value (operation_at t u))) keeps).0) last.leaves

  reads_whole : (front : List OpName) (n : OpName) (back : List OpName) (op : Op) → names ≡ front ++ n ∷ back → ((d : ℕ) → value_read op ≡ Some d → keeps_read t ordered chosen n (location_of op) d (origin_of op) ≡ true) →
      ReadsRight t front op → ReadsRight (part t ordered chosen) (restricted left front) (new_op left op)
  reads_whole front n back (Read location value origin span) e keeps right =
      let same = same_after t (part t ordered chosen) ok left refl refl (part_alike t ordered chosen) location front (writer_left front n back location value origin e (keeps value refl) (right.value value refl) right.source) in
      reads_left t (part t ordered chosen) left front (restricted left front) (Read location value origin span) same.0 same.1 right
  reads_whole front n back (Write location value span) e keeps right = record { value = λ d f. absurd (cc); source = tt }
  reads_whole front n back (Update location read left_there origin span) e keeps right =
      let same = same_after t (part t ordered chosen) ok left refl refl (part_alike t ordered chosen) location front (writer_left front n back location read origin e (keeps read refl) (right.value read refl) right.source) in
      reads_left t (part t ordered chosen) left front (restricted left front) (Update location read left_there origin span) same.0 same.1 right

  reads_by : (front : List OpName) (n : OpName) (back : List OpName) (op new : Op) → names ≡ front ++ n ∷ back → ReadsRight t front op → HowItStays t ordered chosen n op new → ReadsRight (part t ordered chosen) (restricted left front) (new_op left new)
  reads_by front n back op new e right (Whole same keeps) = subst (λ o. ReadsRight (part t ordered chosen) (restricted left front) (new_op left o)) same (reads_whole front n back op e keeps right)
  reads_by front n back op new e right (Unread location d span same) =
      subst (λ o. ReadsRight (part t ordered chosen) (restricted left front) (new_op left o)) same (record { value = λ v f. absurd (cc); source = tt })

  mapped_some : (o : Option Op) (new : Op) → option_map (new_op left) o ≡ Some new → (old : Op) × (o ≡ Some old) × (new_op left old ≡ new)
  mapped_some None new e = absurd (cc)
  mapped_some (Some old) new e = (old, refl, same_Some (new_op left old) new e)

  part_reads : (before : List OpName) (x : OpName) (after : List OpName) (new : Op) → restricted left names ≡ before ++ x ∷ after → operation_at (part t ordered chosen) x ≡ Some new → ReadsRight (part t ordered chosen) before new
  part_reads before x after new e f =
      let at = placed_in left names before x after e in
      let from = comes t ordered chosen at.name at.left in
      let old = known_old t ok left at.name (ap is_some from.known) at.left in
      let here = mapped_some (left at.name) new (sym (old_operation t (part t ordered chosen) ok left refl (new_name left at.name) at.name old) ∙ ap (operation_at (part t ordered chosen)) at.renamed ∙ f) in
      let how = how_it_stays t ordered chosen at.name from.op here.0 (sym from.stays_is ∙ here.1) in
      let right = reads_by at.front at.name at.back from.op here.0 at.parts (legal.reads at.front at.name at.back from.op at.parts from.known) how in
      subst (λ l. ReadsRight (part t ordered chosen) l new) at.before_is (subst (λ o. ReadsRight (part t ordered chosen) (restricted left at.front) o) here.2 right)

  finals_left : (location : List ℕ) (d : ℕ) → value_of (part t ordered chosen).final_values location ≡ Some d → value_after (part t ordered chosen) location (restricted left names) ≡ Some d
  finals_left location d e =
      let at = given_entry (part t ordered chosen).final_values location d e in
      let there = from_filter (stays_final t ordered chosen) t.final_values at.entry at.listed in
      let given : value_of t.final_values location ≡ Some d = ap (value_of t.final_values) (sym at.location_is) ∙ entry_given t.final_values at.entry ok.final_values there.0 ∙ ap Some at.value_is in
      let all : list_all chosen (last_writers t ordered location d) ≡ true = (λ i. list_all chosen (last_writers t ordered (sym at.location_is i) (sym at.value_is i))) ∙ (and_parts (list_all chosen (last_writers t ordered at.entry.0 at.entry.1)) _ there.1).0 in
      let held = legal.finals location d given in
      (same_after t (part t ordered chosen) ok left refl refl (part_alike t ordered chosen) location names (λ w v last.
      let same : v ≡ d = same_Some v d (sym (last_leaves t location names w v last) ∙ held) in
      let here : IsLast t location names w d = subst (λ x. IsLast t location names w x) same last in
      writer_stays t ordered chosen location w d (all_pass chosen (last_writers t ordered location d) all w (to_filter (may_be_last t ordered location d) (writers_of t location) w (last_may_be location d w here) (written_here location w d here.leaves))) here.leaves)).0
      ∙ held

  pairs_left : ArePairsLeft (part t ordered chosen) left names
  pairs_left x y c =
      let at = from_map (new_pair left) (take 4096 (filter (is_told t ordered left) (left_pairs t left))) (x, y) c in
      let there = from_filter (is_told t ordered left) (left_pairs t left) at.0 (in_front 4096 (filter (is_told t ordered left) (left_pairs t left)) at.0 at.1) in
      let first = from_flat_map (λ m. map (λ (n : OpName). (m, n)) (left_names t left)) (left_names t left) at.0 there.0 in
      let second = from_map (λ (n : OpName). (first.0, n)) (left_names t left) at.0 first.2 in
      let m_is : first.0 ≡ at.0.0 = ap (λ (p : OpName × OpName). p.0) second.2 in
      let n_is : second.0 ≡ at.0.1 = ap (λ (p : OpName × OpName). p.1) second.2 in
      let told = and_parts (ordered at.0.0 at.0.1) _ (and_parts (is_nearest t ordered left at.0) (not (ended_before t at.0.0 at.0.1)) there.1).0 in
      let m_left : is_left left at.0.0 ≡ true = ap (is_left left) (sym m_is) ∙ (from_filter (is_left left) (operation_names t) first.0 first.1).1 in
      let n_left : is_left left at.0.1 ≡ true = ap (is_left left) (sym n_is) ∙ (from_filter (is_left left) (operation_names t) second.0 second.1).1 in (
        at.0.0,
        at.0.1,
        m_left,
        n_left,
        obeyed at.0.0 at.0.1 ((part_alike t ordered chosen).known at.0.0 m_left) ((part_alike t ordered chosen).known at.0.1 n_left) told.0,
        ap (λ (p : OpName × OpName). p.0) at.2,
        ap (λ (p : OpName × OpName). p.1) at.2,
      )

pub restriction_legal : (t : TraceValue) → IsTrace t → (ordered : OpName → OpName → Bool) (chosen : OpName → Bool) (names : List OpName) → IsLegal t names → Obeys t names ordered →
    IsLegal (part t ordered chosen) (restricted (stays t ordered chosen) names)
restriction_legal t ok ordered chosen names legal obeyed = record {
  interleaving = restriction_interleaves t (part t ordered chosen) ok (stays t ordered chosen) refl names legal.interleaving (pairs_left t ok ordered chosen names legal obeyed) (part_spans t ordered chosen);
  reads = part_reads t ok ordered chosen names legal obeyed;
  finals = finals_left t ok ordered chosen names legal obeyed;
}
