-- A schedule restricted to what remains: its interleaving, and where its names stand.
use Rattle.std.proofs.Common.{◌≡◌, ◌<◌, List, [], ◌∷◌, ◌++◌, map, Bool, true, false, cond, refl, ap, sym, ◌∙◌, arith, inl, inr, subst}
use Rattle.std.specs.Prelude.{Option, IsSome}
use Rattle.std.specs.List.{Contains, filter}
use Rattle.trace_semantics.specs.declared.operation.Op.{Op}
use Rattle.trace_semantics.specs.declared.operation.OpName.{OpName}
use Rattle.trace_semantics.specs.Interleaving.{StandsBefore, IsInterleaving}
use Rattle.trace_semantics.specs.KnownOrder.{ended_before, IsKnownBefore}
use Rattle.trace_semantics.specs.Trace.{TraceValue, IsTrace, operation_at}
use Rattle.trace_semantics.proofs.ElementLemmas.{from_map, to_map, from_filter, to_filter}
use Rattle.trace_semantics.proofs.KnownOrderLemmas.{both_timed}
use Rattle.std.proofs.lemmas.List.{map-append}
use Rattle.std.proofs.lemmas.List.Elements.{filter-append}
use Rattle.restriction.specs.Left.{is_left, new_name, left_process, restricted}
use Rattle.restriction.specs.Restriction.{ArePairsLeft, KeepsSpans}
use Rattle.restriction.proofs.LeftLemmas.{IsOld, one_old, old_known, known_old, has_old, old_left, higher}
use Rattle.restriction.proofs.SpanLemmas.{ended_left}
use Rattle.restriction.proofs.StandLemmas.{stands_in, out_of_filter, into_filter, out_of_map, into_map}

-- a place in the restriction is a place in the list
pub record Placed (stays : OpName → Option Op) (names before : List OpName) (x : OpName) : Type 0 where
  pub front : List OpName
  pub name : OpName
  pub back : List OpName
  pub parts : names ≡ front ++ name ∷ back
  pub left : is_left stays name ≡ true
  pub renamed : new_name stays name ≡ x
  pub before_is : restricted stays front ≡ before

placed_at : (stays : OpName → Option Op) (n : OpName) (names before : List OpName) (x : OpName) (after : List OpName) (b : Bool) → is_left stays n ≡ b → ((front back : List OpName) → restricted stays names ≡ front ++ x ∷ back → Placed stays names front x) →
    map (new_name stays) (cond b (n ∷ filter (is_left stays) names) (filter (is_left stays) names)) ≡ before ++ x ∷ after → Placed stays (n ∷ names) before x
placed_at stays n names [] x after true h more e =
    let same : new_name stays n ≡ x = cc in
    record { front = []; name = n; back = names; parts = refl; left = h; renamed = same; before_is = refl }
placed_at stays n names (y ∷ before) x after true h more e =
    let first : new_name stays n ≡ y = cc in
    let rest : restricted stays names ≡ before ++ x ∷ after = cc in
    let at = more before after rest in
    record {
      front = n ∷ at.front;
      name = at.name;
      back = at.back;
      parts = ap (λ l. n ∷ l) at.parts;
      left = at.left;
      renamed = at.renamed;
      before_is = ap (λ b. map (new_name stays) (cond b (n ∷ filter (is_left stays) at.front) (filter (is_left stays) at.front))) h ∙ (λ i. first i ∷ at.before_is i);
    }
placed_at stays n names before x after false h more e =
    let at = more before after e in
    record {
      front = n ∷ at.front;
      name = at.name;
      back = at.back;
      parts = ap (λ l. n ∷ l) at.parts;
      left = at.left;
      renamed = at.renamed;
      before_is = ap (λ b. map (new_name stays) (cond b (n ∷ filter (is_left stays) at.front) (filter (is_left stays) at.front))) h ∙ at.before_is;
    }

pub placed_in : (stays : OpName → Option Op) (names before : List OpName) (x : OpName) (after : List OpName) → restricted stays names ≡ before ++ x ∷ after → Placed stays names before x
placed_in stays [] [] x after e = absurd (cc)
placed_in stays [] (y ∷ before) x after e = absurd (cc)
placed_in stays (n ∷ names) before x after e = placed_at stays n names before x after (is_left stays n) refl (λ front back f. placed_in stays names front x back f) e

-- the restriction of a list that is split at what remains
pub restricted_split : (stays : OpName → Option Op) (front : List OpName) (n : OpName) (back : List OpName) → is_left stays n ≡ true → restricted stays (front ++ n ∷ back) ≡ restricted stays front ++ new_name stays n ∷ restricted stays back
restricted_split stays front n back h =
    ap (map (new_name stays)) (filter-append (is_left stays) front (n ∷ back) ∙ ap (λ b. filter (is_left stays) front ++ cond b (n ∷ filter (is_left stays) back) (filter (is_left stays) back)) h)
    ∙ map-append (new_name stays) (filter (is_left stays) front) (n ∷ filter (is_left stays) back)

-- where each name comes from
pub restricted_from : (stays : OpName → Option Op) (names : List OpName) (x : OpName) → Contains (restricted stays names) x → (n : OpName) × Contains names n × (is_left stays n ≡ true) × (new_name stays n ≡ x)
restricted_from stays names x c =
    let at = from_map (new_name stays) (filter (is_left stays) names) x c in
    let there = from_filter (is_left stays) names at.0 at.1 in
    (at.0, there.0, there.1, at.2)

module _ (t q : TraceValue) (ok : IsTrace t) (stays : OpName → Option Op) (made : q.processes ≡ map (left_process stays) t.processes) (names : List OpName) (given : IsInterleaving t names) where
  each_left : (x : OpName) → IsSome (operation_at q x) → Contains (restricted stays names) x
  each_left x h =
      let old = has_old t q ok stays made x h in
      let known = old_known t ok stays x old.0 old.1 in
      let there = to_filter (is_left stays) names old.0 known.left (given.each old.0 known.known) in
      subst (λ y. Contains (restricted stays names) y) known.renamed (to_map (new_name stays) (filter (is_left stays) names) old.0 there)

  old_of_left : (m : OpName) → Contains (filter (is_left stays) names) m → IsOld t stays (new_name stays m) m
  old_of_left m c = let at = from_filter (is_left stays) names m c in known_old t ok stays m (given.only m at.0) at.1

  only_left : (x : OpName) → Contains (restricted stays names) x → IsSome (operation_at q x)
  only_left x c =
      let at = from_map (new_name stays) (filter (is_left stays) names) x c in
      subst (λ y. IsSome (operation_at q y)) at.2 (old_left t q ok stays made (new_name stays at.0) at.0 (old_of_left at.0 at.1))

  left_once : (x : OpName) → StandsBefore (restricted stays names) x x → ⊥
  left_once x s =
      let at = out_of_map (new_name stays) (filter (is_left stays) names) x x s in
      let both = stands_in (filter (is_left stays) names) at.first at.second at.stand in
      let first = subst (λ y. IsOld t stays y at.first) at.first_is (old_of_left at.first both.0) in
      let second = subst (λ y. IsOld t stays y at.second) at.second_is (old_of_left at.second both.1) in
      let same = one_old t stays x at.second at.first second first in
      given.once at.first (out_of_filter (is_left stays) names at.first at.first (subst (λ y. StandsBefore (filter (is_left stays) names) at.first y) same at.stand))

  left_order : (x y : OpName) → StandsBefore (restricted stays names) x y → x.process ≡ y.process → x.place < y.place
  left_order x y s same =
      let at = out_of_map (new_name stays) (filter (is_left stays) names) x y s in
      let both = stands_in (filter (is_left stays) names) at.first at.second at.stand in
      let process : at.first.process ≡ at.second.process = ap (λ (k : OpName). k.process) at.first_is ∙ same ∙ sym (ap (λ (k : OpName). k.process) at.second_is) in
      let less = given.program_order at.first at.second (out_of_filter (is_left stays) names at.first at.second at.stand) process in
      let above = higher stays at.first at.second process less (from_filter (is_left stays) names at.second both.1).1 in
      let a : (new_name stays at.first).place ≡ x.place = ap (λ (k : OpName). k.place) at.first_is in
      let b : (new_name stays at.second).place ≡ y.place = ap (λ (k : OpName). k.place) at.second_is in
      omega (arith, above, a, b)

  both_stand : (m n x y : OpName) → is_left stays m ≡ true → is_left stays n ≡ true → new_name stays m ≡ x → new_name stays n ≡ y → StandsBefore names m n → StandsBefore (restricted stays names) x y
  both_stand m n x y first second first_is second_is s =
      let left = into_map (new_name stays) (filter (is_left stays) names) m n (into_filter (is_left stays) names m n first second s) in
      subst (λ z. StandsBefore (restricted stays names) z y) first_is (subst (λ z. StandsBefore (restricted stays names) (new_name stays m) z) second_is left)

  known_stands : ArePairsLeft q stays names → KeepsSpans t stays → (x y : OpName) → IsKnownBefore q x y → StandsBefore (restricted stays names) x y
  known_stands pairs spans x y (inl c) = let at = pairs x y c in both_stand at.0 at.1 x y at.2 at.3 at.5 at.6 at.4
  known_stands pairs spans x y (inr h) =
      let both = both_timed q x y h in
      let m = has_old t q ok stays made x both.0 in
      let n = has_old t q ok stays made y both.1 in
      let first = old_known t ok stays x m.0 m.1 in
      let second = old_known t ok stays y n.0 n.1 in
      let same = ended_left t q ok stays made spans m.0 n.0 first.known second.known first.left second.left in
      let ended : ended_before t m.0 n.0 ≡ true = sym same ∙ (λ i. ended_before q (first.renamed i) (second.renamed i)) ∙ h in
      both_stand m.0 n.0 x y first.left second.left first.renamed second.renamed (given.known_order m.0 n.0 (inr ended))

  pub restriction_interleaves : ArePairsLeft q stays names → KeepsSpans t stays → IsInterleaving q (restricted stays names)
  restriction_interleaves pairs spans = record {
    each = each_left;
    only = only_left;
    once = left_once;
    program_order = left_order;
    known_order = known_stands pairs spans;
  }
