-- An interleaving of the kept trace with the dropped reads put back, and one of the whole trace without them.
use Rattle.std.proofs.Common.{◌≡◌, ◌<◌, List, Bool, true, false, not, ◌&&◌, ◌||◌, refl, ap, sym, ◌∙◌, arith, inl, inr}
use Rattle.std.specs.Prelude.{IsSome}
use Rattle.std.specs.List.{Contains}
use Rattle.std.proofs.lemmas.List.Elements.{All-contains}
use Rattle.std.proofs.lemmas.Bool.{or_left, or_right}
use Rattle.trace_semantics.specs.declared.operation.OpName.{OpName}
use Rattle.trace_semantics.specs.Interleaving.{StandsBefore, IsInterleaving}
use Rattle.trace_semantics.specs.KnownOrder.{span_at, ended_before, IsKnownBefore}
use Rattle.trace_semantics.specs.Operation.{same_op}
use Rattle.trace_semantics.specs.Trace.{TraceValue, IsTrace, operation_at}
use Rattle.trace_semantics.proofs.ElementLemmas.{passes_some, from_map, to_map, from_flat_map, to_flat_map}
use Rattle.trace_semantics.proofs.KnownOrderLemmas.{both_timed}
use Rattle.trace_semantics.proofs.NameLemmas.{name_same}
use Rattle.restriction.specs.Left.{new_name, new_pair, restricted}
use Rattle.restriction.specs.Restriction.{ArePairsLeft}
use Rattle.restriction.proofs.LeftLemmas.{IsOld}
use Rattle.restriction.proofs.RestrictLemmas.{restriction_interleaves}
use Rattle.restriction.proofs.SpanLemmas.{both_there, ended_left}
use Rattle.restriction.proofs.StandLemmas.{stands_in}
use Rattle.reducer.specs.Expansion.{expanded, expansion}
use Rattle.reducer.specs.Reduction.{repeats, previous, is_in_pair, is_an_origin, kept_op, is_kept, kept_trace}
use Rattle.reducer.proofs.DroppedReads.RepeatLemmas.{kept_as_timed}
use Rattle.reducer.proofs.KeptTrace.KeptLemmas.{known_kept, kept_spans, kept_first, first_kept}
use Rattle.reducer.proofs.PartsLemmas.{InParts, Same, Apart, stands_parts, parts_stand}
use Rattle.reducer.proofs.RunLemmas.{expanded_member, expanded_rises, belongs, earlier}

-- the kept ones of these names, by their new names
abbrev pub reduced : TraceValue → List OpName → List OpName
reduced t names = restricted (kept_op t) names

-- what a before pair or an origin names is kept
named_stays : (a b c : Bool) → (b || c) ≡ true → not (a && not (b || c)) ≡ true
named_stays true true c h = refl
named_stays true false true h = refl
named_stays true false false h = absurd (cc)
named_stays false b c h = refl

kept_as_named : (t : TraceValue) (n : OpName) → IsSome (operation_at t n) → (is_in_pair t n || is_an_origin t n) ≡ true → is_kept t n ≡ true
kept_as_named t n known h = known_kept t n known ∙ named_stays (repeats (operation_at t (previous n)) (operation_at t n)) (is_in_pair t n) (is_an_origin t n) h

pub kept_as_origin : (t : TraceValue) (n : OpName) → IsSome (operation_at t n) → is_an_origin t n ≡ true → is_kept t n ≡ true
kept_as_origin t n known h = kept_as_named t n known (or_right (is_in_pair t n) (is_an_origin t n) h)

pub pair_known : (t : TraceValue) → IsTrace t → (pair : OpName × OpName) → Contains t.before pair → IsSome (operation_at t pair.0) × IsSome (operation_at t pair.1)
pair_known t ok pair c = All-contains (λ (p : OpName × OpName). IsSome (operation_at t p.0) × IsSome (operation_at t p.1)) t.before pair ok.known c

pub first_in_pair : (t : TraceValue) → IsTrace t → (m n : OpName) → Contains t.before (m, n) → is_kept t m ≡ true
first_in_pair t ok m n c =
    kept_as_named t m (pair_known t ok (m, n) c).0 (or_left (is_in_pair t m) (is_an_origin t m)
    (passes_some (λ (pair : OpName × OpName). same_op pair.0 m || same_op pair.1 m) t.before (m, n) c (or_left (same_op m m) (same_op n m) (name_same m m refl))))

pub second_in_pair : (t : TraceValue) → IsTrace t → (m n : OpName) → Contains t.before (m, n) → is_kept t n ≡ true
second_in_pair t ok m n c =
    kept_as_named t n (pair_known t ok (m, n) c).1 (or_left (is_in_pair t n) (is_an_origin t n)
    (passes_some (λ (pair : OpName × OpName). same_op pair.0 n || same_op pair.1 n) t.before (m, n) c (or_right (same_op m n) (same_op n n) (name_same n n refl))))

-- with the dropped reads
module _ (t : TraceValue) (ok : IsTrace t) (names : List OpName) (given : IsInterleaving (kept_trace t) names) where
  each_comes : (m : OpName) → IsSome (operation_at t m) → Contains (expansion t names) m
  each_comes m h =
      let at = belongs t ok m h in
      to_flat_map (expanded t) names (new_name (kept_op t) m) m (given.each (new_name (kept_op t) m) (first_kept t ok (new_name (kept_op t) m) at.first at.is_first)) at.listed

  first_in : (x : OpName) → Contains names x → (n : OpName) × IsOld t (kept_op t) x n
  first_in x c = kept_first t ok x (given.only x c)

  only_known : (m : OpName) → Contains (expansion t names) m → IsSome (operation_at t m)
  only_known m c =
      let at = from_flat_map (expanded t) names m c in
      let first = first_in at.0 at.1 in
      (expanded_member t ok at.0 first.0 m first.1 at.2).known

  renamed : (x m : OpName) → Contains names x → Contains (expanded t x) m → new_name (kept_op t) m ≡ x
  renamed x m c d = let first = first_in x c in (expanded_member t ok x first.0 m first.1 d).renamed

  rises_in : (m n : OpName) → m.process ≡ n.process → InParts (expanded t) names m n → m.place < n.place
  rises_in m n same (Same x c s) = let first = first_in x c in expanded_rises t ok x first.0 m n first.1 s
  rises_in m n same (Apart x y s c d) =
      let both = stands_in names x y s in
      let first = renamed x m both.0 c in
      let second = renamed y n both.1 d in
      let process : x.process ≡ y.process = sym (ap (λ (k : OpName). k.process) first) ∙ same ∙ ap (λ (k : OpName). k.process) second in
      let less = given.program_order x y s process in
      let a : (new_name (kept_op t) m).place ≡ x.place = ap (λ (k : OpName). k.place) first in
      let b : (new_name (kept_op t) n).place ≡ y.place = ap (λ (k : OpName). k.place) second in
      earlier t m n same (omega (arith, less, a, b))

  in_order : (m n : OpName) → StandsBefore (expansion t names) m n → m.process ≡ n.process → m.place < n.place
  in_order m n s same = rises_in m n same (stands_parts (expanded t) names m n s)

  once_each : (n : OpName) → StandsBefore (expansion t names) n n → ⊥
  once_each n s = let less = in_order n n s refl in omega (arith, less)

  stand_put_back : (m n : OpName) → IsSome (operation_at t m) × IsSome (operation_at t n) → StandsBefore names (new_name (kept_op t) m) (new_name (kept_op t) n) → StandsBefore (expansion t names) m n
  stand_put_back m n known s = parts_stand (expanded t) names (new_name (kept_op t) m) (new_name (kept_op t) n) m n s (belongs t ok m known.0).listed (belongs t ok n known.1).listed

  pairs_kept : (m n : OpName) → Contains t.before (m, n) → StandsBefore (expansion t names) m n
  pairs_kept m n c =
      let known = pair_known t ok (m, n) c in
      stand_put_back m n known (given.known_order (new_name (kept_op t) m) (new_name (kept_op t) n) (inl (to_map (new_pair (kept_op t)) t.before (m, n) c)))

  times_kept : (m n : OpName) → ended_before t m n ≡ true → StandsBefore (expansion t names) m n
  times_kept m n h =
      let known = both_timed t m n h in
      let spans = both_there (span_at t m) (span_at t n) h in
      let same = ended_left t (kept_trace t) ok (kept_op t) refl (kept_spans t) m n known.0 known.1 (kept_as_timed t m known.0 spans.0) (kept_as_timed t n known.1 spans.1) in
      stand_put_back m n known (given.known_order (new_name (kept_op t) m) (new_name (kept_op t) n) (inr (same ∙ h)))

  order_kept : (m n : OpName) → IsKnownBefore t m n → StandsBefore (expansion t names) m n
  order_kept m n (inl c) = pairs_kept m n c
  order_kept m n (inr h) = times_kept m n h

pub expansion_interleaves : (t : TraceValue) (names : List OpName) → IsTrace t → IsInterleaving (kept_trace t) names → IsInterleaving t (expansion t names)
expansion_interleaves t names ok given = record {
  each = each_comes t ok names given;
  only = only_known t ok names given;
  once = once_each t ok names given;
  program_order = in_order t ok names given;
  known_order = order_kept t ok names given;
}

-- without them
pairs_left : (t : TraceValue) (names : List OpName) → IsTrace t → IsInterleaving t names → ArePairsLeft (kept_trace t) (kept_op t) names
pairs_left t names ok given x y c =
    let at = from_map (new_pair (kept_op t)) t.before (x, y) c in
    let m = at.0.0 in
    let n = at.0.1 in (
      m,
      n,
      first_in_pair t ok m n at.1,
      second_in_pair t ok m n at.1,
      given.known_order m n (inl at.1),
      ap (λ (pair : OpName × OpName). pair.0) at.2,
      ap (λ (pair : OpName × OpName). pair.1) at.2,
    )

pub reduction_interleaves : (t : TraceValue) (names : List OpName) → IsTrace t → IsInterleaving t names → IsInterleaving (kept_trace t) (reduced t names)
reduction_interleaves t names ok given = restriction_interleaves t (kept_trace t) ok (kept_op t) refl names given (pairs_left t names ok given) (kept_spans t)
