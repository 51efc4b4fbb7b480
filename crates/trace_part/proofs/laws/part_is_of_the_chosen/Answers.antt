use Rattle.std.proofs.Common.{◌≡◌, List, true, refl, ap, sym, ◌∙◌}
use Rattle.std.specs.Prelude.{Option, Some, IsSome, is_some, position}
use Rattle.std.specs.List.{filter, slice_get}
use Rattle.std.specs.Option.{option_and_then, option_map}
use Rattle.std.specs.Str.{bytes_eq}
use Rattle.trace_semantics.specs.declared.operation.Op.{Op}
use Rattle.trace_semantics.specs.declared.operation.OpName.{OpName}
use Rattle.trace_semantics.specs.declared.trace.Process.{Process}
use Rattle.trace_semantics.specs.Judgement.{has_come}
use Rattle.trace_semantics.specs.Trace.{TraceValue, IsTrace, at_place, operation_at}
use Rattle.restriction.specs.Left.{is_left, new_name, names_of}
use Rattle.restriction.proofs.LeftLemmas.{has_old, old_known, place_map}
use Rattle.restriction.proofs.CountLemmas.{found_by_place}
use Rattle.part_law.specs.Part.{stays, part}
use Rattle.part_law.proofs.PartLemmas.{comes}
use Rattle.trace_part.specs.TraceParts.{PartValue, IsPart, left_places, places_of, whole_name}
use Rattle.trace_part.proofs.laws.part_is_of_the_chosen.Goals as goal

-- What a part says of the whole.

record IsOf (t : TraceValue) (names : List OpName) (p : PartValue) (left : OpName → Option Op) (x n : OpName) : Type 0 where
  called : whole_name t p x ≡ Some n
  chosen : has_come names n ≡ true
  known : IsSome (operation_at t n)
  left_it : is_left left n ≡ true
  renamed : new_name left n ≡ x

part_of_chosen : (t : TraceValue) → IsTrace t → (names : List OpName) (p : PartValue) (given : IsPart t names p) (x : OpName) → IsSome (operation_at p.trace x) → (n : OpName) × IsOf t names p (stays t given.ordered (has_come names)) x n
part_of_chosen t ok names p given x h =
    let left : OpName → Option Op = stays t given.ordered (has_come names) in
    let old = has_old t (part t given.ordered (has_come names)) ok left refl x (ap (λ q. is_some (operation_at q x)) (sym given.trace_is) ∙ h) in
    let n = old.0 in
    let at = old_known t ok left x n old.1 in
    let same : n.process ≡ x.process = ap (λ (k : OpName). k.process) at.renamed in
    let places : places_of t p x.process ≡ Some (left_places left old.1.process) =
    ap (λ all. option_and_then (slice_get all) (position (λ (q : Process). bytes_eq q.name x.process) t.processes)) given.places_are
    ∙ found_by_place (left_places left) (λ (q : Process). bytes_eq q.name x.process) t.processes
    ∙ ap (option_map (left_places left)) old.1.found in
    let placed : option_and_then (λ all. at_place all x.place) (places_of t p x.process) ≡ Some n.place =
    ap (option_and_then (λ all. at_place all x.place)) places
    ∙ place_map (λ (k : OpName). k.place) (filter (is_left left) (names_of old.1.process)) x.place
    ∙ ap (option_map (λ (k : OpName). k.place)) old.1.placed in (
      n,
      record {
        called = ap (option_map (λ k. record { process = x.process; place = k })) placed ∙ ap (λ q. Some (record { process = q; place = n.place })) (sym same);
        chosen = (comes t given.ordered (has_come names) n at.left).chosen_it;
        known = at.known;
        left_it = at.left;
        renamed = at.renamed;
      },
    )

pub returns : goal.returns
returns c t names p x ok given h = let at = part_of_chosen t ok names p given x h in (at.0, at.1.called, at.1.chosen, at.1.known, at.1.left_it, at.1.renamed)
