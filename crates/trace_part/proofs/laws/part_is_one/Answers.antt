use Rattle.std.proofs.Common.{◌≡◌, Bool, map, ap, sym, ◌∙◌}
use Rattle.std.specs.Prelude.{Option}
use Rattle.trace_semantics.specs.declared.operation.Op.{Op}
use Rattle.trace_semantics.specs.declared.operation.OpName.{OpName}
use Rattle.trace_semantics.specs.Judgement.{has_come}
use Rattle.forced_order.specs.Order.{Agree}
use Rattle.forced_order.proofs.ForcedLemmas.{orders_agree}
use Rattle.part_law.specs.Part.{stays, part}
use Rattle.part_law.proofs.AgreedLemmas.{same_part, same_stays}
use Rattle.trace_part.specs.TraceParts.{left_places}
use Rattle.trace_part.proofs.laws.part_is_one.Goals as goal

pub returns : goal.returns
returns c t names others p q ok same given other =
    let chosen : has_come names ≡ has_come others = λ i n. same n i in
    let agree : Agree t given.ordered other.ordered = orders_agree t given.ordered other.ordered given.forced other.forced in
    let traces : p.trace ≡ q.trace = given.trace_is ∙ same_part t ok given.ordered other.ordered agree (has_come names) ∙ ap (part t other.ordered) chosen ∙ sym other.trace_is in
    let places : p.places ≡ q.places = given.places_are
    ∙ ap (λ (left : OpName → Option Op). map (left_places left) t.processes) (same_stays t ok given.ordered other.ordered agree (has_come names))
    ∙ ap (λ (come : OpName → Bool). map (left_places (stays t other.ordered come)) t.processes) chosen
    ∙ sym other.places_are in
    λ i. record { trace = traces i; places = places i }
