use Rattle.std.proofs.Common.{◌≡◌, Bool, map, ap, ◌∙◌}
use Rattle.trace_semantics.specs.declared.operation.OpName.{OpName}
use Rattle.trace_semantics.specs.Judgement.{has_come}
use Rattle.trace_semantics.specs.Trace.{TraceValue}
use Rattle.forced_order.specs.Rows.{ordered_by}
use Rattle.forced_order.proofs.ForcedLemmas.{forced_forward}
use Rattle.part_law.specs.Part.{stays, part}
use Rattle.trace_semantics.specs.OpSet.{has}
use Rattle.trace_part.specs.TraceParts.{left_places}
use Rattle.trace_part.proofs.ForwardLemmas.{forward_among}
use Rattle.trace_part.proofs.part.part_of.Goals as goal

pub selected_part-requires : goal.selected_part-requires
selected_part-requires c = record {
  selection = record {
    table = c.in_ok-writers.ensures;
    closed = forced_forward c.args.trace.now (ordered_by c.args.trace.now c.in_ok-order.order) c.in_ok-order.ensures;
    forward = λ location. forward_among c.args.trace.now c.recall_invariant.ensures c.in_ok-order.order (forced_forward c.args.trace.now (ordered_by c.args.trace.now c.in_ok-order.order) c.in_ok-order.ensures) (has c.in_ok-set.set) location;
  };
}

pub returns-clause-part : goal.returns-clause-part
returns-clause-part c =
    let t : TraceValue = c.args.trace.now in
    let ordered : OpName → OpName → Bool = ordered_by t c.in_ok-order.order in
    let same : has c.in_ok-set.set ≡ has_come c.args.names.now = λ i n. c.in_ok-set.ensures.chosen n i in
    record {
      choice = c.in_ok-set.ensures.choice;
      ordered = ordered_by c.args.trace.now c.in_ok-order.order;
      forced = c.in_ok-order.ensures;
      trace_is = c.in_ok-selected_part.ensures.trace ∙ ap (part t ordered) same;
      places_are = c.in_ok-selected_part.ensures.places ∙ ap (λ (chosen : OpName → Bool). map (left_places (stays t ordered chosen)) t.processes) same;
    }
