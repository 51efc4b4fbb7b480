use Rattle.std.proofs.Common.{◌≡◌, List, Bool, length, map, ap, sym, ◌∙◌, subst}
use Rattle.std.specs.Prelude.{Option}
use Rattle.std.proofs.lemmas.List.{length-map}
use Rattle.trace_semantics.specs.declared.operation.Op.{Op}
use Rattle.trace_semantics.specs.declared.operation.OpName.{OpName}
use Rattle.trace_semantics.specs.Trace.{TraceValue, IsTrace}
use Rattle.trace_part.specs.Selections.{ordered_in, chosen_in, stays_in}
use Rattle.part_law.specs.Part.{stays, part}
use Rattle.trace_part.specs.Rows.{LeftValue, Leaves, left_value}
use Rattle.part_law.proofs.PartLemmas.{part_alike}
use Rattle.part_law.proofs.TraceLemmas.{part_is_trace}
use Rattle.trace_semantics.specs.declared.trace.Process.{Process}
use Rattle.restriction.specs.Left.{names_of}
use Rattle.trace_part.proofs.PairRowLemmas.{map_twice}
use Rattle.trace_part.proofs.part.selected_part.Goals as goal

pub pairs_left-requires : goal.pairs_left-requires
pairs_left-requires c =
    let t : TraceValue = c.args.selection.now.trace.now in
    let ordered : OpName → OpName → Bool = ordered_in c.args.selection.now in
    let left : OpName → Option Op = stays t ordered (chosen_in c.args.selection.now) in
    let given : Leaves t left c.in_ok-left.left.items = record { values = c.in_ok-left.ensures; known = (part_alike t ordered (chosen_in c.args.selection.now)).known } in
    record {
      long = ap length c.as_slice-2.ensures.value ∙ ap length c.in_ok-left.ensures ∙ length-map t.processes (λ (p : Process). left_value left (names_of p));
      forward = c.requires.selection.closed;
      left = (left, subst (λ (l : List LeftValue). Leaves t left l) (sym c.as_slice-2.ensures.value) given);
    }

pub new-trace-requires : goal.new-trace-requires
new-trace-requires c =
    let t : TraceValue = c.args.selection.now.trace.now in
    let ordered : OpName → OpName → Bool = ordered_in c.args.selection.now in
    let left : OpName → Option Op = stays t ordered (chosen_in c.args.selection.now) in
    let given : Leaves t left c.in_ok-left.left.items = record { values = c.in_ok-left.ensures; known = (part_alike t ordered (chosen_in c.args.selection.now)).known } in
    let first = c.in_ok-processes.ensures left (subst (λ (l : List LeftValue). Leaves t left l) (sym c.as_slice.ensures.value) given) in
    let second = c.in_ok-before.ensures left (subst (λ (l : List LeftValue). Leaves t left l) (sym c.as_slice-2.ensures.value) given) in
    let same : part t ordered (chosen_in c.args.selection.now) ≡ record { processes = c.in_ok-processes.processes.items; initial = c.in_ok-initial.initial.items; final_values = c.in_ok-finals.finals.items; before = c.in_ok-before.before.items } =
    λ i. record { processes = sym first i; initial = sym c.in_ok-initial.ensures i; final_values = sym c.in_ok-finals.ensures i; before = sym second i } in
    subst IsTrace same (part_is_trace t c.recall_invariant.ensures ordered (chosen_in c.args.selection.now))

pub returns-clause-places : goal.returns-clause-places
returns-clause-places c =
    ap (map (λ (left : LeftValue). left.places)) c.in_ok-left.ensures
    ∙ map_twice (λ (left : LeftValue). left.places) (λ (p : Process). left_value (stays_in c.args.selection.now) (names_of p)) c.args.selection.now.trace.now.processes
