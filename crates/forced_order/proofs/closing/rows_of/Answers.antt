use Rattle.std.proofs.Common.{◌≡◌, ℕ, List, ◌+◌, length, map, ap, sym, ◌∙◌, subst, arith}
use Rattle.std.specs.Prelude.{Some}
use Rattle.std.specs.List.{slice_get}
use Rattle.std.specs.Option.{option_map}
use Rattle.std.proofs.lemmas.Option.{slice_get-map}
use Rattle.trace_semantics.specs.declared.trace.Process.{Process}
use Rattle.forced_order.specs.Times.{AreEnds}
use Rattle.forced_order.proofs.closing.rows_of.Goals as goal

pub close-requires-clause-ends : goal.close-requires-clause-ends
close-requires-clause-ends c = subst (λ (ends : List (List ℕ)). AreEnds c.args.trace.now.processes ends) (sym c.as_slice-ends.ensures.value) c.in_ok-least.ensures

pub close-requires-clause-rows : goal.close-requires-clause-rows
close-requires-clause-rows c = λ j k p at most.
    (let counts : c.as_slice-2.result.now ≡ map (λ (q : Process). length q.operations + 1) c.args.trace.now.processes = c.as_slice-2.ensures.value ∙ c.in_ok-counts.ensures in
    let counted : slice_get c.as_slice-2.result.now j ≡ Some (length p.operations + 1) =
    ap (λ (l : List ℕ). slice_get l j) counts ∙ slice_get-map (λ (q : Process). length q.operations + 1) c.args.trace.now.processes j ∙ ap (option_map (λ (q : Process). length q.operations + 1)) at in
    c.in_ok-rows.ensures.rows j k (length p.operations + 1) counted (omega (arith, most)))
