use Rattle.std.proofs.Common.{◌≡◌, ℕ, ◌<◌, ◌∙◌, List, length, get_or, sym, ap, subst, arith}
use Rattle.std.specs.Prelude.{IsTrue}
use Rattle.std.specs.List.{flat_map}
use Rattle.dimacs.specs.CnfText.{clause_line}
use Rattle.trace_semantics.specs.Trace.{operation_count}
use Rattle.clause_blocks.specs.declared.line_run.LineRun.{LineRun}
use Rattle.clause_blocks.specs.Blocks.{transitivity_from}
use Rattle.clause_blocks.specs.LineRuns.{lines_in, neighbours_in}
use Rattle.clause_blocks.proofs.InPieces.LineRunLemmas.{each_made, flat_flat}
use Rattle.clause_blocks.proofs.line_runs.make_runs.Goals as goal

pub returns-then-are_whole : goal.returns-then-are_whole
returns-then-are_whole g c =
    let old : List LineRun = c.args.runs.now in
    let new : List LineRun = c.par_for_each_mut.new.s in
    let clauses = transitivity_from (operation_count c.args.layout.now) in
    let asked : LineRun → List ℕ = λ run. flat_map clause_line (flat_map clauses (neighbours_in run)) in
    let same : length new ≡ length old = c.par_for_each_mut.auto.s in
    let each : (i : ℕ) (d : LineRun) → i < length old → lines_in (get_or new i d) ≡ asked (get_or old i d) = λ i d low.
    let at = (c.par_for_each_mut.ensures i d low).1 in
    let whole = c.are_whole.ensures c.if-are_whole.true i d (omega (arith, same, low)) in
    ap lines_in (sym at.left) ∙ at.call (subst (λ run. IsTrue run.is_whole) (sym at.left) whole) ∙ ap asked at.argument_is in
    each_made lines_in asked old new same each
    ∙ sym (flat_flat clause_line (λ run. flat_map clauses (neighbours_in run)) old)
    ∙ ap (flat_map clause_line) (sym (flat_flat clauses neighbours_in old))
