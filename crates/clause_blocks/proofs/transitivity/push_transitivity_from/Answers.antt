use Rattle.std.proofs.Common.{ap, ◌∙◌, ◌++◌, ◌+◌}
use Rattle.std.specs.List.{flat_map}
use Rattle.trace_semantics.specs.Trace.{operation_count}
use Rattle.var_layout.specs.OrderVariables.{numbers_above}
use Rattle.clause_blocks.specs.Blocks.{no_cycle}
use Rattle.clause_blocks.proofs.InPieces.StepLemmas.{flat_upto}
use Rattle.clause_blocks.proofs.transitivity.push_transitivity_from.Goals as goal

pub loop-j-preserved : goal.loop-j-preserved
loop-j-preserved c =
    let n = operation_count c.args.layout.now in
    let of_pair = λ (j : _). flat_map (no_cycle n c.args.i j) (numbers_above n j) in
    c.in_ok-push_of_pair.ensures ∙ ap (λ l. l ++ of_pair c.loop-j.j) c.loop-j.invariant
    ∙ flat_upto of_pair c.args.clauses.now.items (c.args.i + 1) c.loop-j.j c.loop-j.auto.j
