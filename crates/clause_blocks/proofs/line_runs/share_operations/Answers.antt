use Rattle.std.proofs.Common.{◌<◌, ◌++◌, ◌∷◌, [], ◌∙◌, length, take, inl, inr, ap, arith, append-nil}
use Rattle.std.specs.List.{flat_map}
use Rattle.std.proofs.lemmas.Bool.{cases_order}
use Rattle.std.proofs.lemmas.Grind.{flat_map-append}
use Rattle.std.proofs.lemmas.List.{take_more_set}
use Rattle.clause_blocks.specs.LineRuns.{neighbours_in}
use Rattle.clause_blocks.proofs.InPieces.LineRunLemmas.{runs_joined}
use Rattle.clause_blocks.proofs.line_runs.share_operations.Goals as goal

pub loop-run-preserved : goal.loop-run-preserved
loop-run-preserved c =
    let within : c.loop-run.run-index < length c.loop-run.runs = omega (arith, c.loop-run.auto.runs, c.loop-run-test.true) in
    let run = c.begin.new.self in
    record {
      low = omega (arith, c.loop-run.invariant.low, c.end_of_run-end.ensures.low);
      some = λ left _. elim (cases_order c.loop-run.start c.args.operations) [
        | inl e ↦ omega (arith, left, e, c.end_of_run-end.ensures.low)
        | inr (inl l) ↦ omega (arith, c.loop-run.invariant.low, c.end_of_run-end.ensures.some l)
        | inr (inr l) ↦ omega (arith, left, l, c.end_of_run-end.ensures.low)
      ];
      high = c.end_of_run-end.ensures.high;
      shared = ap (flat_map neighbours_in) (take_more_set c.loop-run.runs c.loop-run.run-index run within)
          ∙ flat_map-append neighbours_in (take c.loop-run.run-index c.loop-run.runs) (run ∷ [])
          ∙ (λ p. c.loop-run.invariant.shared p ++ (append-nil (neighbours_in run) ∙ c.begin.ensures) p)
          ∙ runs_joined c.args.first c.loop-run.start c.end_of_run-end.result c.loop-run.invariant.low c.end_of_run-end.ensures.low;
    }
