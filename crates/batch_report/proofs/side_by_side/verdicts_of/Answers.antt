use Rattle.std.proofs.Common.{subst}
use Rattle.parallel_map.proofs.CallerLemmas.{all_are}
use Rattle.batch_report.specs.Blocks.{IsOnPlaced}
use Rattle.batch_report.proofs.side_by_side.verdicts_of.Goals as goal

pub returns : goal.returns
returns g c =
    all_are c.args.pieces.now c.map_by_workers.result _ IsOnPlaced c.map_by_workers.ensures
    (λ piece verdict so. subst (λ p. IsOnPlaced p verdict) so.shows so.says.met)
