use Rattle.piece_details.proofs.ShownLemmas.{shown_by_survey}
use Rattle.piece_details.proofs.deciding.decide_long.Goals as goal

pub returns-in-Ok : goal.returns-in-Ok
returns-in-Ok g c = shown_by_survey c.args.options.now c.args.trace.now c.in-Ok.surveyed c.in-Ok.ensures.decided
