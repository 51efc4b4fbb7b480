use Rattle.verdict_report.proofs.WrittenTextLemmas.{no_schedule}
use Rattle.verdict_report.proofs.laws.accepted_proof_shows_no_schedule.Goals as goal

pub returns : goal.returns
returns c = no_schedule
