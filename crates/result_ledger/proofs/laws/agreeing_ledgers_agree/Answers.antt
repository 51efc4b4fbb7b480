use Rattle.result_ledger.proofs.VerdictLemmas.{verdicts_agree}
use Rattle.result_ledger.proofs.laws.agreeing_ledgers_agree.Goals as goal

pub returns : goal.returns
returns c = verdicts_agree
