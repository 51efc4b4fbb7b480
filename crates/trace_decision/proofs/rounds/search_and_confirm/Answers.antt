use Rattle.clause_blocks.specs.Clauses.{clauses_of}
use Rattle.trace_decision.proofs.RoundLemmas.{fits}
use Rattle.trace_decision.proofs.rounds.search_and_confirm.Goals as goal

pub enter_all-requires : goal.enter_all-requires
enter_all-requires g c = fits (clauses_of c.args.clauses.now) c.args.ledger.now c.in_ok-results.results.items c.in_ok-results.ensures
