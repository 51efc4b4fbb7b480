use Rattle.text_lines.proofs.BoolLemmas.{hidden_none}
use Rattle.lrat_check.specs.Active.{at_start}
use Rattle.lrat_check.specs.Hidden.{is_hidden}
use Rattle.lrat_check.proofs.active_clauses.ActiveClauses.kept.Goals as goal

pub returns-in-None : goal.returns-in-None
returns-in-None g c =
    let clauses = (g.F.ClauseList.formula c.args.formula.now).clauses in
    hidden_none (is_hidden c.args.self.now.hidden c.args.id) (at_start clauses c.args.self.now.cube.now c.args.id) c.in-None.ensures
