use Rattle.order_clauses.proofs.ReasonLemmas.{reasons_kept}
use Rattle.order_clauses.proofs.reason_list.ReasonList.number.Goals as goal

pub returns-in-Some-clause-hold : goal.returns-in-Some-clause-hold
returns-in-Some-clause-hold c t given = reasons_kept t c.args.self.now.variables c.literal.new.self c.args.self.now.clauses.items c.in_ok-_literal.ensures.extended given

pub returns-in-None-clause-hold : goal.returns-in-None-clause-hold
returns-in-None-clause-hold c t given = reasons_kept t c.args.self.now.variables c.literal.new.self c.args.self.now.clauses.items c.in_ok-_literal.ensures.extended given
