use Rattle.std.proofs.Common.{arith}
use Rattle.reason_clauses.proofs.own.later_of.Goals as goal

pub returns-clause-above : goal.returns-clause-above
returns-clause-above c k same there low = c.last_to-later.ensures.above k there low

pub returns-then-later-last-clause-above : goal.returns-then-later-last-clause-above
returns-then-later-last-clause-above c k same there low = let up = c.last_to-later.ensures.above k there low in omega (arith, up)
