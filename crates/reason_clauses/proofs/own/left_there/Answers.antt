use Rattle.std.proofs.Common.{ap, sym, ◌∙◌}
use Rattle.std.specs.Option.{option_and_then}
use Rattle.restriction.specs.Restriction.{left_by}
use Rattle.reason_clauses.proofs.MakerLemmas.{number_known}
use Rattle.reason_clauses.proofs.own.left_there.Goals as goal

pub returns-in-Some-clause-known : goal.returns-in-Some-clause-known
returns-in-Some-clause-known c some = number_known c.args.trace.now c.args.n c.in-Some.op.now c.in-Some.ensures.there

pub returns-in-Some-clause-same : goal.returns-in-Some-clause-same
returns-in-Some-clause-same c known = ap (option_and_then (left_by c.args.location.now)) c.in-Some.ensures.there.1 ∙ sym c.left_at.ensures
