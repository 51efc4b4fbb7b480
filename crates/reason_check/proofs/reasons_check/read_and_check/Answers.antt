use Rattle.reason_check.proofs.AcceptedLemmas.{accepted_derived, accepted_empty}
use Rattle.reason_check.proofs.RefusedLemmas.{derivation_refused}
use Rattle.reason_check.proofs.reasons_check.read_and_check.Goals as goal

pub returns-in_ok-check_derivation-in-Some-clause-accepted : goal.returns-in_ok-check_derivation-in-Some-clause-accepted
returns-in_ok-check_derivation-in-Some-clause-accepted c = accepted_derived c.args.trace.now c.args.text.now c.read_clauses.new.list c.count-clauses.result c.count-clauses.ensures c.in-Some.derivation (rw c.in-Some.is at c.in_ok-end.ensures.read) c.in_ok-check_derivation-in-Some.ensures.refutes

pub returns-in-None-clause-accepted : goal.returns-in-None-clause-accepted
returns-in-None-clause-accepted c = accepted_empty c.args.trace.now c.args.text.now c.read_clauses.new.list c.count-clauses.result c.count-clauses.ensures (rw c.in-None.is at c.in_ok-end.ensures.read)

pub returns-in_err-check_derivation-in-Some-clause-refused : goal.returns-in_err-check_derivation-in-Some-clause-refused
returns-in_err-check_derivation-in-Some-clause-refused c =
    derivation_refused c.args.trace.now c.args.text.now c.read_clauses.new.list c.in-Some.derivation (rw c.in-Some.is at c.in_ok-end.ensures.read) c.from_residual-in_err-check_derivation-in-Some.result c.in_err-check_derivation-in-Some.field-0.0
    c.from_residual-in_err-check_derivation-in-Some.ensures.1 c.in_err-check_derivation-in-Some.ensures.refused
