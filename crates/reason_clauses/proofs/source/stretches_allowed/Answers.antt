use Rattle.std.proofs.Common.{ℕ, sym, subst}
use Rattle.std.specs.List.{Contains}
use Rattle.order_clauses.specs.Numbered.{named}
use Rattle.order_reasons.specs.Sources.{AllowsWriter}
use Rattle.reason_clauses.specs.Numbered.{at_number}
use Rattle.reason_clauses.proofs.StretchLemmas.{stretches_same}
use Rattle.reason_clauses.proofs.source.stretches_allowed.Goals as goal

pub returns-in-Any-clause-taken : goal.returns-in-Any-clause-taken
returns-in-Any-clause-taken c least k known there allowed = c.stretches_of.ensures.taken least k there

pub returns-in-Initial-clause-most : goal.returns-in-Initial-clause-most
returns-in-Initial-clause-most c n all = c.no_stretches.ensures.most n

pub returns-in-Operation-clause-taken : goal.returns-in-Operation-clause-taken
returns-in-Operation-clause-taken c least k known there allowed =
    c.stretches_named.ensures.taken k known there (subst (λ o. AllowsWriter o (named c.args.trace.now (at_number c.args.run.now.process k))) c.in-Operation.is allowed)

pub returns-in-Any-clause-only : goal.returns-in-Any-clause-only
returns-in-Any-clause-only c =
    stretches_same (Contains c.args.run.now.places) (λ (k : ℕ). Contains c.args.run.now.places k × AllowsWriter c.args.origin.now (named c.args.trace.now (at_number c.args.run.now.process k))) c.args.piece.bound c.args.piece.limit c.stretches_of.result
    (λ k h. (h, subst (λ o. AllowsWriter o (named c.args.trace.now (at_number c.args.run.now.process k))) (sym c.in-Any.is) tt)) (λ k h. h.0) c.stretches_of.ensures.only
