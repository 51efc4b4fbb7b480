use Rattle.reason_clauses.proofs.source.stretches_named.Goals as goal

pub returns-else-place-ne0-clause-most : goal.returns-else-place-ne0-clause-most
returns-else-place-ne0-clause-most c n all = c.no_stretches.ensures.most n
