use Rattle.reason_counting.proofs.counted_members.left_of_update.Goals as goal

pub returns-clause-bars : goal.returns-clause-bars
returns-clause-bars c = (c.in_ok-want_writing.ensures.writes.0, λ clause all. (c.in_ok-want_writing.ensures.writes.1, c.in_ok-left.ensures.bars clause all))
