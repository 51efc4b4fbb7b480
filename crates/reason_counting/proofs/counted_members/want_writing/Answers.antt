use Rattle.std.proofs.Common.{ap}
use Rattle.std.specs.Prelude.{is_some}
use Rattle.reason_counting.proofs.MemberLemmas.{update_known}
use Rattle.reason_counting.proofs.counted_members.want_writing.Goals as goal

pub returns-clause-writes : goal.returns-clause-writes
returns-clause-writes c = update_known c.args.trace.now c.args.n c.in_ok-op.op.now c.as_bytes-location.result.now c.left_at.result c.in_ok-op.ensures.there c.left_at.ensures (ap is_some c.in-Some.is)
