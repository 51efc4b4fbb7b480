use Rattle.std.proofs.lemmas.Result.{IfOk-weaker}
use Rattle.trace_semantics.specs.Trace.{TraceValue}
use Rattle.reason_text.specs.MemberPart.{IsKnownPart}
use Rattle.reason_text.proofs.member_part.cut_part.Goals as goal

pub returns-then-is_kind-3-clause-known : goal.returns-then-is_kind-3-clause-known
returns-then-is_kind-3-clause-known c = IfOk-weaker c.cut_end.result (λ cut. (t : TraceValue) → IsKnownPart t cut.0) (λ cut. IsKnownPart c.args.table.now.trace.now cut.0) (λ cut h. h c.args.table.now.trace.now) c.cut_end.ensures.known
