use Rattle.std.proofs.Common.{◌≡◌, ℕ, ◌+◌, length, List, sym, subst, arith}
use Rattle.std.proofs.lemmas.Option.{MatchOption-at_some, MatchOption-at_none}
use Rattle.trace_semantics.specs.declared.operation.OpName.{OpName}
use Rattle.schedule_text.specs.ScheduleLine.{IsNameLine}
use Rattle.schedule_text.proofs.ScheduleLemmas.{IsReadSoFar, turn_skipped, turn_name}
use Rattle.schedule_text.proofs.schedule_reader.read_schedule.Goals as goal

pub loop-line-preserved-in_ok-push : goal.loop-line-preserved-in_ok-push
loop-line-preserved-in_ok-push c =
    let new = MatchOption-at_some _ _ c.in-Some-2.name c.in-Some-2.is c.in_ok-name.ensures in
    let count : c.len.result ≡ length c.loop-line.names.items = omega (arith, c.len.ensures) in
    let read = turn_name c.args.limits _ _ _ _ _ _ _ c.loop-line.invariant c.in-Some.ensures.lines c.in-Some.ensures.shorter
    (subst (λ (k : ℕ). IsNameLine c.args.limits k c.in-Some.line.now c.in-Some-2.name) count new) in
    subst (λ (names : List OpName). IsReadSoFar c.args.limits c.args.text.now (c.loop-line.number + 1) c.in-Some.after.now names) (sym c.in_ok-push.ensures.items) read

pub loop-line-preserved : goal.loop-line-preserved
loop-line-preserved c = turn_skipped c.args.limits _ _ _ _ _ _ c.loop-line.invariant c.in-Some.ensures.lines c.in-Some.ensures.shorter (MatchOption-at_none _ _ c.in_default-2.is c.in_ok-name.ensures)
