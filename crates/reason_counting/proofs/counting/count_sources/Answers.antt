use Rattle.std.proofs.Common.{◌≡◌, ℕ, cond, ap, ◌∙◌, arith}
use Rattle.trace_semantics.specs.Judgement.{is_held}
use Rattle.trace_semantics.specs.Trace.{value_of}
use Rattle.reason_counting.proofs.TallyLemmas.{few_operations, few_leaving, operations_in}
use Rattle.reason_counting.proofs.CountLemmas.{sources_counted, at_most_one}
use Rattle.reason_counting.proofs.counting.count_sources.Goals as goal

pub overflow_add-result : goal.overflow_add-result
overflow_add-result c =
    let most = few_operations c.args.trace.now c.recall_invariant.ensures in
    let few = few_leaving c.args.location.now c.args.value (operations_in c.args.trace.now.processes) c.args.tally c.requires in
    let one = at_most_one c.is_held_at.result in
    let is = c.one_if.ensures in
    omega (arith, most, few, one, is)

pub returns : goal.returns
returns c =
    let t = c.args.trace.now in
    let counted = sources_counted t c.recall_invariant.ensures c.args.location.now c.args.value c.args.tally c.requires in
    let one : c.one_if.result ≡ cond {A = ℕ} (is_held (value_of t.initial c.args.location.now) c.args.value) 1 0 = c.one_if.ensures ∙ ap (λ b. cond {A = ℕ} b 1 0) (c.is_held_at.ensures ∙ ap (λ values. is_held (value_of values c.args.location.now) c.args.value) c.initial.ensures) in
    omega (arith, counted, one)
