use Rattle.std.proofs.Common.{arith, sym, ◌∙◌}
use Rattle.trace_semantics.specs.Trace.{operation_count}
use Rattle.var_layout.specs.Numbers.{in_one_process}
use Rattle.var_layout.proofs.ListLemmas.{first_number}
use Rattle.var_layout.proofs.choice_variables.leader_of.Goals as goal

pub returns-then-in_one_process : goal.returns-then-in_one_process
returns-then-in_one_process c =
    let t = c.args.numbering.now in
    first_number (λ k. in_one_process t k c.args.i) (operation_count t) c.loop-k.k (omega (arith, c.count-count.ensures)) c.loop-k.invariant (λ l. sym c.in_one_process.ensures ∙ c.if-in_one_process.true)

pub returns : goal.returns
returns c =
    let t = c.args.numbering.now in
    c.count-count.ensures ∙ first_number (λ k. in_one_process t k c.args.i) (operation_count t) (operation_count t) (omega arith)
    (λ j l. c.loop-k.invariant j (omega (arith, c.count-count.ensures))) (λ l. absurd (omega arith))
