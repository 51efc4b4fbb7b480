use Rattle.std.proofs.Common.{◌≡◌, ◌≤◌, ◌+◌, ◌++◌, ◌∷◌, [], arith, ap, sym, ◌∙◌}
use Rattle.trace_semantics.specs.Trace.{operation_count}
use Rattle.var_layout.specs.ChoiceVariables.{first_choice}
use Rattle.var_layout.specs.Tables.{op_table}
use Rattle.var_layout.proofs.BoundLemmas.{few_first, few_in_table, next_is}
use Rattle.var_layout.proofs.ListLemmas.{mapped_more}
use Rattle.var_layout.proofs.choice_variables.op_tables.Goals as goal

pub op_variable_count-next-requires : goal.op_variable_count-next-requires
op_variable_count-next-requires c = few_in_table c.args.trace.now c.loop-i.i c.in_ok-table.table c.in_ok-table.ensures c.requires.few

pub overflow_add-next-in-loop-i : goal.overflow_add-next-in-loop-i
overflow_add-next-in-loop-i c =
    let t = c.args.trace.now in
    let next : c.loop-i.next + c.op_variable_count-next.result ≡ first_choice t (c.loop-i.i + 1) = next_is t c.loop-i.i c.loop-i.next c.op_variable_count-next.result c.in_ok-table.table c.loop-i.invariant.next c.in_ok-table.ensures c.op_variable_count-next.ensures in
    let within : c.loop-i.i + 1 ≤ operation_count t = omega (arith, c.loop-i-test.true, c.count-count.ensures, ap operation_count c.requires.same) in
    omega (arith, next, few_first t (c.loop-i.i + 1) c.requires.few within)

pub loop-i-preserved : goal.loop-i-preserved
loop-i-preserved c =
    let t = c.args.trace.now in
    record {
      tables = c.in_ok-push.ensures.items ∙ (λ k. c.loop-i.invariant.tables k ++ c.in_ok-table.ensures k ∷ []) ∙ sym (mapped_more (op_table t) c.loop-i.i);
      next = next_is t c.loop-i.i c.loop-i.next c.op_variable_count-next.result c.in_ok-table.table c.loop-i.invariant.next c.in_ok-table.ensures c.op_variable_count-next.ensures;
    }
