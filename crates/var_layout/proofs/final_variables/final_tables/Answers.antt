use Rattle.std.proofs.Common.{◌≡◌, ◌<◌, ◌+◌, ◌++◌, ◌∷◌, [], length, get_or, arith, ap, sym, ◌∙◌}
use Rattle.var_layout.specs.FinalVariables.{first_final}
use Rattle.var_layout.specs.Tables.{final_table}
use Rattle.var_layout.proofs.BoundLemmas.{few_first_final, few_in_final, next_final_is, table_at}
use Rattle.var_layout.proofs.ListLemmas.{mapped_more}
use Rattle.var_layout.proofs.final_variables.final_tables.Goals as goal

pub final_variable_count-next-requires : goal.final_variable_count-next-requires
final_variable_count-next-requires c = few_in_final c.args.trace.now c.loop-k.k c.index-values-k.result c.in_ok-table.table c.in_ok-table.ensures c.requires.few

pub overflow_add-next : goal.overflow_add-next
overflow_add-next c =
    let t = c.args.trace.now in
    let entry = c.index-values-k.result in
    let within : c.loop-k.k < length t.final_values = omega (arith, c.loop-k-test.true, ap length c.final_values-values.ensures) in
    let here : entry ≡ get_or t.final_values c.loop-k.k entry = c.index-values-k.is ∙ ap (λ l. get_or l c.loop-k.k entry) c.final_values-values.ensures in
    let next : c.loop-k.next + c.final_variable_count-next.result ≡ first_final t (c.loop-k.k + 1) = next_final_is t c.loop-k.k c.loop-k.next c.final_variable_count-next.result entry c.in_ok-table.table within here c.loop-k.invariant.next c.in_ok-table.ensures c.final_variable_count-next.ensures in
    omega (arith, next, few_first_final t (c.loop-k.k + 1) c.recall_invariant.ensures c.requires.few)

pub loop-k-preserved : goal.loop-k-preserved
loop-k-preserved c =
    let t = c.args.trace.now in
    let entry = c.index-values-k.result in
    let within : c.loop-k.k < length t.final_values = omega (arith, c.loop-k-test.true, ap length c.final_values-values.ensures) in
    let here : entry ≡ get_or t.final_values c.loop-k.k entry = c.index-values-k.is ∙ ap (λ l. get_or l c.loop-k.k entry) c.final_values-values.ensures in
    let table : c.in_ok-table.table ≡ final_table t c.loop-k.k = c.in_ok-table.ensures ∙ table_at t c.loop-k.k entry within here in
    record {
      tables = c.in_ok-push.ensures.items ∙ (λ i. c.loop-k.invariant.tables i ++ table i ∷ []) ∙ sym (mapped_more (final_table t) c.loop-k.k);
      next = next_final_is t c.loop-k.k c.loop-k.next c.final_variable_count-next.result entry c.in_ok-table.table within here c.loop-k.invariant.next c.in_ok-table.ensures c.final_variable_count-next.ensures;
    }
