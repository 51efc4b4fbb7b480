use Rattle.std.proofs.Common.{ℕ, length, not, eqb, ap, arith}
use Rattle.text_lines.proofs.ListLemmas.{few_pass}
use Rattle.var_layout.proofs.BoundLemmas.{few_others}
use Rattle.clause_meaning.proofs.run_length.length_of.Goals as goal

pub overflow_add-result : goal.overflow_add-result
overflow_add-result c =
    let t = c.args.layout.now in
    let ws = c.other_writers-in-FromWriter.result.now in
    let few = few_pass (λ (x : ℕ). not (eqb x c.in-FromWriter.source)) ws in
    let all = few_others t c.in-FromWriter.reader in
    omega (arith, c.count_others.ensures, few, ap length c.other_writers-in-FromWriter.ensures, all, c.recall_limits.ensures.few)
