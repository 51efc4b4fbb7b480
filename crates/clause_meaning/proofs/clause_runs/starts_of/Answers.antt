use Rattle.std.proofs.Common.{rules, ◌≡◌, ◌+◌, ◌∷◌, [], ◌++◌, ◌∙◌, length, map, sym, ap, arith}
use Rattle.std.specs.List.{range_with_len}
use Rattle.std.proofs.lemmas.List.FromFn.{map-range_with_len_more}
use Rattle.clause_meaning.specs.declared.run.ClauseRun.TheVariants.{ProgramOrder}
use Rattle.clause_meaning.specs.Runs.{runs}
use Rattle.clause_meaning.specs.Starts.{start_of}
use Rattle.clause_meaning.proofs.StartLemmas.{few_before, next_by}
use Rattle.clause_meaning.proofs.clause_runs.starts_of.Goals as goal

pub overflow_cast-before : goal.overflow_cast-before
overflow_cast-before c =
    let t = c.args.layout.now in
    let k = c.loop-k.k in
    let next = next_by t c.args.runs.now c.requires k (ProgramOrder 0) c.loop-k-test.true c.length_of.result c.length_of.ensures in
    let most = c.few_clauses.ensures t c.recall_limits.ensures.trace c.recall_limits.ensures.few in
    omega (arith, next, few_before t (k + 1), most)

pub overflow_add-before : goal.overflow_add-before
overflow_add-before c =
    let t = c.args.layout.now in
    let k = c.loop-k.k in
    let next = next_by t c.args.runs.now c.requires k (ProgramOrder 0) c.loop-k-test.true c.length_of.result c.length_of.ensures in
    let most = c.few_clauses.ensures t c.recall_limits.ensures.trace c.recall_limits.ensures.few in
    omega (arith, next, few_before t (k + 1), most, c.loop-k.invariant.so_far)

pub loop-k-preserved : goal.loop-k-preserved
loop-k-preserved c =
    let t = c.args.layout.now in
    let k = c.loop-k.k in
    let next = next_by t c.args.runs.now c.requires k (ProgramOrder 0) c.loop-k-test.true c.length_of.result c.length_of.ensures in
    record {
      made = c.in_ok-push.ensures.items ∙ (λ p. c.loop-k.invariant.made p ++ c.loop-k.invariant.so_far p ∷ []) ∙ sym (map-range_with_len_more (start_of t) 0 k k (omega arith));
      so_far = omega (arith, next, c.loop-k.invariant.so_far);
    }

pub returns : goal.returns
returns c =
    let t = c.args.layout.now in
    let done : c.loop-k.k ≡ length c.args.runs.now = search rules in
    let end : c.loop-k.k ≡ length (runs t) = done ∙ ap length c.requires in
    c.in_ok-push-2.ensures.items ∙ (λ p. c.loop-k.invariant.made p ++ c.loop-k.invariant.so_far p ∷ []) ∙ sym (map-range_with_len_more (start_of t) 0 c.loop-k.k c.loop-k.k (omega arith))
    ∙ ap (λ m. map (start_of t) (range_with_len 0 (m + 1))) end
