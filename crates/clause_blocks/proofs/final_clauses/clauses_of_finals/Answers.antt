use Rattle.std.proofs.Common.{◌≡◌, ap, ◌∙◌, ◌++◌, [], length, arith}
use Rattle.std.specs.List.{flat_map, range_with_len}
use Rattle.clause_blocks.specs.FinalClauses.{clauses_at}
use Rattle.clause_blocks.proofs.ClauseList.FinalLemmas.{all_finals}
use Rattle.clause_blocks.proofs.InPieces.StepLemmas.{flat_more}
use Rattle.clause_blocks.proofs.final_clauses.clauses_of_finals.Goals as goal

pub loop-k-preserved : goal.loop-k-preserved
loop-k-preserved c =
    let t = c.args.layout.now in
    c.in_ok-push_clauses_of_final.ensures ∙ ap (λ l. l ++ clauses_at t c.loop-k.k) c.loop-k.invariant
    ∙ flat_more (clauses_at t) [] c.loop-k.k

pub returns : goal.returns
returns c =
    let t = c.args.layout.now in
    let end : c.loop-k.k ≡ length t.final_values = omega arith in
    c.loop-k.invariant ∙ ap (λ n. flat_map (clauses_at t) (range_with_len 0 n)) end ∙ all_finals t
