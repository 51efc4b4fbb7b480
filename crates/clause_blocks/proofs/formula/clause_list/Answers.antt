use Rattle.std.proofs.Common.{rules, ◌≡◌, ◌++◌, ◌∙◌, ℤ, List, [], ap, length}
use Rattle.std.specs.List.{flat_map, range_with_len}
use Rattle.trace_semantics.specs.Trace.{operation_count}
use Rattle.clause_blocks.specs.Clauses.{pieces}
use Rattle.clause_blocks.specs.Pieces.{clauses_in}
use Rattle.clause_blocks.proofs.ClauseList.ListLemmas.{piece_at, all_pieces}
use Rattle.clause_blocks.proofs.InPieces.StepLemmas.{flat_more}
use Rattle.clause_blocks.proofs.formula.clause_list.Goals as goal

pub loop-k-preserved : goal.loop-k-preserved
loop-k-preserved g c =
    let t = c.args.clauses.now in
    let same : clauses_in (operation_count c.layout.result.now) c.piece.result ≡ piece_at t c.loop-k.k = ap (λ u. clauses_in (operation_count u) c.piece.result) c.layout.ensures ∙ c.piece.ensures in
    let more : c.push_piece.new.clauses.items ≡ c.loop-k.made.items ++ piece_at t c.loop-k.k = ◌∙◌ {A = List (List ℤ)} c.in_ok-push_piece.ensures (ap (λ l. c.loop-k.made.items ++ l) same) in
    more ∙ ap (λ l. l ++ piece_at t c.loop-k.k) c.loop-k.invariant ∙ flat_more (piece_at t) [] c.loop-k.k

pub returns : goal.returns
returns g c =
    let t = c.args.clauses.now in
    let end : c.loop-k.k ≡ length (pieces t) = search rules in
    c.loop-k.invariant ∙ ap (λ k. flat_map (piece_at t) (range_with_len 0 k)) end ∙ all_pieces t
