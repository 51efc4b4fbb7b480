use Rattle.std.proofs.Common.{◌≡◌, ◌<◌, ◌-◌, ◌∙◌, [], length, get_or, sym, subst}
use Rattle.trace_semantics.specs.Trace.{operation_count}
use Rattle.clause_blocks.specs.Pieces.{clauses_in}
use Rattle.clause_blocks.proofs.ClauseList.ListLemmas.{piece_at}
use Rattle.clause_blocks.proofs.ClauseList.PartLemmas.{clause_at, place_within}
use Rattle.clause_blocks.proofs.listed_clauses.TraceClausesClauseList.clause.Goals as goal

pub clause_in-requires : goal.clause_in-requires
clause_in-requires c =
    let t = c.args.self.now in
    let k = c.piece_at-k.result in
    let same : clauses_in (operation_count t) c.piece.result ≡ piece_at t k = c.piece.ensures in
    subst (λ l. c.args.place - c.start.result < length l) (sym same)
    (subst (λ m. c.args.place - m < length (piece_at t k)) (sym c.start.ensures) (place_within t k c.args.place c.piece_at-k.ensures.above c.piece_at-k.ensures.below))

pub returns : goal.returns
returns c =
    let t = c.args.self.now in
    let k = c.piece_at-k.result in
    let same : clauses_in (operation_count t) c.piece.result ≡ piece_at t k = c.piece.ensures in
    c.clause_in.ensures ∙ (λ p. get_or (same p) (c.args.place - c.start.ensures p) [])
    ∙ clause_at t k c.args.place c.piece_at-k.ensures.above c.piece_at-k.ensures.below c.piece_at-k.ensures.within
