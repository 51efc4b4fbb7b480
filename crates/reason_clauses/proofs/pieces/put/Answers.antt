use Rattle.std.proofs.Common.{◌≡◌, ◌≤◌, ◌<◌, ◌∙◌, length, get_or, ap, sym, subst, rules}
use Rattle.std.proofs.lemmas.List.{get_or_default}
use Rattle.reason_clauses.specs.PieceOf.{AreBefore, AreNotBefore, AreSorted, nothing_of}
use Rattle.reason_clauses.specs.TakenPieces.{HasPiece}
use Rattle.reason_clauses.specs.declared.pieces.ProcessPieces.{ProcessPieces}
use Rattle.reason_clauses.proofs.PutLemmas.{put_between, put_over, sorted_between}
use Rattle.reason_clauses.proofs.pieces.put.Goals as goal

pub returns-then-index-piece-clause-has : goal.returns-then-index-piece-clause-has
returns-then-index-piece-clause-has c =
    let pieces = c.args.pieces.now.items in
    let place = c.count_before-place.result in
    let low : place < length pieces = search rules in
    put_over pieces place c.args.piece c.index_mut.result.now low (sym c.index_mut.ensures.value) (ap (λ (p : ProcessPieces). p.process) (c.index_mut.ensures.value ∙ get_or_default pieces place c.index_mut.result.now c.index.result.now low ∙ sym c.index.ensures) ∙ c.if-index-piece.true)
    (subst (λ l. AreBefore l c.count_before-place.result c.args.piece.process) c.as_slice.ensures.value c.count_before-place.ensures.before)

pub returns-in_ok-insert-clause-sorted : goal.returns-in_ok-insert-clause-sorted
returns-in_ok-insert-clause-sorted c = subst AreSorted (sym c.in_ok-insert.ensures.items) (sorted_between c.args.pieces.now.items c.count_before-place.result c.args.piece (subst (λ l. c.count_before-place.result ≤ length l) c.as_slice.ensures.value c.count_before-place.ensures.within) c.requires
    (subst (λ l. AreBefore l c.count_before-place.result c.args.piece.process) c.as_slice.ensures.value c.count_before-place.ensures.before)
    (subst (λ l. AreNotBefore l c.count_before-place.result c.args.piece.process) c.as_slice.ensures.value c.count_before-place.ensures.others))

pub returns-in_ok-insert-clause-has : goal.returns-in_ok-insert-clause-has
returns-in_ok-insert-clause-has c = subst (λ l. HasPiece c.args.pieces.now.items l c.args.piece) (sym c.in_ok-insert.ensures.items) (put_between c.args.pieces.now.items c.count_before-place.result c.args.piece (subst (λ l. c.count_before-place.result ≤ length l) c.as_slice.ensures.value c.count_before-place.ensures.within)
    (subst (λ l. AreBefore l c.count_before-place.result c.args.piece.process) c.as_slice.ensures.value c.count_before-place.ensures.before))
