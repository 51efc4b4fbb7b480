use Rattle.std.proofs.Common.{◌+◌, ◌∷◌, [], ◌++◌, length, sym, ◌∙◌, ap, subst, append_assoc, arith}
use Rattle.std.specs.Prelude.{IfOk}
use Rattle.std.proofs.lemmas.List.{length-append}
use Rattle.result_ledger.specs.Pieces.{AreWithoutBetween, piece_start}
use Rattle.result_ledger.specs.Verdict.{HasProofAt}
use Rattle.result_ledger.proofs.PieceLemmas.{at_front, one_piece}
use Rattle.result_ledger.proofs.unproved.joined.Goals as goal

pub loop-piece-preserved : goal.loop-piece-preserved
loop-piece-preserved g c =
    let at = c.loop-piece in
    let count = length c.args._slots.now in
    let here = length at.yielded in
    let Has = HasProofAt (g.L.ClauseList.formula c.args._formula.now).clauses c.args._slots.now in
    let is = at.invariant.1 ∙ ap (λ l. at.yielded ++ l) c.in-Some.ensures.steps.0 in
    let place = at_front c.args.pieces.items at.yielded c.in-Some.piece _ is in
    let next : AreWithoutBetween Has (piece_start c.args._size count here) (piece_start c.args._size count (here + 1)) c.in_ok-leaves.leaves.items =
    subst (λ r. IfOk r (λ leaves. AreWithoutBetween Has (piece_start c.args._size count here) (piece_start c.args._size count (here + 1)) leaves.items)) (place.0 ∙ c.in_ok-leaves.was) (c.requires here c.in-Some.piece place.1) in
    let was = at.invariant.2 in
    let gone = c.in-Some.ensures.steps.1 in
    let short = ap length c.in-Some.ensures.steps.0 in (
      one_piece Has c.args._size count here _ at.all.items c.in_ok-leaves.leaves.items _ at.invariant.0 next (length-append at.yielded (c.in-Some.piece ∷ [])) c.in_ok-append.ensures.items,
      is ∙ sym (append_assoc at.yielded (c.in-Some.piece ∷ []) _),
      omega arith,
    )
