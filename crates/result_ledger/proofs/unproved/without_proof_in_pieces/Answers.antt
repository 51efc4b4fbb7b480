use Rattle.std.proofs.Common.{◌≡◌, length, sym, ◌∙◌, ap, subst, arith}
use Rattle.std.specs.Int.{div_ceil}
use Rattle.std.specs.Prelude.{IfOk}
use Rattle.result_ledger.specs.Pieces.{AreWithoutBetween, piece_start}
use Rattle.result_ledger.specs.Verdict.{HasProofAt}
use Rattle.result_ledger.proofs.PieceLemmas.{all_pieces}
use Rattle.result_ledger.proofs.unproved.without_proof_in_pieces.Goals as goal

pub returns : goal.returns
returns g c =
    let count = length c.args.slots.now in
    let pieces = c.in_ok-pieces.pieces in
    let Has = HasProofAt (g.L.ClauseList.formula c.args.formula.now).clauses c.args.slots.now in
    let number : length pieces.items ≡ c.args.workers = sym pieces.ok.0 ∙ c.in_ok-pieces.ensures.len in
    let end =
    ap (λ size. piece_start size count (length pieces.items)) c.div_ceil-size.ensures
    ∙ ap (piece_start (div_ceil count c.args.workers) count) number
    ∙ all_pieces count c.args.workers (omega (arith, c.requires.workers.0)) in
    subst (λ n. IfOk c.joined.result (λ leaves. AreWithoutBetween Has 0 n leaves.items)) end c.joined.ensures
