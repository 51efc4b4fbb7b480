use Rattle.std.proofs.Common.{get_or, sym}
use Rattle.std.proofs.lemmas.List.{get_or_default}
use Rattle.reason_clauses.specs.PieceOf.{nothing_of}
use Rattle.reason_clauses.specs.declared.pieces.ProcessPieces.{ProcessPieces}
use Rattle.reason_clauses.proofs.PieceLemmas.{find_some, find_none, all_before, none_of}
use Rattle.reason_clauses.proofs.pieces.find_process.Goals as goal

pub returns-then-place-pieces : goal.returns-then-place-pieces
returns-then-place-pieces c = sym (find_none c.args.pieces.now c.args.process (all_before c.args.pieces.now c.count_before-place.result c.args.process c.count_before-place.ensures.before c.if-place-pieces.true))

pub returns-then-piece-process : goal.returns-then-piece-process
returns-then-piece-process c =
    let place = c.count_before-place.result in
    let p : ProcessPieces = get_or c.args.pieces.now place (nothing_of 0) in
    sym (find_none c.args.pieces.now c.args.process (none_of c.args.pieces.now place c.args.process p c.requires c.count_before-place.ensures.before c.count_before-place.ensures.others c.if-place-pieces.false (get_or_default c.args.pieces.now place p (nothing_of 0) c.if-place-pieces.false) c.if-piece-process.true))

pub returns : goal.returns
returns c =
    let place = c.count_before-place.result in
    let p : ProcessPieces = get_or c.args.pieces.now place (nothing_of 0) in
    sym (find_some c.args.pieces.now place c.args.process p c.count_before-place.ensures.before c.if-place-pieces.false (get_or_default c.args.pieces.now place p (nothing_of 0) c.if-place-pieces.false) c.if-piece-process.false)
