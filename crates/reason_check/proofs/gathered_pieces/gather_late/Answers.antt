use Rattle.std.proofs.Common.{◌≡◌, List, inl, take}
use Rattle.std.proofs.lemmas.Option.{slice_get-get_or}
use Rattle.reason_clauses.specs.declared.cause.ReasonCause.TheVariants.{SecondPiece}
use Rattle.reason_clauses.proofs.RefusedLemmas.{refusal_on}
use Rattle.reason_text.specs.declared.source_piece.SourcePiece.{SourcePiece}
use Rattle.reason_check.specs.Gathered.{AreGathered, HasOfKind, IsLateRefused}
use Rattle.reason_check.proofs.gathered_pieces.gather_late.Goals as goal

pub returns-in_err-take_first-clause-refused : goal.returns-in_err-take_first-clause-refused
returns-in_err-take_first-clause-refused c =
    let listed = c.args.listed.now in
    refusal_on (λ cause. (front : List SourcePiece) → AreGathered front c.loop-piece.pieces → HasOfKind front _ × (cause ≡ SecondPiece)) (IsLateRefused listed) c.from_residual.result c.in_err-take_first.field-0.0 c.from_residual.ensures.1
    (λ cause h. (let found = h (take c.loop-piece.piece-index listed) c.loop-piece.invariant in inl ((c.loop-piece.piece-index, _, slice_get-get_or listed c.loop-piece.piece-index _ c.loop-piece-test.true, found.0), found.1)))
    c.in_err-take_first.ensures.refused
