use Rattle.std.proofs.Common.{subst, take_all}
use Rattle.std.specs.Prelude.{IfSome}
use Rattle.std.specs.List.{All}
use Rattle.reason_clauses.specs.declared.pieces.ProcessPieces.{ProcessPieces}
use Rattle.reason_clauses.specs.LastBarred.{IsGivenLate}
use Rattle.reason_clauses.proofs.SourceLemmas.{all_more}
use Rattle.reason_clauses.proofs.last.want_late_fronts.Goals as goal

pub loop-piece-preserved : goal.loop-piece-preserved
loop-piece-preserved c is =
    all_more (λ (p : ProcessPieces). IfSome p.witness (IsGivenLate c.args.trace.now c.args.location.now)) c.args.pieces.now c.loop-piece.piece-index _ c.loop-piece-test.true (c.loop-piece.invariant is) (c.in_ok-want_late_front.ensures.given is)

pub returns-clause-given : goal.returns-clause-given
returns-clause-given c is =
    subst (λ l. All (λ (p : ProcessPieces). IfSome p.witness (IsGivenLate c.args.trace.now c.args.location.now)) l) (take_all c.loop-piece.piece-index c.args.pieces.now c.loop-piece-test.false) (c.loop-piece.invariant is)
