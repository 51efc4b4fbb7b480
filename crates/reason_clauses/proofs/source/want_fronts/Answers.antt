use Rattle.std.proofs.Common.{subst, take_all}
use Rattle.std.specs.List.{All}
use Rattle.reason_clauses.specs.declared.pieces.ProcessPieces.{ProcessPieces}
use Rattle.reason_clauses.specs.Numbered.{IsGivenFront}
use Rattle.reason_clauses.proofs.SourceLemmas.{all_more}
use Rattle.reason_clauses.proofs.source.want_fronts.Goals as goal

pub loop-piece-preserved : goal.loop-piece-preserved
loop-piece-preserved c known =
    all_more (λ (p : ProcessPieces). IsGivenFront c.args.trace.now c.args.location.now c.args.value c.args.reader p.witness) c.args.pieces.now c.loop-piece.piece-index _ c.loop-piece-test.true (c.loop-piece.invariant known) (c.in_ok-want_front.ensures.given known)

pub returns-clause-given : goal.returns-clause-given
returns-clause-given c known =
    subst (λ l. All (λ (p : ProcessPieces). IsGivenFront c.args.trace.now c.args.location.now c.args.value c.args.reader p.witness) l) (take_all c.loop-piece.piece-index c.args.pieces.now c.loop-piece-test.false) (c.loop-piece.invariant known)
