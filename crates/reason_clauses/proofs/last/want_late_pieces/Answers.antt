use Rattle.std.proofs.Common.{subst}
use Rattle.std.specs.Prelude.{IfSome}
use Rattle.std.specs.List.{All}
use Rattle.reason_clauses.specs.declared.pieces.ProcessPieces.{ProcessPieces}
use Rattle.reason_clauses.specs.LastBarred.{IsGivenLate}
use Rattle.reason_clauses.proofs.last.want_late_pieces.Goals as goal

pub returns-clause-given : goal.returns-clause-given
returns-clause-given c is =
    let t = c.args.trace.now in
    let location = c.args.location.now in
    record {
      processes = subst (λ l. All (λ (p : ProcessPieces). IfSome p.witness (IsGivenLate t location)) l) c.processes.ensures (c.in_ok-want_late_fronts.ensures.given is);
      main = subst (λ w. IfSome w (IsGivenLate t location)) c.main_witness.ensures (c.in_ok-want_late_front.ensures.given is);
    }
