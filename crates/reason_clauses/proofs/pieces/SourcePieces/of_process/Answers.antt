use Rattle.std.proofs.Common.{List, sym, ◌∙◌, subst, inl}
use Rattle.std.specs.List.{Contains}
use Rattle.reason_clauses.specs.declared.pieces.ProcessPieces.{ProcessPieces}
use Rattle.reason_clauses.proofs.PieceLemmas.{find_listed}
use Rattle.reason_clauses.proofs.pieces.SourcePieces.of_process.Goals as goal

pub returns-in-Some-clause-listed : goal.returns-in-Some-clause-listed
returns-in-Some-clause-listed c =
    inl (subst (λ (l : List ProcessPieces). Contains l c.in-Some.piece) c.as_slice.ensures.value (find_listed c.as_slice.result.now c.args.process c.in-Some.piece (sym c.in-Some.is ∙ c.find_process.ensures)))
