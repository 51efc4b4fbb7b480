-- Pieces of a derivation that were checked apart.
use Rattle.std.specs.Prelude.{ℤ, List, MatchBool}
use Rattle.lrat_check.specs.Pieces.{IsAcceptedFrom}
use Rattle.lrat_check.specs.declared.derivation.Step.{Step}
use Rattle.result_ledger.specs.declared.derivation_pieces.PassedPiece.{PassedPiece}

-- a piece that ends the derivation is accepted with all behind it, and another is if what is behind it is
abbrev pub IsPassed : List (List ℤ) → List ℤ → List Step → PassedPiece → Type 0
IsPassed clauses cube steps piece =
    MatchBool piece.ended (IsAcceptedFrom clauses cube steps piece.from) (IsAcceptedFrom clauses cube steps piece.until → IsAcceptedFrom clauses cube steps piece.from)
