use Rattle.std.proofs.Common.{◌≡◌, ◌<◌, ℕ, Bool, true, false, length, List, subst, arith}
use Rattle.std.specs.Prelude.{ℤ, IfSome, MatchBool}
use Rattle.lrat_check.specs.Pieces.{IsAcceptedFrom}
use Rattle.lrat_check.specs.declared.derivation.Step.{Step}
use Rattle.result_ledger.specs.DerivationPieces.{IsPassed}
use Rattle.result_ledger.specs.declared.derivation_pieces.PassedPiece.{PassedPiece}
use Rattle.result_ledger.proofs.derivation_pieces.make_up.Goals as goal

-- a piece that ends the derivation is accepted from its first step on
passed_end : (clauses : List (List ℤ)) (cube : List ℤ) (steps : List Step) (piece : PassedPiece) (place : ℕ) → IsPassed clauses cube steps piece → piece.from ≡ place → piece.ended ≡ true → IsAcceptedFrom clauses cube steps place
passed_end clauses cube steps piece place passed here end =
    let from : IsAcceptedFrom clauses cube steps piece.from =
    subst (λ (b : Bool). MatchBool b (IsAcceptedFrom clauses cube steps piece.from) (IsAcceptedFrom clauses cube steps piece.until → IsAcceptedFrom clauses cube steps piece.from)) end passed in
    subst (λ (n : ℕ). IsAcceptedFrom clauses cube steps n) here from

-- another is if what is behind it is
passed_on : (clauses : List (List ℤ)) (cube : List ℤ) (steps : List Step) (piece : PassedPiece) (place : ℕ) → IsPassed clauses cube steps piece → piece.from ≡ place → piece.ended ≡ false → IsAcceptedFrom clauses cube steps piece.until → IsAcceptedFrom clauses cube steps place
passed_on clauses cube steps piece place passed here end behind =
    let from : IsAcceptedFrom clauses cube steps piece.until → IsAcceptedFrom clauses cube steps piece.from =
    subst (λ (b : Bool). MatchBool b (IsAcceptedFrom clauses cube steps piece.from) (IsAcceptedFrom clauses cube steps piece.until → IsAcceptedFrom clauses cube steps piece.from)) end passed in
    subst (λ (n : ℕ). IsAcceptedFrom clauses cube steps n) here (from behind)

pub returns-then-piece : goal.returns-then-piece
returns-then-piece g c = λ told.
    let clauses = (g.L.ClauseList.formula c.args._formula.now).clauses in
    let cube = c.args._cube.now in
    let steps = c.args._derivation.now in
    let piece = c.in-Some.piece in
    let below : c.loop-number.number < length c.args.pieces.now = omega (arith, c.loop-number-test.true, c.loop-number.auto.number-end) in
    let passed : IsPassed clauses cube steps piece = subst (λ r. IfSome r (λ (p : PassedPiece). IsPassed clauses cube steps p)) c.in-Some.is (c.requires c.loop-number.number _ below) in
    let here : piece.from ≡ c.loop-number.place = omega (arith, c.if-piece-place.false) in
    c.loop-number.invariant (passed_end clauses cube steps piece c.loop-number.place passed here c.if-piece.true)

pub loop-number-preserved : goal.loop-number-preserved
loop-number-preserved g c = λ behind.
    let clauses = (g.L.ClauseList.formula c.args._formula.now).clauses in
    let cube = c.args._cube.now in
    let steps = c.args._derivation.now in
    let piece = c.in-Some.piece in
    let below : c.loop-number.number < length c.args.pieces.now = omega (arith, c.loop-number-test.true, c.loop-number.auto.number-end) in
    let passed : IsPassed clauses cube steps piece = subst (λ r. IfSome r (λ (p : PassedPiece). IsPassed clauses cube steps p)) c.in-Some.is (c.requires c.loop-number.number _ below) in
    let here : piece.from ≡ c.loop-number.place = omega (arith, c.if-piece-place.false) in
    c.loop-number.invariant (passed_on clauses cube steps piece c.loop-number.place passed here c.if-piece.false behind)
