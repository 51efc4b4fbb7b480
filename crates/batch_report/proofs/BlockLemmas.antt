-- How verdicts on blocks of pieces are put together.
use Rattle.std.proofs.Common.{◌≡◌, ℕ, ◌+◌, ◌<◌, ◌≤◌, List, [], ◌∷◌, ◌++◌, length, refl, sym, ap, ◌∙◌, subst, arith, append-nil, append_assoc, get_or, take}
use Rattle.std.specs.List.{AllZip, list_any}
use Rattle.std.specs.Prelude.{Option, Some, None, Bool, true, false, ◌||◌}
use Rattle.std.proofs.lemmas.List.{length-append, length-take-le, take_more}
use Rattle.batch_report.specs.Blocks.{AreCutFrom, AreCutOff, IsOnPlaced}
use Rattle.batch_report.specs.declared.block.PlacedPiece.{PlacedPiece}
use Rattle.batch_report.specs.declared.piece_verdict.PieceVerdict.{PieceVerdict}
use Rattle.batch_report.specs.declared.tally.VerdictTally.{VerdictTally}
use Rattle.batch_report.specs.Findings.{AreFoundOff, AreFoundOn, Finding, findings_of}
use Rattle.batch_report.specs.Outcome.{first_refusal, is_failure, is_no, is_unknown, no_tally, or_refusal, outcome, outcome_of_tally, outcome_by, refusal_in, tally_with, tally_with_all}
use Rattle.batch_report.specs.PieceVerdicts.{IsVerdictOn}
use Rattle.text_lines.specs.Lines.{lines_of}
use Rattle.trace_pieces.specs.Pieces.{IsCut, IsCutOff}
use Rattle.verdict_report.specs.declared.fault.Fault.{Fault}

-- findings of the next pieces
pub found_more : (before : ℕ) (text : List ℕ) (findings : List Finding) (b : ℕ) (r : List ℕ) (more : List Finding) (b_then : ℕ) (r_then : List ℕ) →
    AreFoundOn before text findings b r → AreFoundOn b r more b_then r_then → AreFoundOn before text (findings ++ more) b_then r_then
found_more before text [] b r more b_then r_then h next =
    subst (λ (t : List ℕ). AreFoundOn before t more b_then r_then) (sym h.0) (subst (λ (n : ℕ). AreFoundOn n r more b_then r_then) (sym h.1) next)
found_more before text (f ∷ findings) b r more b_then r_then h next =
    record { after = h.after; cut = h.cut; before_is = h.before_is; is_on = h.is_on; others = found_more (before + length (lines_of f.piece)) h.after findings b r more b_then r_then h.others next }

-- one more piece is cut off
pub cut_more : (before : ℕ) (text : List ℕ) (pieces : List PlacedPiece) (b : ℕ) (r : List ℕ) (piece : PlacedPiece) (after : List ℕ) →
    AreCutFrom before text pieces b r → IsCut r piece.text.now after → piece.before ≡ b → (b_then : ℕ) → b_then ≡ b + length (lines_of piece.text.now) → AreCutFrom before text (pieces ++ piece ∷ []) b_then after
cut_more before text [] b r piece after h cut is b_then b_is =
    record {
      after = after;
      cut = subst (λ (t : List ℕ). IsCut t piece.text.now after) (sym h.0) cut;
      before_is = is ∙ sym h.1;
      others = (refl, ap (λ (n : ℕ). n + length (lines_of piece.text.now)) h.1 ∙ sym b_is);
    }
cut_more before text (first ∷ pieces) b r piece after h cut is b_then b_is =
    record {
      after = h.after;
      cut = h.cut;
      before_is = h.before_is;
      others = cut_more (before + length (lines_of first.text.now)) h.after pieces b r piece after h.others cut is b_then b_is;
    }

-- pieces that are cut off have their verdicts
pub on_cut : (before : ℕ) (text : List ℕ) (pieces : List PlacedPiece) (verdicts : List PieceVerdict) (b : ℕ) (r : List ℕ) → AreCutFrom before text pieces b r → AllZip IsOnPlaced pieces verdicts →
    AreFoundOn before text (findings_of pieces verdicts) b r
on_cut before text [] [] b r h each = h
on_cut before text [] (v ∷ verdicts) b r h each = absurd each
on_cut before text (piece ∷ pieces) [] b r h each = absurd each
on_cut before text (piece ∷ pieces) (v ∷ verdicts) b r h each =
    record {
      after = h.after;
      cut = h.cut;
      before_is = h.before_is;
      is_on = subst (λ (n : ℕ). IsVerdictOn n piece.text.now v) h.before_is each.0;
      others = on_cut (before + length (lines_of piece.text.now)) h.after pieces verdicts b r h.others each.1;
    }

-- whatever follows
pub on_cut_off : (is_last : Bool) (before : ℕ) (text : List ℕ) (pieces : List PlacedPiece) (verdicts : List PieceVerdict) (b : ℕ) (r : List ℕ) → AreCutOff is_last before text pieces b r → AllZip IsOnPlaced pieces verdicts →
    AreFoundOff is_last before text (findings_of pieces verdicts) b r
on_cut_off is_last before text pieces verdicts b r h each = λ more ok. on_cut before (text ++ more) pieces verdicts b (r ++ more) (h more ok) each

-- one more piece is cut off, whatever follows
pub cut_off_more : (is_last : Bool) (before : ℕ) (text : List ℕ) (pieces : List PlacedPiece) (b : ℕ) (r : List ℕ) (piece : PlacedPiece) (after : List ℕ) →
    AreCutOff is_last before text pieces b r → IsCutOff is_last r piece.text.now after → piece.before ≡ b → (b_then : ℕ) → b_then ≡ b + length (lines_of piece.text.now) → AreCutOff is_last before text (pieces ++ piece ∷ []) b_then after
cut_off_more is_last before text pieces b r piece after h cut is b_then b_is = λ more ok. cut_more before (text ++ more) pieces b (r ++ more) piece (after ++ more) (h more ok) (cut more ok) is b_then b_is

-- nothing is cut off yet
pub nothing_cut_off : (is_last : Bool) (before : ℕ) (text : List ℕ) → AreCutOff is_last before text [] before text
nothing_cut_off is_last before text = λ more ok. (refl, refl)

-- as many verdicts as pieces
pub same_count : (pieces : List PlacedPiece) (verdicts : List PieceVerdict) → AllZip IsOnPlaced pieces verdicts → length verdicts ≡ length pieces
same_count [] [] each = refl
same_count [] (v ∷ verdicts) each = absurd each
same_count (piece ∷ pieces) [] each = absurd each
same_count (piece ∷ pieces) (v ∷ verdicts) each = (let l = same_count pieces verdicts each.1 in omega (arith, l))

-- pieces that are cut off are not empty
pub cut_shorter : (before : ℕ) (text : List ℕ) (pieces : List PlacedPiece) (b : ℕ) (r : List ℕ) → AreCutFrom before text pieces b r → length pieces + length r ≤ length text
cut_shorter before text [] b r h = (let l = ap length h.0 in omega (arith, l))
cut_shorter before text (piece ∷ pieces) b r h =
    let l = ap length h.cut.parts ∙ length-append piece.text.now h.after in
    let more = cut_shorter (before + length (lines_of piece.text.now)) h.after pieces b r h.others in
    omega (arith, l, more, h.cut.some)

-- ---- the outcome

pub tally_more : (tally : VerdictTally) (verdicts more : List PieceVerdict) → tally_with_all tally (verdicts ++ more) ≡ tally_with_all (tally_with_all tally verdicts) more
tally_more tally [] more = refl
tally_more tally (v ∷ verdicts) more = tally_more (tally_with tally v) verdicts more

or_more : (a b c : Bool) → ((a || b) || c) ≡ (a || (b || c))
or_more true b c = refl
or_more false b c = refl

refusal_more : (a b c : Option Fault) → or_refusal (or_refusal a b) c ≡ or_refusal a (or_refusal b c)
refusal_more (Some f) b c = refl
refusal_more None b c = refl

or_none : (a : Bool) → (a || false) ≡ a
or_none true = refl
or_none false = refl

refusal_none : (a : Option Fault) → or_refusal a None ≡ a
refusal_none (Some f) = refl
refusal_none None = refl

has_failed_is : (tally : VerdictTally) (verdicts : List PieceVerdict) → (tally_with_all tally verdicts).has_failed ≡ (tally.has_failed || list_any is_failure verdicts)
has_failed_is tally [] = sym (or_none tally.has_failed)
has_failed_is tally (v ∷ verdicts) = has_failed_is (tally_with tally v) verdicts ∙ or_more tally.has_failed (is_failure v) (list_any is_failure verdicts)

has_no_is : (tally : VerdictTally) (verdicts : List PieceVerdict) → (tally_with_all tally verdicts).has_no ≡ (tally.has_no || list_any is_no verdicts)
has_no_is tally [] = sym (or_none tally.has_no)
has_no_is tally (v ∷ verdicts) = has_no_is (tally_with tally v) verdicts ∙ or_more tally.has_no (is_no v) (list_any is_no verdicts)

has_unknown_is : (tally : VerdictTally) (verdicts : List PieceVerdict) → (tally_with_all tally verdicts).has_unknown ≡ (tally.has_unknown || list_any is_unknown verdicts)
has_unknown_is tally [] = sym (or_none tally.has_unknown)
has_unknown_is tally (v ∷ verdicts) = has_unknown_is (tally_with tally v) verdicts ∙ or_more tally.has_unknown (is_unknown v) (list_any is_unknown verdicts)

refusal_is : (tally : VerdictTally) (verdicts : List PieceVerdict) → (tally_with_all tally verdicts).refusal ≡ or_refusal tally.refusal (first_refusal verdicts)
refusal_is tally [] = sym (refusal_none tally.refusal)
refusal_is tally (v ∷ verdicts) = refusal_is (tally_with tally v) verdicts ∙ refusal_more tally.refusal (refusal_in v) (first_refusal verdicts)

-- the outcome is that of what was counted
pub outcome_is : (verdicts : List PieceVerdict) → outcome_of_tally (tally_with_all no_tally verdicts) ≡ outcome verdicts
outcome_is verdicts = λ i. outcome_by (has_failed_is no_tally verdicts i) (has_no_is no_tally verdicts i) (refusal_is no_tally verdicts i) (has_unknown_is no_tally verdicts i)
