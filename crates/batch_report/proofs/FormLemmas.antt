-- How lines are put together, in any form, and the plain form.
use Rattle.std.proofs.Common.{◌≡◌, ℕ, ◌+◌, ◌<◌, List, [], ◌∷◌, ◌++◌, length, refl, sym, ap, ◌∙◌, subst, arith, append-nil, append_assoc, get_or, take, suc, zero}
use Rattle.std.specs.Prelude.{map}
use Rattle.std.proofs.lemmas.List.{map-append}
use Rattle.batch_report.specs.BatchLines.{batch_line, batch_lines}
use Rattle.batch_report.specs.declared.block.DecidedPiece.{DecidedPiece}
use Rattle.batch_report.specs.declared.block.PlacedPiece.{PlacedPiece}
use Rattle.batch_report.specs.declared.piece_verdict.PieceVerdict.{PieceVerdict}
use Rattle.batch_report.specs.Findings.{AreLines, Finding, LineMeaning, PutsLine, Reaches, finding_of, findings_of, verdicts_of}
use Rattle.batch_report.specs.PlainLines.{is_plain_line}

-- ---- findings

-- one more
pub findings_at : (pieces : List PlacedPiece) (verdicts : List PieceVerdict) (at : ℕ) (d : PlacedPiece) (e : PieceVerdict) → at < length verdicts → length verdicts ≡ length pieces →
    findings_of (take (suc at) pieces) (take (suc at) verdicts)
    ≡ findings_of (take at pieces) (take at verdicts) ++ finding_of (record { piece = get_or pieces at d; verdict = get_or verdicts at e }) ∷ []
findings_at pieces [] at d e within same = absurd (omega (arith, within))
findings_at [] (v ∷ verdicts) at d e within same = absurd (omega (arith, same))
findings_at (p ∷ pieces) (v ∷ verdicts) zero d e within same = refl
findings_at (p ∷ pieces) (v ∷ verdicts) (suc at) d e within same =
    ap (λ (l : List Finding). finding_of (record { piece = p; verdict = v }) ∷ l) (findings_at pieces verdicts at d e (omega (arith, within)) (omega (arith, same)))

-- as many as verdicts
pub count_of : (pieces : List PlacedPiece) (verdicts : List PieceVerdict) → length verdicts ≡ length pieces → length (findings_of pieces verdicts) ≡ length verdicts
count_of [] [] same = refl
count_of [] (v ∷ verdicts) same = absurd (omega (arith, same))
count_of (p ∷ pieces) [] same = refl
count_of (p ∷ pieces) (v ∷ verdicts) same = (let l = count_of pieces verdicts (omega (arith, same)) in omega (arith, l))

-- their verdicts
pub verdicts_are : (pieces : List PlacedPiece) (verdicts : List PieceVerdict) → length verdicts ≡ length pieces → verdicts_of (findings_of pieces verdicts) ≡ verdicts
verdicts_are [] [] same = refl
verdicts_are [] (v ∷ verdicts) same = absurd (omega (arith, same))
verdicts_are (p ∷ pieces) [] same = absurd (omega (arith, same))
verdicts_are (p ∷ pieces) (v ∷ verdicts) same = ap (λ (l : List PieceVerdict). v ∷ l) (verdicts_are pieces verdicts (omega (arith, same)))

pub verdicts_more : (findings more : List Finding) → verdicts_of (findings ++ more) ≡ verdicts_of findings ++ verdicts_of more
verdicts_more findings more = map-append (λ (f : Finding). f.verdict) findings more

-- ---- lines

module _ (Says : ℕ → Finding → List ℕ → Type 0) where
  pub lines_more : (before : ℕ) (findings more : List Finding) (text after : List ℕ) → AreLines Says before findings text → (then : ℕ) → then ≡ before + length findings → AreLines Says then more after →
      AreLines Says before (findings ++ more) (text ++ after)
  lines_more before [] more text after lines then is others =
      let here : then ≡ before = omega (arith, is) in
      subst (λ (n : ℕ). AreLines Says n more (text ++ after)) here (subst (λ (t : List ℕ). AreLines Says then more (t ++ after)) (sym lines) others)
  lines_more before (f ∷ findings) more text after lines then is others =
      record {
        line = lines.line;
        after = lines.after ++ after;
        parts = ap (λ (t : List ℕ). t ++ after) lines.parts ∙ append_assoc lines.line lines.after after;
        says = lines.says;
        others = lines_more (before + 1) findings more lines.after after lines.others then (omega (arith, is)) others;
      }

  pub one_line : (before : ℕ) (finding : Finding) (line : List ℕ) → Says (before + 1) finding line → AreLines Says before (finding ∷ []) line
  one_line before finding line says = record { line = line; after = []; parts = sym (append-nil line); says = says; others = refl }

  -- the line of the piece at a place
  pub line_at : (before : ℕ) (pieces : List PlacedPiece) (verdicts : List PieceVerdict) (at : ℕ) (d : PlacedPiece) (e : PieceVerdict) (old new : List ℕ) → at < length verdicts → length verdicts ≡ length pieces →
      length (take at verdicts) ≡ at → length (take at pieces) ≡ at →
      AreLines Says before (findings_of (take at pieces) (take at verdicts)) old →
      PutsLine (Says (before + at + 1) (finding_of (record { piece = get_or pieces at d; verdict = get_or verdicts at e }))) old new →
      AreLines Says before (findings_of (take (at + 1) pieces) (take (at + 1) verdicts)) new
  line_at before pieces verdicts at d e old new within same l k lines puts =
      let next = finding_of (record { piece = get_or pieces at d; verdict = get_or verdicts at e }) in
      let count = count_of (take at pieces) (take at verdicts) (l ∙ sym k) in
      let then : before + at ≡ before + length (findings_of (take at pieces) (take at verdicts)) = omega (arith, count, l) in
      let all : suc at ≡ at + 1 = omega arith in
      subst (λ (n : ℕ). AreLines Says before (findings_of (take n pieces) (take n verdicts)) new) all
      (subst (λ (fs : List Finding). AreLines Says before fs new) (sym (findings_at pieces verdicts at d e within same))
      (subst (λ (t : List ℕ). AreLines Says before (findings_of (take at pieces) (take at verdicts) ++ next ∷ []) t) (sym puts.put)
      (lines_more before (findings_of (take at pieces) (take at verdicts)) (next ∷ []) old puts.line lines (before + at) then (one_line (before + at) next puts.line puts.says))))

-- there are lines for any findings
pub some_lines : {D : Type 0} (means : LineMeaning D) (file : List ℕ) (before : ℕ) (findings : List Finding) → (text : List ℕ) × AreLines (means.says file) before findings text
some_lines means file before [] = ([], refl)
some_lines means file before (f ∷ findings) =
    let line = means.says_some file (before + 1) f in
    let others = some_lines means file (before + 1) findings in
    (line.0 ++ others.0, record { line = line.0; after = others.0; parts = refl; says = line.1; others = others.1 })

-- ---- devices

module _ {D : Type 0} (moves : D → D → Type 0) where
  pub reaches_more : (count more : ℕ) (from between to : D) → Reaches moves count from between → Reaches moves more between to → (all : ℕ) → all ≡ count + more → Reaches moves all from to
  reaches_more count zero from between to reached next all is =
      let e : all ≡ count = omega (arith, is) in
      subst (λ (d : D). Reaches moves all from d) (sym next) (subst (λ (n : ℕ). Reaches moves n from between) (sym e) reached)
  reaches_more count (suc more) from between to reached next all is =
      let e : all ≡ suc (count + more) = omega (arith, is) in
      subst (λ (n : ℕ). Reaches moves n from to) (sym e) (next.0, reaches_more count more from between next.0 reached next.1 (count + more) refl, next.2)

-- ---- the plain form

pub plain_lines : (file : List ℕ) (before : ℕ) (findings : List Finding) (text : List ℕ) → AreLines (is_plain_line file) before findings text → text ≡ batch_lines file before (verdicts_of findings)
plain_lines file before [] text lines = lines
plain_lines file before (f ∷ findings) text lines =
    lines.parts ∙ ap (λ (l : List ℕ). l ++ lines.after) lines.says ∙ ap (λ (l : List ℕ). batch_line file (before + 1) f.verdict ++ l) (plain_lines file (before + 1) findings lines.after lines.others)

-- ---- objects

-- three parts were put behind a text, one after the other
pub three_parts : (text a b c after_a after_b after_c : List ℕ) → after_a ≡ text ++ a → after_b ≡ after_a ++ b → after_c ≡ after_b ++ c → after_c ≡ text ++ (a ++ (b ++ c))
three_parts text a b c after_a after_b after_c with_a with_b with_c =
    with_c ∙ ap (λ (l : List ℕ). l ++ c) (with_b ∙ ap (λ (l : List ℕ). l ++ b) with_a) ∙ append_assoc (text ++ a) b c ∙ append_assoc text a (b ++ c)
