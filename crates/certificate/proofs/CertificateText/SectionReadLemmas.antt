-- What a reader of sections has read.
use Rattle.std.proofs.Common.{◌≡◌, ℕ, ◌+◌, ◌<◌, ◌≤◌, List, [], ◌∷◌, ◌++◌, length, true, false, refl, ap, sym, ◌∙◌, subst, inl, inr, arith, append_assoc, append-nil, length-append}
use Rattle.std.specs.Prelude.{Some, None, Result, Ok, Err, IfErr}
use Rattle.std.specs.Result.{IsErrAnd}
use Rattle.text_lines.specs.Fault.{IsRefusal}
use Rattle.text_lines.specs.declared.fault.PlacedFault.{PlacedFault}
use Rattle.text_lines.specs.declared.fault.PlacedFault.TheVariants.{OutOfMemory, At}
use Rattle.std.specs.List.{list_any}
use Rattle.std.proofs.lemmas.Bool.{or_parts}
use Rattle.std.proofs.lemmas.List.{length_push}
use Rattle.std.proofs.lemmas.List.Folds.{list_any-append}
use Rattle.text_lines.specs.Lines.{lines_of}
use Rattle.text_lines.specs.Words.{words_of}
use Rattle.lrat_check.specs.LratText.{SpellsDerivation}
use Rattle.lrat_check.specs.declared.derivation.Step.{Step}
use Rattle.certificate.specs.CertFaults.{HasSectionFault}
use Rattle.certificate.specs.CertLine.{is_skipped_line, begun_by}
use Rattle.certificate.specs.CertRead.{ends, AreReadUpTo, IsSectionCut, HasLratFaultBehind, HasSectionFaultBehind}
use Rattle.certificate.specs.CertText.{AreSections}
use Rattle.certificate.specs.declared.cert_fault.CertCause.{CertCause}
use Rattle.certificate.specs.declared.cert_fault.CertCause.TheVariants.{BadLine}
use Rattle.certificate.specs.declared.certificate.Section.{Section}
use Rattle.certificate.proofs.CertificateText.SectionLemmas.{AreClosed, AreOpen, no_lines, push_silent, push_begin, push_inside, push_end, spelled_clear, fault_in_section, fault_between, fault_behind, silent_first}

-- the lines that were read, and their sections: with the sections of the others after them they are those of the text
pub record IsReadSoFar (text : List ℕ) (before number : ℕ) (rest : List ℕ) (sections : List Section) : Type 0 where
  pub done : List (List ℕ)
  pub parts : lines_of text ≡ done ++ lines_of rest
  pub counted : number ≡ before + length done
  pub lines : AreClosed done
  pub spelled : (more : List Section) → AreSections (lines_of rest) more → AreSections (lines_of text) (sections ++ more)
  pub behind : number + length rest ≤ before + length text

pub at_start : (text : List ℕ) (before : ℕ) → IsReadSoFar text before before text []
at_start text before = record { done = []; parts = refl; counted = omega arith; lines = no_lines; spelled = λ more h. h; behind = omega arith }

parts_on : (all done rest : List (List ℕ)) (line : List ℕ) (after : List (List ℕ)) → all ≡ done ++ rest → rest ≡ line ∷ after → all ≡ (done ++ line ∷ []) ++ after
parts_on all done rest line after e f = e ∙ ap (λ l. done ++ l) f ∙ sym (append_assoc done (line ∷ []) after)

pub turn_silent : (text : List ℕ) (before number : ℕ) (rest : List ℕ) (sections : List Section) (line after : List ℕ) → IsReadSoFar text before number rest sections →
    lines_of rest ≡ line ∷ lines_of after → length after < length rest → is_skipped_line line ≡ true → IsReadSoFar text before (number + 1) after sections
turn_silent text before number rest sections line after h cut shorter silent = record {
  done = h.done ++ line ∷ [];
  parts = parts_on (lines_of text) h.done (lines_of rest) line (lines_of after) h.parts cut;
  counted = omega (arith, h.counted, length_push h.done line);
  lines = push_silent h.done line h.lines silent;
  spelled = λ more k. h.spelled more (subst (λ (ls : List (List ℕ)). AreSections ls more) (sym cut) (silent_first line (lines_of after) more silent k));
  behind = omega (arith, h.behind, shorter);
}

-- the lines of a section that was begun
record IsBegun (text : List ℕ) (before number : ℕ) (line after : List ℕ) : Type 0 where
  pub done : List (List ℕ)
  pub parts : lines_of text ≡ done ++ lines_of after
  pub counted : number ≡ before + length done
  pub lines : AreOpen done

begun : (text : List ℕ) (before number : ℕ) (rest : List ℕ) (sections : List Section) (line after : List ℕ) (leaf : ℕ) → IsReadSoFar text before number rest sections →
    lines_of rest ≡ line ∷ lines_of after → begun_by (words_of line) ≡ Some leaf → IsBegun text before (number + 1) line after
begun text before number rest sections line after leaf h cut begins = record {
  done = h.done ++ line ∷ [];
  parts = parts_on (lines_of text) h.done (lines_of rest) line (lines_of after) h.parts cut;
  counted = omega (arith, h.counted, length_push h.done line);
  lines = push_begin h.done line leaf h.lines begins;
}

pub turn_section : (text : List ℕ) (before number : ℕ) (rest : List ℕ) (sections : List Section) (line after inside from_end : List ℕ) (count leaf : ℕ) (steps : List Step) (last behind : List ℕ) →
    IsReadSoFar text before number rest sections → lines_of rest ≡ line ∷ lines_of after → length after < length rest → begun_by (words_of line) ≡ Some leaf →
    IsSectionCut (lines_of after) (lines_of inside) (lines_of from_end) count → count + length from_end ≤ length after → SpellsDerivation inside steps →
    lines_of from_end ≡ last ∷ lines_of behind → length behind < length from_end →
    IsReadSoFar text before ((number + 1) + (count + 1)) behind (sections ++ record { leaf = leaf; derivation = steps } ∷ [])
turn_section text before number rest sections line after inside from_end count leaf steps last behind h cut shorter begins section_cut small spelled last_cut shorter_yet =
    let b = begun text before number rest sections line after leaf h cut begins in
    let open_lines = push_inside b.done (lines_of inside) b.lines section_cut.none (spelled_clear inside steps spelled) in
    let last_ends : ends last ≡ true = section_cut.ended last (lines_of behind) last_cut in
    let new : Section = record { leaf = leaf; derivation = steps } in
    let others : lines_of after ≡ lines_of inside ++ last ∷ lines_of behind = section_cut.parts ∙ ap (λ ls. lines_of inside ++ ls) last_cut in
    record {
      done = (b.done ++ lines_of inside) ++ last ∷ [];
      parts = b.parts ∙ ap (λ ls. b.done ++ ls) others ∙ sym (append_assoc b.done (lines_of inside) (last ∷ lines_of behind)) ∙ sym (append_assoc (b.done ++ lines_of inside) (last ∷ []) (lines_of behind));
      counted = omega (arith, b.counted, section_cut.counted, length_push (b.done ++ lines_of inside) last, length-append b.done (lines_of inside));
      lines = push_end (b.done ++ lines_of inside) last open_lines last_ends;
      spelled = λ more k. subst (λ (ss : List Section). AreSections (lines_of text) ss) (sym (append_assoc sections (new ∷ []) more))
          (h.spelled (new ∷ more) (
            lines_of behind,
            record {
              before = [];
              first = line;
              steps = lines_of inside;
              last = last;
              parts = cut ∙ ap (λ ls. line ∷ ls) others;
              silent = refl;
              begins = begins;
              derivation = spelled;
              ends = last_ends;
            },
            k,
          ));
      behind = omega (arith, h.behind, shorter, small, shorter_yet);
    }

pub refused_between : (text : List ℕ) (before number : ℕ) (rest : List ℕ) (sections : List Section) (line after : List ℕ) → IsReadSoFar text before number rest sections →
    lines_of rest ≡ line ∷ lines_of after → is_skipped_line line ≡ false → begun_by (words_of line) ≡ None → HasSectionFaultBehind before (lines_of text) BadLine (number + 1)
refused_between text before number rest sections line after h cut said none = record {
  place = length h.done + 1;
  fault = inl (record {
    before = h.done;
    item = line;
    after = lines_of after;
    parts = h.parts ∙ ap (λ ls. h.done ++ ls) cut;
    counted = refl;
    faulty = fault_between h.done line h.lines said none;
    first = h.lines.faultless;
  });
  counted = omega (arith, h.counted);
}

pub refused_inside : (text : List ℕ) (before number : ℕ) (rest : List ℕ) (sections : List Section) (line after inside from_end : List ℕ) (count leaf : ℕ) (cause : CertCause) (place : ℕ) →
    IsReadSoFar text before number rest sections → lines_of rest ≡ line ∷ lines_of after → begun_by (words_of line) ≡ Some leaf →
    IsSectionCut (lines_of after) (lines_of inside) (lines_of from_end) count → HasLratFaultBehind (number + 1) inside cause place → HasSectionFaultBehind before (lines_of text) cause place
refused_inside text before number rest sections line after inside from_end count leaf cause place h cut begins section_cut refusal =
    let b = begun text before number rest sections line after leaf h cut begins in
    let f = refusal.fault in
    let none : list_any ends (f.before ++ f.item ∷ f.after) ≡ false = ap (list_any ends) (sym f.parts) ∙ section_cut.none in
    let split = or_parts (list_any ends f.before) (list_any ends (f.item ∷ f.after)) (sym (list_any-append ends f.before (f.item ∷ f.after)) ∙ none) in
    let here = or_parts (ends f.item) (list_any ends f.after) split.1 in
    let open_lines = push_inside b.done f.before b.lines split.0 f.first in
    record {
      place = length b.done + refusal.place;
      fault = inl (record {
        before = b.done ++ f.before;
        item = f.item;
        after = f.after ++ lines_of from_end;
        parts = b.parts ∙ ap (λ ls. b.done ++ ls) (section_cut.parts ∙ ap (λ ls. ls ++ lines_of from_end) f.parts ∙ append_assoc f.before (f.item ∷ f.after) (lines_of from_end))
            ∙ sym (append_assoc b.done f.before (f.item ∷ (f.after ++ lines_of from_end)));
        counted = omega (arith, f.counted, length-append b.done f.before);
        faulty = fault_in_section (b.done ++ f.before) f.item refusal.lrat_cause open_lines here.0 f.faulty ∙ ap Some (sym refusal.told);
        first = open_lines.faultless;
      });
      counted = omega (arith, refusal.counted, b.counted);
    }

pub refused_at_end : (text : List ℕ) (before number : ℕ) (rest : List ℕ) (sections : List Section) (line after inside from_end : List ℕ) (count leaf : ℕ) (steps : List Step) →
    IsReadSoFar text before number rest sections → lines_of rest ≡ line ∷ lines_of after → begun_by (words_of line) ≡ Some leaf →
    IsSectionCut (lines_of after) (lines_of inside) (lines_of from_end) count → SpellsDerivation inside steps → lines_of from_end ≡ [] →
    HasSectionFaultBehind before (lines_of text) BadLine ((number + 1) + (count + 1))
refused_at_end text before number rest sections line after inside from_end count leaf steps h cut begins section_cut spelled nothing =
    let b = begun text before number rest sections line after leaf h cut begins in
    let open_lines = push_inside b.done (lines_of inside) b.lines section_cut.none (spelled_clear inside steps spelled) in
    let all : lines_of text ≡ b.done ++ lines_of inside =
    b.parts ∙ ap (λ ls. b.done ++ ls) (section_cut.parts ∙ ap (λ ls. lines_of inside ++ ls) nothing ∙ append-nil (lines_of inside)) in
    let whole : AreOpen (lines_of text) = subst AreOpen (sym all) open_lines in
    record {
      place = length (lines_of text) + 1;
      fault = inr (record { faultless = whole.faultless; left_open = whole.opened; bad = refl; behind = refl });
      counted = omega (arith, b.counted, section_cut.counted, ap length all, length-append b.done (lines_of inside));
    }

-- what was read, whatever the rest says
pub read_up_to : (text : List ℕ) (before number : ℕ) (rest : List ℕ) (sections : List Section) → IsReadSoFar text before number rest sections → AreReadUpTo before text number rest sections
read_up_to text before number rest sections h = record {
  spelled = h.spelled;
  faulty = λ cause line f. record {
    place = length h.done + f.place;
    fault = subst (λ (ls : List (List ℕ)). HasSectionFault ls cause (length h.done + f.place)) (sym h.parts) (fault_behind h.done (lines_of rest) cause f.place h.lines.closed h.lines.faultless f.fault);
    counted = omega (arith, f.counted, h.counted);
  };
  behind = h.behind;
}

pub read_on : (text : List ℕ) (before number : ℕ) (rest : List ℕ) (sections : List Section) (further : ℕ) (behind : List ℕ) (others : List Section) →
    AreReadUpTo before text number rest sections → AreReadUpTo number rest further behind others → AreReadUpTo before text further behind (sections ++ others)
read_on text before number rest sections further behind others h k = record {
  spelled = λ more m. subst (λ (ss : List Section). AreSections (lines_of text) ss) (sym (append_assoc sections others more)) (h.spelled (others ++ more) (k.spelled more m));
  faulty = λ cause line f. h.faulty cause line (k.faulty cause line f);
  behind = omega (arith, h.behind, k.behind);
}

pub all_read : (text : List ℕ) (before number : ℕ) (rest : List ℕ) (sections : List Section) → AreReadUpTo before text number rest sections → lines_of rest ≡ [] → AreSections (lines_of text) sections
all_read text before number rest sections h nothing =
    subst (λ (ss : List Section). AreSections (lines_of text) ss) (append-nil sections) (h.spelled [] (subst (λ (ls : List (List ℕ)). AreSections ls []) (sym nothing) refl))

-- a refusal of the rest is one of the text
pub refusal_behind : (text : List ℕ) (before number : ℕ) (rest : List ℕ) (sections : List Section) (fault : PlacedFault CertCause) → AreReadUpTo before text number rest sections →
    IsRefusal (HasSectionFaultBehind number (lines_of rest)) fault → IsRefusal (HasSectionFaultBehind before (lines_of text)) fault
refusal_behind text before number rest sections OutOfMemory h refusal = tt
refusal_behind text before number rest sections (At cause line) h refusal = h.faulty cause line refusal

pub refusal_inside : (text : List ℕ) (before number : ℕ) (rest : List ℕ) (sections : List Section) (line after inside from_end : List ℕ) (count leaf : ℕ) (fault : PlacedFault CertCause) →
    IsReadSoFar text before number rest sections → lines_of rest ≡ line ∷ lines_of after → begun_by (words_of line) ≡ Some leaf →
    IsSectionCut (lines_of after) (lines_of inside) (lines_of from_end) count → IsRefusal (HasLratFaultBehind (number + 1) inside) fault → IsRefusal (HasSectionFaultBehind before (lines_of text)) fault
refusal_inside text before number rest sections line after inside from_end count leaf OutOfMemory h cut begins section_cut refusal = tt
refusal_inside text before number rest sections line after inside from_end count leaf (At cause place) h cut begins section_cut refusal =
    refused_inside text before number rest sections line after inside from_end count leaf cause place h cut begins section_cut refusal

-- a refusal that is handed on
pub handed_on : {A : Type 0} (Q : PlacedFault CertCause → Type 0) (r : Result A (PlacedFault CertCause)) (fault : PlacedFault CertCause) → IsErrAnd r (λ other. other ≡ fault) → Q fault → IfErr r Q
handed_on Q (Ok x) fault e h = tt
handed_on Q (Err other) fault e h = subst Q (sym e) h
