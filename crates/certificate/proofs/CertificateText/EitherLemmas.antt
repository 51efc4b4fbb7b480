-- Each text spells a certificate or has a first fault: the reader's own steps, taken over any text.
use Rattle.std.proofs.Common.{◌≡◌, ◌⊎◌, ℕ, zero, suc, ◌+◌, ◌<◌, ◌≤◌, List, [], ◌∷◌, ◌++◌, length, take, drop, Bool, true, false, refl, inl, inr, arith, length-drop}
use Rattle.std.specs.Prelude.{Option, Some, None, min}
use Rattle.std.specs.List.{before_first, after_first, position_or_len}
use Rattle.text_lines.proofs.Cutting.CutLemmas.{lines_cut}
use Rattle.text_lines.specs.Lines.{lines_of, is_line_feed}
use Rattle.text_lines.specs.Words.{words_of}
use Rattle.cube_tree.proofs.TextLawLemmas.{spelled_or_refused as tree_or_refused}
use Rattle.cube_tree.specs.TreeText.{tree_lines}
use Rattle.lrat_check.proofs.DerivationText.LratLawLemmas.{spelled_or_refused as steps_or_refused}
use Rattle.certificate.specs.CertCause.{of_tree}
use Rattle.certificate.specs.CertFaults.{LacksHeader, HasCertFault}
use Rattle.certificate.specs.CertLine.{is_skipped_line, is_header, begun_by}
use Rattle.certificate.specs.CertRead.{ends, IsSectionCut, HasSectionFaultBehind}
use Rattle.certificate.specs.CertText.{IsHeaded, AreSections, SpellsCertificate}
use Rattle.certificate.specs.declared.cert_fault.CertCause.{CertCause}
use Rattle.certificate.specs.declared.cert_fault.CertCause.TheVariants.{Header, BadLine, BadLrat}
use Rattle.certificate.specs.declared.certificate.Certificate.{Certificate}
use Rattle.certificate.specs.declared.certificate.Section.{Section}
use Rattle.certificate.proofs.CertificateText.HeaderLemmas.{IsSilentSoFar, none_yet, next_silent, found, other_first, none_first}
use Rattle.certificate.proofs.CertificateText.SectionCutLemmas.{IsPassed, none_passed, next_passed, cut_at_end, cut_nowhere}
use Rattle.certificate.proofs.CertificateText.SectionReadLemmas.{IsReadSoFar, at_start, turn_silent, turn_section, refused_between, refused_inside, refused_at_end, read_up_to, all_read}

either : (b : Bool) → (b ≡ true) ⊎ (b ≡ false)
either true = inl refl
either false = inr refl

some_or_none : (o : Option ℕ) → ((n : ℕ) × (o ≡ Some n)) ⊎ (o ≡ None)
some_or_none (Some n) = inl (n, refl)
some_or_none None = inr refl

-- the first line of a text, and what is after it
record Cut (text : List ℕ) : Type 0 where
  line : List ℕ
  after : List ℕ
  lines : lines_of text ≡ line ∷ lines_of after
  shorter : length after < length text

cut : (text : List ℕ) → (lines_of text ≡ []) ⊎ Cut text
cut [] = inl refl
cut (x ∷ xs) = inr (record {
  line = before_first is_line_feed (x ∷ xs);
  after = after_first is_line_feed (x ∷ xs);
  lines = lines_cut (x ∷ xs) (omega arith);
  shorter = omega (arith, length-drop (position_or_len is_line_feed (x ∷ xs) + 1) (x ∷ xs));
})

-- ---- the header

header_from : (fuel : ℕ) (text : List ℕ) (number : ℕ) (rest : List ℕ) → length rest < fuel → IsSilentSoFar text number rest →
    ((behind : List ℕ) × (line : ℕ) × IsHeaded text behind line) ⊎ ((line : ℕ) × LacksHeader text Header line)
header_from zero text number rest below h = absurd (omega (arith, below))
header_from (suc fuel) text number rest below h = elim (cut rest) [
  | inl nothing ↦ inr (number + 1, none_first text number rest h nothing)
  | inr c ↦ elim (either (is_header (words_of c.line))) [
    | inl says ↦ inl (c.after, number + 1, found text number rest c.line c.after h c.lines says)
    | inr other ↦ elim (either (is_skipped_line c.line)) [
      | inl silent ↦ header_from fuel text (number + 1) c.after (omega (arith, below, c.shorter)) (next_silent text number rest c.line c.after h c.lines c.shorter silent)
      | inr said ↦ inr (number + 1, other_first text number rest c.line c.after h c.lines said other)
    ]
  ]
]

-- ---- the lines of a section

record SectionCut (text : List ℕ) : Type 0 where
  inside : List ℕ
  from_end : List ℕ
  count : ℕ
  is_cut : IsSectionCut (lines_of text) (lines_of inside) (lines_of from_end) count
  small : count + length from_end ≤ length text

passed_from : (fuel : ℕ) (text : List ℕ) (bytes count : ℕ) (rest : List ℕ) → length rest < fuel → IsPassed text bytes count rest → SectionCut text
passed_from zero text bytes count rest below h = absurd (omega (arith, below))
passed_from (suc fuel) text bytes count rest below h = elim (cut rest) [
  | inl nothing ↦ record { inside = text; from_end = rest; count = count; is_cut = cut_nowhere text bytes count rest h nothing; small = h.behind }
  | inr c ↦ elim (either (ends c.line)) [
    | inl last ↦ record {
      inside = take (min (length text) bytes) text;
      from_end = rest;
      count = count;
      is_cut = cut_at_end text bytes count rest c.line c.after (take (min (length text) bytes) text) h c.lines last refl;
      small = h.behind;
    }
    | inr no_end ↦ passed_from fuel text (bytes + (length c.line + 1)) (count + 1) c.after (omega (arith, below, c.shorter)) (next_passed text bytes count rest c.line c.after h c.lines c.shorter no_end)
  ]
]

section_cut : (text : List ℕ) → SectionCut text
section_cut text = passed_from (suc (length text)) text 0 0 text (omega arith) (none_passed text)

-- ---- the sections

sections_from : (fuel : ℕ) (text : List ℕ) (before number : ℕ) (rest : List ℕ) (sections : List Section) → length rest < fuel → IsReadSoFar text before number rest sections →
    ((all : List Section) × AreSections (lines_of text) all) ⊎ ((cause : CertCause) × (line : ℕ) × HasSectionFaultBehind before (lines_of text) cause line)
sections_from zero text before number rest sections below h = absurd (omega (arith, below))
sections_from (suc fuel) text before number rest sections below h = elim (cut rest) [
  | inl nothing ↦ inl (sections, all_read text before number rest sections (read_up_to text before number rest sections h) nothing)
  | inr c ↦ elim (either (is_skipped_line c.line)) [
    | inl silent ↦ sections_from fuel text before (number + 1) c.after sections (omega (arith, below, c.shorter)) (turn_silent text before number rest sections c.line c.after h c.lines c.shorter silent)
    | inr said ↦ elim (some_or_none (begun_by (words_of c.line))) [
      | inr none ↦ inr (BadLine, number + 1, refused_between text before number rest sections c.line c.after h c.lines said none)
      | inl (leaf, begins) ↦ (
          let s = section_cut c.after in
          elim (steps_or_refused s.inside) [
            | inr (lrat_cause, place, fault) ↦ inr (
              BadLrat,
              (number + 1) + place,
              refused_inside text before number rest sections c.line c.after s.inside s.from_end s.count leaf BadLrat ((number + 1) + place) h c.lines begins s.is_cut
                  (record { lrat_cause = lrat_cause; place = place; fault = fault; told = refl; counted = refl }),
            )
            | inl (steps, spelled) ↦ elim (cut s.from_end) [
              | inl nothing ↦ inr (BadLine, (number + 1) + (s.count + 1), refused_at_end text before number rest sections c.line c.after s.inside s.from_end s.count leaf steps h c.lines begins s.is_cut spelled nothing)
              | inr d ↦ sections_from fuel text before ((number + 1) + (s.count + 1)) d.after (sections ++ record { leaf = leaf; derivation = steps } ∷ []) (omega (arith, below, c.shorter, s.small, d.shorter))
                  (turn_section text before number rest sections c.line c.after s.inside s.from_end s.count leaf steps d.line d.after h c.lines c.shorter begins s.is_cut s.small spelled d.lines d.shorter)
            ]
          ])
    ]
  ]
]

-- ---- the text

pub spelled_or_refused : (text : List ℕ) → ((certificate : Certificate) × SpellsCertificate text certificate) ⊎ ((cause : CertCause) × (line : ℕ) × HasCertFault text cause line)
spelled_or_refused text = elim (header_from (suc (length text)) text 0 text (omega arith) (none_yet text)) [
  | inr (line, lacks) ↦ inr (Header, line, inl lacks)
  | inl (behind, header, headed) ↦ elim (tree_or_refused behind) [
    | inr (tree_cause, (place, fault)) ↦ inr (of_tree tree_cause, header + place, inr (inl (record { behind = behind; header = header; tree_cause = tree_cause; place = place; headed = headed; fault = fault; told = refl; counted = refl })))
    | inl (tree, (bytes, spelled)) ↦ elim (sections_from (suc (length (drop bytes behind))) (drop bytes behind) (header + length (tree_lines tree)) (header + length (tree_lines tree)) (drop bytes behind) [] (omega arith) (at_start (drop bytes behind) (header + length (tree_lines tree)))) [
      | inl (sections, are) ↦ inl (record { tree = tree; sections = sections }, record { behind = behind; line = header; bytes = bytes; headed = headed; tree = spelled; sections = are })
      | inr (cause, line, f) ↦ inr (cause, line, inr (inr (record { behind = behind; header = header; tree = tree; bytes = bytes; place = f.place; headed = headed; spelled = spelled; fault = f.fault; counted = f.counted })))
    ]
  ]
]
