-- The canonical text of a certificate spells it.
use Rattle.std.proofs.Common.{◌≡◌, ◌⊎◌, ℕ, zero, suc, ◌+◌, ◌^◌, ◌<◌, ◌≤◌, List, [], ◌∷◌, ◌++◌, length, map, drop, Bool, true, false, cond, leb, refl, ap, sym, ◌∙◌, subst, inl, inr, arith, append_assoc, append-nil, length-append}
use Rattle.std.specs.Prelude.{Option, Some, None, pos, codes, decimal}
use Rattle.std.specs.Char.{is_ascii_digit}
use Rattle.std.specs.List.{list_any, list_all, flat_map}
use Rattle.std.specs.Option.{option_and_then}
use Rattle.std.proofs.lemmas.Bool.{and_parts, le-leb, or_from, cases_Bool, eqb-true}
use Rattle.std.proofs.lemmas.Fmt.{decimal_is_IsNumeral}
use Rattle.std.proofs.lemmas.List.Folds.{list_any-append}
use Rattle.text_lines.specs.Lines.{lines_of, is_line_feed}
use Rattle.text_lines.specs.Words.{words_of, is_blank}
use Rattle.text_lines.proofs.Decimals.DigitLemmas.{none_in_digits, digit_no_feed, digit_no_blank}
use Rattle.text_lines.proofs.Cutting.LineLemmas.{line_ended, word_ended, one_word}
use Rattle.text_lines.proofs.Decimals.PlainLemmas.{own, decimal_is_plain}
use Rattle.cube_tree.specs.CubeTree.{CubeTree, IsCubeTree}
use Rattle.cube_tree.specs.TreeText.{tree_text}
use Rattle.cube_tree.proofs.WrittenLemmas as tree
use Rattle.lrat_check.specs.LratText.{is_lrat_step}
use Rattle.lrat_check.specs.LratWritten.{canonical_derivation, step_line, list_text}
use Rattle.lrat_check.specs.declared.derivation.Step.{Step}
use Rattle.lrat_check.specs.declared.derivation.Step.TheVariants.{Addition, Deletion}
use Rattle.lrat_check.proofs.DerivationText.LratWrittenLemmas as lrat
use Rattle.certificate.specs.CertLine.{most_number, begun_by, is_header, is_end}
use Rattle.certificate.specs.CertText.{AreSections, SpellsCertificate}
use Rattle.certificate.specs.CertWritten.{section_text, canonical_certificate, sections_from, certificate_of, AreWritable}
use Rattle.certificate.specs.declared.certificate.Certificate.{Certificate}
use Rattle.certificate.specs.declared.certificate.Section.{Section}

small : (n : ℕ) → n ≤ most_number → n < 2 ^ 64
small n h = omega (arith, h)

digits : (n : ℕ) → n ≤ most_number → list_all is_ascii_digit (decimal n) ≡ true
digits n h = own.from (decimal n) (decimal_is_IsNumeral n (small n h)).0.1

-- a text up to its first line feed
record FirstFeed (text : List ℕ) : Type 0 where
  pub line : List ℕ
  pub rest : List ℕ
  pub parts : text ≡ line ++ 10 ∷ rest
  pub none : list_any is_line_feed line ≡ false

first_feed : (text : List ℕ) → (list_any is_line_feed text ≡ false) ⊎ FirstFeed text
first_feed [] = inl refl
first_feed (x ∷ text) = elim (cases_Bool (is_line_feed x)) [
  | inl feed ↦ inr (record { line = []; rest = text; parts = (let ten : x ≡ 10 = eqb-true x 10 feed in ap (λ (y : ℕ). y ∷ text) ten); none = refl })
  | inr other ↦ elim (first_feed text) [
    | inl none ↦ inl (or_from (is_line_feed x) (list_any is_line_feed text) other none)
    | inr f ↦ inr (record { line = x ∷ f.line; rest = f.rest; parts = ap (λ l. x ∷ l) f.parts; none = or_from (is_line_feed x) (list_any is_line_feed f.line) other f.none })
  ]
]

cut_at : (line others more text : List ℕ) → text ≡ line ++ 10 ∷ others → list_any is_line_feed line ≡ false → lines_of (text ++ 10 ∷ more) ≡ line ∷ lines_of (others ++ 10 ∷ more)
cut_at line others more text parts none = ap (λ t. lines_of (t ++ 10 ∷ more)) parts ∙ ap lines_of (append_assoc line (10 ∷ others) (10 ∷ more)) ∙ line_ended line (others ++ 10 ∷ more) none

-- the lines after a line feed are those of what is after it
lines_on : (n : ℕ) (text rest : List ℕ) → length text ≤ n → lines_of (text ++ 10 ∷ rest) ≡ lines_of (text ++ 10 ∷ []) ++ lines_of rest
lines_on zero text rest l = elim (first_feed text) [
  | inl none ↦ line_ended text rest none ∙ ap (λ ls. ls ++ lines_of rest) (sym (line_ended text [] none))
  | inr f ↦ absurd (let long = ap length f.parts ∙ length-append f.line (10 ∷ f.rest) in omega (arith, l, long))
]
lines_on (suc n) text rest l = elim (first_feed text) [
  | inl none ↦ line_ended text rest none ∙ ap (λ ls. ls ++ lines_of rest) (sym (line_ended text [] none))
  | inr f ↦
      let long = ap length f.parts ∙ length-append f.line (10 ∷ f.rest) in
      let shorter : length f.rest ≤ n = omega (arith, l, long) in
      cut_at f.line f.rest rest text f.parts f.none ∙ ap (λ ls. f.line ∷ ls) (lines_on n f.rest rest shorter) ∙ ap (λ ls. ls ++ lines_of rest) (sym (cut_at f.line f.rest [] text f.parts f.none))
]

-- a text that is empty or ends with a line feed
abbrev EndsLine : List ℕ → Type 0
EndsLine text = (text ≡ []) ⊎ ((front : List ℕ) × (text ≡ front ++ 10 ∷ []))

ended_join : (text rest : List ℕ) → EndsLine text → lines_of (text ++ rest) ≡ lines_of text ++ lines_of rest
ended_join text rest (inl e) = ap (λ t. lines_of (t ++ rest)) e ∙ ap (λ t. lines_of t ++ lines_of rest) (sym e)
ended_join text rest (inr (front, e)) =
    ap (λ t. lines_of (t ++ rest)) e ∙ ap lines_of (append_assoc front (10 ∷ []) rest) ∙ lines_on (length front) front rest (omega arith) ∙ ap (λ t. lines_of t ++ lines_of rest) (sym e)

both_end : (text rest : List ℕ) → EndsLine text → EndsLine rest → EndsLine (text ++ rest)
both_end text rest h (inl e) = subst EndsLine (sym (ap (λ r. text ++ r) e ∙ append-nil text)) h
both_end text rest h (inr (front, e)) = inr (text ++ front, ap (λ r. text ++ r) e ∙ sym (append_assoc text front (10 ∷ [])))

three_end : (a b c : List ℕ) → EndsLine (a ++ (b ++ (c ++ codes "\n")))
three_end a b c = inr (a ++ (b ++ c), ap (λ t. a ++ t) (sym (append_assoc b c (10 ∷ []))) ∙ sym (append_assoc a (b ++ c) (10 ∷ [])))

step_ends : (step : Step) → EndsLine (step_line step)
step_ends (Addition id literals hints) = three_end (decimal id) (list_text literals) (list_text hints)
step_ends (Deletion first ids) = three_end (decimal first) (codes " d") (list_text (map pos ids))

derivation_ends : (steps : List Step) → EndsLine (canonical_derivation steps)
derivation_ends [] = inl refl
derivation_ends (step ∷ steps) = both_end (step_line step) (canonical_derivation steps) (step_ends step) (derivation_ends steps)

-- the first line of a section
begin_ended : (leaf : ℕ) (rest : List ℕ) → leaf ≤ most_number → lines_of ((codes "proof " ++ decimal leaf) ++ 10 ∷ rest) ≡ (codes "proof " ++ decimal leaf) ∷ lines_of rest
begin_ended leaf rest h =
    line_ended (codes "proof " ++ decimal leaf) rest (list_any-append is_line_feed (codes "proof ") (decimal leaf) ∙ none_in_digits is_line_feed digit_no_feed (decimal leaf) (digits leaf h))

begin_words : (leaf : ℕ) → leaf ≤ most_number → words_of (codes "proof " ++ decimal leaf) ≡ codes "proof" ∷ (decimal leaf ∷ [])
begin_words leaf h =
    let number = one_word (decimal leaf) (decimal_is_IsNumeral leaf (small leaf h)).0.0 (none_in_digits is_blank digit_no_blank (decimal leaf) (digits leaf h)) in
    word_ended (codes "proof") 32 (decimal leaf) (omega arith) refl refl ∙ ap (λ ws. codes "proof" ∷ ws) number

begin_read : (leaf : ℕ) → leaf ≤ most_number → begun_by (words_of (codes "proof " ++ decimal leaf)) ≡ Some leaf
begin_read leaf h =
    ap begun_by (begin_words leaf h)
    ∙ ap (λ (o : Option ℕ). option_and_then (λ (n : ℕ). cond (leb n most_number) (Some n) None) o) (decimal_is_plain leaf (small leaf h))
    ∙ ap (λ (b : Bool). cond b (Some leaf) None) (le-leb leaf most_number h)

section_parts : (leaf steps more : List ℕ) → (codes "proof " ++ (leaf ++ (codes "\n" ++ (steps ++ codes "end\n")))) ++ more ≡ (codes "proof " ++ leaf) ++ 10 ∷ (steps ++ (codes "end" ++ 10 ∷ more))
section_parts leaf steps more =
    append_assoc (codes "proof ") (leaf ++ (codes "\n" ++ (steps ++ codes "end\n"))) more
    ∙ ap (λ t. codes "proof " ++ t) (append_assoc leaf (codes "\n" ++ (steps ++ codes "end\n")) more ∙ ap (λ t. leaf ++ 10 ∷ t) (append_assoc steps (codes "end\n") more))
    ∙ sym (append_assoc (codes "proof ") leaf (10 ∷ (steps ++ (codes "end" ++ 10 ∷ more))))

written_sections : (sections : List Section) → AreWritable sections → AreSections (lines_of (flat_map section_text sections)) sections
written_sections [] h = refl
written_sections (section ∷ sections) h =
    let more = flat_map section_text sections in
    let steps = canonical_derivation section.derivation in
    let behind = lines_of more in
    let all : lines_of (section_text section ++ more) ≡ (codes "proof " ++ decimal section.leaf) ∷ (lines_of steps ++ codes "end" ∷ behind) =
    ap lines_of (section_parts (decimal section.leaf) steps more)
    ∙ begin_ended section.leaf (steps ++ (codes "end" ++ 10 ∷ more)) h.0.numbered
    ∙ ap (λ ls. (codes "proof " ++ decimal section.leaf) ∷ ls) (ended_join steps (codes "end" ++ 10 ∷ more) (derivation_ends section.derivation) ∙ ap (λ ls. lines_of steps ++ ls) (line_ended (codes "end") more refl)) in (
      behind,
      record {
        before = [];
        first = codes "proof " ++ decimal section.leaf;
        steps = lines_of steps;
        last = codes "end";
        parts = all;
        silent = refl;
        begins = begin_read section.leaf h.0.numbered;
        derivation = lrat.written_spells section.derivation h.0.steps;
        ends = ap (λ (ws : List (List ℕ)). is_end ws) (one_word (codes "end") (omega arith) refl);
      },
      written_sections sections h.1,
    )

dropped : (front rest : List ℕ) → drop (length front) (front ++ rest) ≡ rest
dropped [] rest = refl
dropped (x ∷ front) rest = dropped front rest

header_words : words_of (codes "vsc-cert 1") ≡ codes "vsc-cert" ∷ (codes "1" ∷ [])
header_words = word_ended (codes "vsc-cert") 32 (codes "1") (omega arith) refl refl ∙ ap (λ ws. codes "vsc-cert" ∷ ws) (one_word (codes "1") (omega arith) refl)

pub written_spells : (certificate : Certificate) → IsCubeTree certificate.tree → AreWritable certificate.sections → SpellsCertificate (canonical_certificate certificate) certificate
written_spells certificate tree_ok writable =
    let sections = flat_map section_text certificate.sections in
    let behind = tree_text certificate.tree ++ sections in
    let text : canonical_certificate certificate ≡ codes "vsc-cert 1" ++ 10 ∷ behind = append_assoc (codes "vsc-cert 1\n") (tree_text certificate.tree) sections in
    record {
      behind = behind;
      line = 1;
      bytes = length (tree_text certificate.tree);
      headed = record {
        before = [];
        header = codes "vsc-cert 1";
        parts = ap lines_of text ∙ line_ended (codes "vsc-cert 1") behind refl;
        counted = refl;
        silent = refl;
        says = ap (λ (ws : List (List ℕ)). is_header ws) header_words;
      };
      tree = tree.written_spells certificate.tree sections tree_ok;
      sections = subst (λ (t : List ℕ). AreSections (lines_of t) certificate.sections) (sym (dropped (tree_text certificate.tree) sections)) (written_sections certificate.sections writable);
    }

writable_from : (leaf : ℕ) (derivations : List (List Step)) → leaf + length derivations ≤ 1024 → list_all (λ steps. list_all is_lrat_step steps) derivations ≡ true → AreWritable (sections_from leaf derivations)
writable_from leaf [] few good = tt
writable_from leaf (steps ∷ derivations) few good =
    let parts = and_parts (list_all is_lrat_step steps) (list_all (λ steps. list_all is_lrat_step steps) derivations) good in
    (record { numbered = omega (arith, few); steps = parts.0 }, writable_from (suc leaf) derivations (omega (arith, few)) parts.1)

pub written_read : (tree : CubeTree) (derivations : List (List Step)) → IsCubeTree tree → length derivations ≤ 1024 → list_all (λ steps. list_all is_lrat_step steps) derivations ≡ true →
    SpellsCertificate (canonical_certificate (certificate_of tree derivations)) (certificate_of tree derivations)
written_read tree derivations tree_ok few good = written_spells (certificate_of tree derivations) tree_ok (writable_from 0 derivations (omega (arith, few)) good)
