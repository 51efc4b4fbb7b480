-- The laws of a certificate's text.
use Rattle.std.proofs.Common.{◌≡◌, ℕ, ◌+◌, List, [], ◌∷◌, ◌++◌, length, map, take, drop, Bool, true, false, cond, refl, ap, sym, ◌∙◌, subst, inl, inr, append_assoc, append-nil}
use Rattle.std.specs.Prelude.{Option, Some, None, is_some, IsTrue, slice_get, min, codes, ◌==◌, slice_index}
use Rattle.std.specs.List.{list_any, list_all}
use Rattle.std.specs.Str.{bytes_eq}
use Rattle.std.proofs.lemmas.Bool.{and_parts, or_parts, or_from, true≢false, false≢true, cases_Bool}
use Rattle.std.proofs.lemmas.Slice.Eq.{bytes_eq-Decides}
use Rattle.text_lines.specs.FirstFault.{IsFaultless}
use Rattle.text_lines.specs.Kept.{is_dimacs_skipped}
use Rattle.text_lines.specs.Lines.{lines_of}
use Rattle.text_lines.specs.Words.{words_of}
use Rattle.text_lines.proofs.FaultLemmas.{none_is_some, compared, one_first}
use Rattle.cube_tree.specs.CubeTree.{CubeTree}
use Rattle.cube_tree.specs.TreeFault.{HasTreeFault, due_after}
use Rattle.cube_tree.specs.TreeText.{tree_lines, line_bytes, front_bytes, SpellsTree}
use Rattle.cube_tree.specs.declared.tree_fault.TreeCause.{TreeCause}
use Rattle.cube_tree.proofs.TextLawLemmas as tree
use Rattle.cube_tree.proofs.WrittenLemmas.{lines_behind, others_behind}
use Rattle.lrat_check.specs.LratText.{AreStepLines, SpellsDerivation}
use Rattle.lrat_check.specs.LratFaults.{line_fault, words_fault}
use Rattle.lrat_check.specs.declared.lrat_fault.LratCause.TheVariants.{BadNumber}
use Rattle.lrat_check.specs.declared.derivation.Step.{Step}
use Rattle.lrat_check.proofs.DerivationText.LratLawLemmas as lrat
use Rattle.certificate.specs.CertCause.{of_tree}
use Rattle.certificate.specs.CertFaults.{is_open_behind, section_line_fault, LacksHeader, HasSectionFault, HasCertFault}
use Rattle.certificate.specs.CertLine.{is_skipped_line, is_header, begun_by, is_end}
use Rattle.certificate.specs.CertRead.{ends}
use Rattle.certificate.specs.CertText.{IsHeaded, BeginWithSection, AreSections, SpellsCertificate}
use Rattle.certificate.specs.declared.cert_fault.CertCause.{CertCause}
use Rattle.certificate.specs.declared.certificate.Certificate.{Certificate}
use Rattle.certificate.specs.declared.certificate.Section.{Section}
use Rattle.certificate.proofs.CertificateText.LineCutLemmas.{front_lines}
use Rattle.certificate.proofs.CertificateText.SectionLemmas.{AreClosed, AreOpen, no_lines, push_silent, push_begin, push_inside, push_end, spelled_clear, silent_line, faultless_join, open_append}

-- all of these say nothing, so this one does
silent_at : (before : List (List ℕ)) (line : List ℕ) (after : List (List ℕ)) → list_all is_skipped_line (before ++ line ∷ after) ≡ true → is_skipped_line line ≡ true
silent_at [] line after h = (and_parts (is_skipped_line line) (list_all is_skipped_line after) h).0
silent_at (x ∷ before) line after h = silent_at before line after (and_parts (is_skipped_line x) (list_all is_skipped_line (before ++ line ∷ after)) h).1

-- two lines that say something, after lines that say nothing, are one
record SameFirst (x y : List ℕ) (b c a d : List (List ℕ)) : Type 0 where
  pub line : x ≡ y
  pub before : b ≡ c
  pub after : a ≡ d

tails : (b c : List (List ℕ)) (x y : List ℕ) (a d : List (List ℕ)) → b ≡ c → b ++ x ∷ a ≡ c ++ y ∷ d → a ≡ d
tails [] [] x y a d s e = cc
tails [] (z ∷ c) x y a d s e = absurd (cc)
tails (z ∷ b) [] x y a d s e = absurd (cc)
tails (z ∷ b) (w ∷ c) x y a d s e = tails b c x y a d (cc) (cc)

same_first : (b c : List (List ℕ)) (x y : List ℕ) (a d : List (List ℕ)) → b ++ x ∷ a ≡ c ++ y ∷ d → list_all is_skipped_line b ≡ true → list_all is_skipped_line c ≡ true → is_skipped_line x ≡ false → is_skipped_line y ≡ false → SameFirst x y b c a d
same_first b c x y a d e silent quiet said told = elim (compared b c x y a d e) [
  | inl (bs, xs) ↦ record { line = xs; before = bs; after = tails b c x y a d bs e }
  | inr (inl (m, f)) ↦ absurd (true≢false (sym (silent_at b x m (ap (list_all is_skipped_line) (sym f) ∙ quiet)) ∙ said))
  | inr (inr (m, f)) ↦ absurd (true≢false (sym (silent_at c y m (ap (list_all is_skipped_line) (sym f) ∙ silent)) ∙ told))
]

-- a word with which a line begins that says something
said_word : (word text : List ℕ) → bytes_eq word text ≡ true → (slice_index text 0 == 99) ≡ false → (slice_index word 0 == 99) ≡ false
said_word word text h other = ap (λ (w : List ℕ). slice_index w 0 == 99) ((bytes_eq-Decides word text).0 h) ∙ other

header_words : (words : List (List ℕ)) → is_header words ≡ true → is_dimacs_skipped words ≡ false
header_words [] h = absurd (false≢true h)
header_words (word ∷ []) h = absurd (false≢true h)
header_words (word ∷ (version ∷ [])) h = said_word word (codes "vsc-cert") (and_parts (bytes_eq word (codes "vsc-cert")) (bytes_eq version (codes "1")) h).0 refl
header_words (word ∷ (version ∷ (other ∷ words))) h = absurd (false≢true h)

header_said : (line : List ℕ) → is_header (words_of line) ≡ true → is_skipped_line line ≡ false
header_said line h = header_words (words_of line) h

begin_said : (line : List ℕ) (leaf : ℕ) → begun_by (words_of line) ≡ Some leaf → is_skipped_line line ≡ false
begin_said line leaf h = elim (cases_Bool (is_skipped_line line)) [
  | inl silent ↦ absurd (true≢false (sym (ap (λ (o : Option ℕ). is_some o) h) ∙ (silent_line line silent).0))
  | inr said ↦ said
]

-- the header is in one place
same_header : (text behind other : List ℕ) (line place : ℕ) → IsHeaded text behind line → IsHeaded text other place → (line ≡ place) × (lines_of behind ≡ lines_of other)
same_header text behind other line place h k =
    let s = same_first h.before k.before h.header k.header (lines_of behind) (lines_of other) (sym h.parts ∙ k.parts) h.silent k.silent (header_said h.header h.says) (header_said k.header k.says) in
    (h.counted ∙ ap (λ ls. length ls + 1) s.before ∙ sym k.counted, s.after)

-- a text with a header does not lack it
headed_lacks : (text behind : List ℕ) (line place : ℕ) (cause : CertCause) → IsHeaded text behind line → LacksHeader text cause place → ⊥
headed_lacks text behind line place cause h (told, inl k) =
    let s = same_first h.before k.before h.header k.first (lines_of behind) k.after (sym h.parts ∙ k.parts) h.silent k.silent (header_said h.header h.says) k.said in
    true≢false (sym h.says ∙ ap (λ l. is_header (words_of l)) s.line ∙ k.other)
headed_lacks text behind line place cause h (told, inr k) =
    true≢false (sym (silent_at h.before h.header (lines_of behind) (ap (list_all is_skipped_line) (sym h.parts) ∙ k.silent)) ∙ header_said h.header h.says)

lacks_once : (text : List ℕ) (c d : CertCause) (p q : ℕ) → LacksHeader text c p → LacksHeader text d q → (c ≡ d) × (p ≡ q)
lacks_once text c d p q (e, inl h) (f, inl k) =
    let s = same_first h.before k.before h.first k.first h.after k.after (sym h.parts ∙ k.parts) h.silent k.silent h.said k.said in
    (e ∙ sym f, h.counted ∙ ap (λ ls. length ls + 1) s.before ∙ sym k.counted)
lacks_once text c d p q (e, inl h) (f, inr k) = absurd (true≢false (sym (silent_at h.before h.first h.after (ap (list_all is_skipped_line) (sym h.parts) ∙ k.silent)) ∙ h.said))
lacks_once text c d p q (e, inr h) (f, inl k) = absurd (true≢false (sym (silent_at k.before k.first k.after (ap (list_all is_skipped_line) (sym k.parts) ∙ h.silent)) ∙ k.said))
lacks_once text c d p q (e, inr h) (f, inr k) = (e ∙ sym f, h.behind ∙ sym k.behind)

-- a text is seen by its lines
tree_moved : (text other : List ℕ) (tree : CubeTree) (bytes : ℕ) → lines_of other ≡ lines_of text → SpellsTree other tree bytes → SpellsTree text tree (front_bytes (length (tree_lines tree)) text)
tree_moved text other tree bytes same h = record {
  lines = ap (λ ls. map words_of (take (length (tree_lines tree)) ls)) (sym same) ∙ h.lines;
  within = h.within;
  taken = refl;
}

fault_moved : (text other : List ℕ) (cause : TreeCause) (line : ℕ) → lines_of other ≡ lines_of text → HasTreeFault other cause line → HasTreeFault text cause line
fault_moved text other cause line same (inl f) =
    inl (record { before = f.before; item = f.item; after = f.after; parts = sym same ∙ f.parts; counted = f.counted; faulty = f.faulty; first = f.first })
fault_moved text other cause line same (inr f) = inr (record {
  faultless = λ b x a e. f.faultless b x a (same ∙ e);
  due = subst (λ (ls : List (List ℕ)). IsTrue (is_some (slice_get (due_after ls) 0))) same f.due;
  bad = f.bad;
  behind = f.behind ∙ ap (λ ls. length ls + 1) same;
})

-- what two texts with the same lines spell at their front, and what is after it
record SameTree (s t : CubeTree) (rest other : List ℕ) : Type 0 where
  pub tree : s ≡ t
  pub lines : lines_of rest ≡ lines_of other

same_tree : (text other : List ℕ) (s t : CubeTree) (m n : ℕ) → lines_of text ≡ lines_of other → SpellsTree text s m → SpellsTree other t n → SameTree s t (drop m text) (drop n other)
same_tree text other s t m n same h k =
    let trees : s ≡ t = (tree.one_spelled text s t m (front_bytes (length (tree_lines t)) text) h (tree_moved text other t n (sym same) k)).0 in
    record {
      tree = trees;
      lines = (others_behind text s m h).1 ∙ (λ i. drop (length (tree_lines (trees i))) (same i)) ∙ sym (others_behind other t n k).1;
    }

-- lines of which there is a text
abbrev HaveText : List (List ℕ) → Type 0
HaveText lines = (text : List ℕ) × (lines_of text ≡ lines)

text_front : (lines others : List (List ℕ)) → HaveText (lines ++ others) → HaveText lines
text_front lines others (text, e) = (take (min (length text) (line_bytes lines)) text, front_lines lines others text e)

dropped : (lines others : List (List ℕ)) → drop (length lines) (lines ++ others) ≡ others
dropped [] others = refl
dropped (line ∷ lines) others = dropped lines others

text_back : (lines others : List (List ℕ)) → HaveText (lines ++ others) → HaveText others
text_back lines others (text, e) = (drop (front_bytes (length lines) text) text, lines_behind (length lines) text ∙ ap (drop (length lines)) e ∙ dropped lines others)

text_rest : (line : List ℕ) (others : List (List ℕ)) → HaveText (line ∷ others) → HaveText others
text_rest line others h = text_back (line ∷ []) others h

-- the lines of a derivation
steps_text : (lines : List (List ℕ)) (steps : List Step) (text : List ℕ) → lines_of text ≡ lines → AreStepLines lines steps → SpellsDerivation text steps
steps_text lines steps text e h = subst (λ (ls : List (List ℕ)). AreStepLines ls steps) (sym e) h

steps_clear : (lines : List (List ℕ)) (steps : List Step) → HaveText lines → AreStepLines lines steps → IsFaultless line_fault lines
steps_clear lines steps (text, e) h = subst (λ (ls : List (List ℕ)). IsFaultless line_fault ls) e (spelled_clear text steps (steps_text lines steps text e h))

one_derivation : (lines : List (List ℕ)) (m n : List Step) → HaveText lines → AreStepLines lines m → AreStepLines lines n → m ≡ n
one_derivation lines m n (text, e) h k = lrat.one_spelled text m n (steps_text lines m text e h) (steps_text lines n text e k)

-- a line that ends a section is no line of a derivation
end_words : (words : List (List ℕ)) → is_end words ≡ true → words ≡ codes "end" ∷ []
end_words [] h = absurd (false≢true h)
end_words (word ∷ []) h = ap (λ (w : List ℕ). w ∷ []) ((bytes_eq-Decides word (codes "end")).0 h)
end_words (word ∷ (other ∷ words)) h = absurd (false≢true h)

end_faulty : (line : List ℕ) → ends line ≡ true → line_fault [] line ≡ Some BadNumber
end_faulty line h = ap (λ (ws : List (List ℕ)). cond (is_dimacs_skipped ws) None (words_fault ws)) (end_words (words_of line) h)

none_ends : (lines : List (List ℕ)) → IsFaultless line_fault lines → list_any ends lines ≡ false
none_ends [] h = refl
none_ends (line ∷ lines) h = or_from (ends line) (list_any ends lines)
    (elim (cases_Bool (ends line)) [
      | inl last ↦ absurd (none_is_some BadNumber (sym (h [] line lines refl) ∙ end_faulty line last))
      | inr other ↦ other
    ])
    (none_ends lines (λ b x a e. h (line ∷ b) x a (ap (λ l. line ∷ l) e)))

-- two lines that end a section, after lines that do not, are one
none_at : (before : List (List ℕ)) (line : List ℕ) (after : List (List ℕ)) → list_any ends (before ++ line ∷ after) ≡ false → ends line ≡ false
none_at [] line after h = (or_parts (ends line) (list_any ends after) h).0
none_at (x ∷ before) line after h = none_at before line after (or_parts (ends x) (list_any ends (before ++ line ∷ after)) h).1

same_end : (b c : List (List ℕ)) (x y : List ℕ) (a d : List (List ℕ)) → b ++ x ∷ a ≡ c ++ y ∷ d → list_any ends b ≡ false → list_any ends c ≡ false → ends x ≡ true → ends y ≡ true → SameFirst x y b c a d
same_end b c x y a d e none nothing last final = elim (compared b c x y a d e) [
  | inl (bs, xs) ↦ record { line = xs; before = bs; after = tails b c x y a d bs e }
  | inr (inl (m, f)) ↦ absurd (true≢false (sym last ∙ none_at b x m (ap (list_any ends) (sym f) ∙ nothing)))
  | inr (inr (m, f)) ↦ absurd (true≢false (sym final ∙ none_at c y m (ap (list_any ends) (sym f) ∙ none)))
]

-- the texts of a section's lines
record SectionTexts (lines : List (List ℕ)) (section : Section) (behind : List (List ℕ)) (b : BeginWithSection lines section behind) : Type 0 where
  pub steps : HaveText b.steps
  pub others : HaveText behind

section_texts : (lines : List (List ℕ)) (section : Section) (behind : List (List ℕ)) (b : BeginWithSection lines section behind) → HaveText lines → SectionTexts lines section behind b
section_texts lines section behind b h =
    let all = text_rest b.first (b.steps ++ b.last ∷ behind) (text_back b.before (b.first ∷ (b.steps ++ b.last ∷ behind)) (subst HaveText b.parts h)) in
    record { steps = text_front b.steps (b.last ∷ behind) all; others = text_rest b.last behind (text_back b.steps (b.last ∷ behind) all) }

section_clear : (lines : List (List ℕ)) (section : Section) (behind : List (List ℕ)) (b : BeginWithSection lines section behind) → HaveText lines → IsFaultless line_fault b.steps
section_clear lines section behind b h = steps_clear b.steps section.derivation (section_texts lines section behind b h).steps b.derivation

-- lines are the sections of one list at most
one_list : (lines : List (List ℕ)) (ss ts : List Section) → HaveText lines → AreSections lines ss → AreSections lines ts → ss ≡ ts
one_list lines [] [] text h k = refl
one_list lines [] (t ∷ ts) text h (behind, c, later) =
    absurd (true≢false (sym (silent_at c.before c.first (c.steps ++ c.last ∷ behind) (ap (list_all is_skipped_line) (sym c.parts) ∙ h)) ∙ begin_said c.first t.leaf c.begins))
one_list lines (s ∷ ss) [] text (behind, b, later) k =
    absurd (true≢false (sym (silent_at b.before b.first (b.steps ++ b.last ∷ behind) (ap (list_all is_skipped_line) (sym b.parts) ∙ k)) ∙ begin_said b.first s.leaf b.begins))
one_list lines (s ∷ ss) (t ∷ ts) text (rest, b, later) (others, c, further) =
    let first = same_first b.before c.before b.first c.first (b.steps ++ b.last ∷ rest) (c.steps ++ c.last ∷ others) (sym b.parts ∙ c.parts) b.silent c.silent (begin_said b.first s.leaf b.begins) (begin_said c.first t.leaf c.begins) in
    let last = same_end b.steps c.steps b.last c.last rest others first.after (none_ends b.steps (section_clear lines s rest b text)) (none_ends c.steps (section_clear lines t others c text)) b.ends c.ends in
    let texts = section_texts lines s rest b text in
    let both : Some s.leaf ≡ Some t.leaf = sym b.begins ∙ ap (λ (l : List ℕ). begun_by (words_of l)) first.line ∙ c.begins in
    let number : s.leaf ≡ t.leaf = cc both in
    let steps = one_derivation b.steps s.derivation t.derivation texts.steps b.derivation (subst (λ (ls : List (List ℕ)). AreStepLines ls t.derivation) (sym last.before) c.derivation) in
    let more = one_list rest ss ts texts.others later (subst (λ (ls : List (List ℕ)). AreSections ls ts) (sym last.after) further) in
    λ i. record { leaf = number i; derivation = steps i } ∷ more i

-- lines of sections have no fault
closed_silent : (done lines : List (List ℕ)) → AreClosed done → list_all is_skipped_line lines ≡ true → AreClosed (done ++ lines)
closed_silent done [] h silent = subst AreClosed (sym (append-nil done)) h
closed_silent done (line ∷ lines) h silent =
    let parts = and_parts (is_skipped_line line) (list_all is_skipped_line lines) silent in
    subst AreClosed (append_assoc done (line ∷ []) lines) (closed_silent (done ++ line ∷ []) lines (push_silent done line h parts.0) parts.1)

closed_join : (done lines : List (List ℕ)) → AreClosed done → AreClosed lines → AreClosed (done ++ lines)
closed_join done lines h k = record {
  faultless = faultless_join done lines h.closed h.faultless k.faultless;
  closed = open_append false done lines ∙ ap (λ (o : Bool). is_open_behind o lines) h.closed ∙ k.closed;
}

closed_of : (lines : List (List ℕ)) (ss : List Section) → HaveText lines → AreSections lines ss → AreClosed lines
closed_of lines [] text h = closed_silent [] lines no_lines h
closed_of lines (s ∷ ss) text (behind, b, later) =
    let clear = section_clear lines s behind b text in
    let front : AreClosed b.before = closed_silent [] b.before no_lines b.silent in
    let inside : AreOpen ((b.before ++ b.first ∷ []) ++ b.steps) = push_inside (b.before ++ b.first ∷ []) b.steps (push_begin b.before b.first s.leaf front b.begins) (none_ends b.steps clear) clear in
    let section : AreClosed (((b.before ++ b.first ∷ []) ++ b.steps) ++ b.last ∷ []) = push_end ((b.before ++ b.first ∷ []) ++ b.steps) b.last inside b.ends in
    let all : (((b.before ++ b.first ∷ []) ++ b.steps) ++ b.last ∷ []) ++ behind ≡ lines =
    append_assoc ((b.before ++ b.first ∷ []) ++ b.steps) (b.last ∷ []) behind ∙ append_assoc (b.before ++ b.first ∷ []) b.steps (b.last ∷ behind)
    ∙ append_assoc b.before (b.first ∷ []) (b.steps ++ b.last ∷ behind) ∙ sym b.parts in
    subst AreClosed all (closed_join (((b.before ++ b.first ∷ []) ++ b.steps) ++ b.last ∷ []) behind section (closed_of behind ss (section_texts lines s behind b text).others later))

section_never_both : (lines : List (List ℕ)) (ss : List Section) (cause : CertCause) (place : ℕ) → HaveText lines → AreSections lines ss → HasSectionFault lines cause place → ⊥
section_never_both lines ss cause place text h (inl f) = none_is_some cause (sym ((closed_of lines ss text h).faultless f.before f.item f.after f.parts) ∙ f.faulty)
section_never_both lines ss cause place text h (inr f) = true≢false (sym f.left_open ∙ (closed_of lines ss text h).closed)

one_section_fault : (lines : List (List ℕ)) (c d : CertCause) (p q : ℕ) → HasSectionFault lines c p → HasSectionFault lines d q → (c ≡ d) × (p ≡ q)
one_section_fault lines c d p q (inl f) (inl g) = (let same = one_first section_line_fault lines p q c d f g in (same.1, same.0))
one_section_fault lines c d p q (inl f) (inr g) = absurd (none_is_some c (sym (g.faultless f.before f.item f.after f.parts) ∙ f.faulty))
one_section_fault lines c d p q (inr f) (inl g) = absurd (none_is_some d (sym (f.faultless g.before g.item g.after g.parts) ∙ g.faulty))
one_section_fault lines c d p q (inr f) (inr g) = (f.bad ∙ sym g.bad, f.behind ∙ sym g.behind)

-- the laws
pub one_spelled : (text : List ℕ) (c d : Certificate) → SpellsCertificate text c → SpellsCertificate text d → c ≡ d
one_spelled text c d h k =
    let headed = same_header text h.behind k.behind h.line k.line h.headed k.headed in
    let same = same_tree h.behind k.behind c.tree d.tree h.bytes k.bytes headed.1 h.tree k.tree in
    let sections = one_list (lines_of (drop h.bytes h.behind)) c.sections d.sections (drop h.bytes h.behind, refl) h.sections (subst (λ (ls : List (List ℕ)). AreSections ls d.sections) (sym same.lines) k.sections) in
    λ i. record { tree = same.tree i; sections = sections i }

pub never_both : (text : List ℕ) (certificate : Certificate) (cause : CertCause) (line : ℕ) → SpellsCertificate text certificate → HasCertFault text cause line → ⊥
never_both text certificate cause line h (inl f) = headed_lacks text h.behind h.line line cause h.headed f
never_both text certificate cause line h (inr (inl f)) =
    let headed = same_header text h.behind f.behind h.line f.header h.headed f.headed in
    tree.never_both h.behind certificate.tree h.bytes f.tree_cause f.place h.tree (fault_moved h.behind f.behind f.tree_cause f.place (sym headed.1) f.fault)
never_both text certificate cause line h (inr (inr f)) =
    let headed = same_header text h.behind f.behind h.line f.header h.headed f.headed in
    let same = same_tree h.behind f.behind certificate.tree f.tree h.bytes f.bytes headed.1 h.tree f.spelled in
    section_never_both (lines_of (drop h.bytes h.behind)) certificate.sections cause f.place (drop h.bytes h.behind, refl) h.sections
    (subst (λ (ls : List (List ℕ)). HasSectionFault ls cause f.place) (sym same.lines) f.fault)

pub one_refused : (text : List ℕ) (c d : CertCause) (p q : ℕ) → HasCertFault text c p → HasCertFault text d q → (c ≡ d) × (p ≡ q)
one_refused text c d p q (inl f) (inl g) = lacks_once text c d p q f g
one_refused text c d p q (inl f) (inr (inl g)) = absurd (headed_lacks text g.behind g.header p c g.headed f)
one_refused text c d p q (inl f) (inr (inr g)) = absurd (headed_lacks text g.behind g.header p c g.headed f)
one_refused text c d p q (inr (inl f)) (inl g) = absurd (headed_lacks text f.behind f.header q d f.headed g)
one_refused text c d p q (inr (inr f)) (inl g) = absurd (headed_lacks text f.behind f.header q d f.headed g)
one_refused text c d p q (inr (inl f)) (inr (inl g)) =
    let headed = same_header text f.behind g.behind f.header g.header f.headed g.headed in
    let same = tree.one_refused f.behind f.tree_cause g.tree_cause f.place g.place f.fault (fault_moved f.behind g.behind g.tree_cause g.place (sym headed.1) g.fault) in
    (f.told ∙ ap of_tree same.0 ∙ sym g.told, f.counted ∙ (λ i. headed.0 i + same.1 i) ∙ sym g.counted)
one_refused text c d p q (inr (inl f)) (inr (inr g)) =
    let headed = same_header text f.behind g.behind f.header g.header f.headed g.headed in
    absurd (tree.never_both g.behind g.tree g.bytes f.tree_cause f.place g.spelled (fault_moved g.behind f.behind f.tree_cause f.place headed.1 f.fault))
one_refused text c d p q (inr (inr f)) (inr (inl g)) =
    let headed = same_header text f.behind g.behind f.header g.header f.headed g.headed in
    absurd (tree.never_both f.behind f.tree f.bytes g.tree_cause g.place f.spelled (fault_moved f.behind g.behind g.tree_cause g.place (sym headed.1) g.fault))
one_refused text c d p q (inr (inr f)) (inr (inr g)) =
    let headed = same_header text f.behind g.behind f.header g.header f.headed g.headed in
    let same = same_tree f.behind g.behind f.tree g.tree f.bytes g.bytes headed.1 f.spelled g.spelled in
    let fault = one_section_fault (lines_of (drop f.bytes f.behind)) c d f.place g.place f.fault (subst (λ (ls : List (List ℕ)). HasSectionFault ls d g.place) (sym same.lines) g.fault) in
    (fault.0, f.counted ∙ (λ i. (headed.0 i + length (tree_lines (same.tree i))) + fault.1 i) ∙ sym g.counted)
