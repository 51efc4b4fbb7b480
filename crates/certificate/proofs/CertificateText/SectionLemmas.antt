-- The lines after a tree.
use Rattle.std.proofs.Common.{◌≡◌, ◌⊎◌, ℕ, ◌+◌, List, [], ◌∷◌, ◌++◌, length, Bool, true, false, not, cond, refl, ap, sym, ◌∙◌, subst, inl, inr, arith, append_assoc, append-nil, length-append}
use Rattle.std.specs.Prelude.{Option, Some, None, is_some, ◌==◌, codes, slice_index}
use Rattle.std.specs.List.{list_any, list_all}
use Rattle.std.specs.Option.{option_map}
use Rattle.std.specs.Str.{bytes_eq}
use Rattle.std.proofs.lemmas.Bool.{or_parts, and_from, cond-true, cond-false, true≢false}
use Rattle.std.proofs.lemmas.Slice.Eq.{bytes_eq-Decides}
use Rattle.text_lines.specs.FirstFault.{IsFaultless}
use Rattle.text_lines.specs.Kept.{is_dimacs_skipped}
use Rattle.text_lines.specs.Lines.{lines_of}
use Rattle.text_lines.specs.Numbers.{plain_number_up_to}
use Rattle.text_lines.specs.Words.{words_of}
use Rattle.text_lines.proofs.FaultLemmas.{faultless_push, faultless_nil, either}
use Rattle.lrat_check.specs.LratFaults.{line_fault}
use Rattle.lrat_check.specs.LratText.{SpellsDerivation}
use Rattle.lrat_check.specs.declared.lrat_fault.LratCause.{LratCause}
use Rattle.lrat_check.specs.declared.derivation.Step.{Step}
use Rattle.lrat_check.proofs.DerivationText.LratLawLemmas.{never_both}
use Rattle.certificate.specs.CertFaults.{is_open_behind, fault_inside, fault_outside, section_line_fault, HasSectionFault}
use Rattle.certificate.specs.CertLine.{most_number, is_skipped_line, begun_by, is_end}
use Rattle.certificate.specs.CertRead.{ends}
use Rattle.certificate.specs.CertText.{AreSections}
use Rattle.certificate.specs.declared.cert_fault.CertCause.{CertCause}
use Rattle.certificate.specs.declared.cert_fault.CertCause.TheVariants.{BadLine, BadLrat}
use Rattle.certificate.specs.declared.certificate.Section.{Section}

-- an element of two lists is one of the first or one of the second
pub picked : {A : Type 0} (done rest b : List A) (x : A) (a : List A) → done ++ rest ≡ b ++ x ∷ a → ((m : List A) × (done ≡ b ++ x ∷ m)) ⊎ ((m : List A) × (b ≡ done ++ m) × (rest ≡ m ++ x ∷ a))
picked [] rest b x a e = inr (b, refl, e)
picked (d ∷ done) rest [] x a e = inl (done, (let same : d ≡ x = cc in ap (λ y. y ∷ done) same))
picked (d ∷ done) rest (y ∷ b) x a e =
    let heads : d ≡ y = cc in
    let tails : done ++ rest ≡ b ++ x ∷ a = cc in
    elim (picked done rest b x a tails) [
      | inl (m, f) ↦ inl (m, (λ i. heads i ∷ f i))
      | inr (m, f, g) ↦ inr (m, (λ i. sym heads i ∷ f i), g)
    ]

-- a section that is open after two lists of lines
pub open_append : (open_before : Bool) (xs ys : List (List ℕ)) → is_open_behind open_before (xs ++ ys) ≡ is_open_behind (is_open_behind open_before xs) ys
open_append b [] ys = refl
open_append b (x ∷ xs) ys = open_append (cond b (not (is_end (words_of x))) (is_some (begun_by (words_of x)))) xs ys

-- where no section is open, earlier lines say nothing of a line
pub fault_shift : (done b : List (List ℕ)) (x : List ℕ) → is_open_behind false done ≡ false → section_line_fault (done ++ b) x ≡ section_line_fault b x
fault_shift done b x closed = ap (λ (o : Bool). cond o (fault_inside x) (fault_outside x)) (open_append false done b ∙ ap (λ (o : Bool). is_open_behind o b) closed)

pub faultless_join : (done rest : List (List ℕ)) → is_open_behind false done ≡ false → IsFaultless section_line_fault done → IsFaultless section_line_fault rest → IsFaultless section_line_fault (done ++ rest)
faultless_join done rest closed h k b x a e = elim (picked done rest b x a e) [
  | inl (m, f) ↦ h b x m f
  | inr (m, f, g) ↦ ap (λ (l : List (List ℕ)). section_line_fault l x) f ∙ fault_shift done m x closed ∙ k m x a g
]

-- a fault of the lines after these is one of all
pub fault_behind : (done rest : List (List ℕ)) (cause : CertCause) (place : ℕ) → is_open_behind false done ≡ false → IsFaultless section_line_fault done →
    HasSectionFault rest cause place → HasSectionFault (done ++ rest) cause (length done + place)
fault_behind done rest cause place closed h (inl f) = inl (record {
  before = done ++ f.before;
  item = f.item;
  after = f.after;
  parts = ap (λ l. done ++ l) f.parts ∙ sym (append_assoc done f.before (f.item ∷ f.after));
  counted = omega (arith, f.counted, length-append done f.before);
  faulty = fault_shift done f.before f.item closed ∙ f.faulty;
  first = faultless_join done f.before closed h f.first;
})
fault_behind done rest cause place closed h (inr f) = inr (record {
  faultless = faultless_join done rest closed h f.faultless;
  left_open = open_append false done rest ∙ ap (λ (o : Bool). is_open_behind o rest) closed ∙ f.left_open;
  bad = f.bad;
  behind = omega (arith, f.behind, length-append done rest);
})

-- a word that begins with c is another one
other_word : (word text : List ℕ) (b : Bool) → bytes_eq word text ≡ b → (slice_index text 0 == 99) ≡ false → (slice_index word 0 == 99) ≡ true → bytes_eq word text ≡ false
other_word word text false e h k = e
other_word word text true e h k =
    let same : word ≡ text = (bytes_eq-Decides word text).0 e in
    absurd (true≢false (sym k ∙ ap (λ (w : List ℕ). slice_index w 0 == 99) same ∙ h))

silent_words : (words : List (List ℕ)) → is_dimacs_skipped words ≡ true → (begun_by words ≡ None) × (is_end words ≡ false)
silent_words [] h = (refl, refl)
silent_words (word ∷ []) h = (refl, other_word word (codes "end") (bytes_eq word (codes "end")) refl refl h)
silent_words (word ∷ (number ∷ [])) h =
    (ap (λ (b : Bool). cond b (plain_number_up_to most_number number) None) (other_word word (codes "proof") (bytes_eq word (codes "proof")) refl refl h), refl)
silent_words (word ∷ (number ∷ (other ∷ words))) h = (refl, refl)

-- a line that says nothing begins and ends no section
pub silent_line : (line : List ℕ) → is_skipped_line line ≡ true → (is_some (begun_by (words_of line)) ≡ false) × (ends line ≡ false)
silent_line line h = let (first, last) = silent_words (words_of line) h in (ap (λ (o : Option ℕ). is_some o) first, last)

begins_clear : (line : List ℕ) (b : Bool) → is_some (begun_by (words_of line)) ≡ true → cond b None (cond (is_some (begun_by (words_of line))) None (Some BadLine)) ≡ None
begins_clear line true h = refl
begins_clear line false h = cond-true (is_some (begun_by (words_of line))) None (Some BadLine) h

-- lines that are read, where no section is open after them
pub record AreClosed (lines : List (List ℕ)) : Type 0 where
  pub faultless : IsFaultless section_line_fault lines
  pub closed : is_open_behind false lines ≡ false

-- and where one is
pub record AreOpen (lines : List (List ℕ)) : Type 0 where
  pub faultless : IsFaultless section_line_fault lines
  pub opened : is_open_behind false lines ≡ true

pub no_lines : AreClosed []
no_lines = record { faultless = faultless_nil section_line_fault; closed = refl }

fault_at : (lines : List (List ℕ)) (line : List ℕ) (b : Bool) → is_open_behind false lines ≡ b → section_line_fault lines line ≡ cond b (fault_inside line) (fault_outside line)
fault_at lines line b h = ap (λ (o : Bool). cond o (fault_inside line) (fault_outside line)) h

open_push : (lines : List (List ℕ)) (line : List ℕ) (b : Bool) → is_open_behind false lines ≡ b → is_open_behind false (lines ++ line ∷ []) ≡ cond b (not (ends line)) (is_some (begun_by (words_of line)))
open_push lines line b h = open_append false lines (line ∷ []) ∙ ap (λ (o : Bool). cond o (not (ends line)) (is_some (begun_by (words_of line)))) h

pub push_silent : (lines : List (List ℕ)) (line : List ℕ) → AreClosed lines → is_skipped_line line ≡ true → AreClosed (lines ++ line ∷ [])
push_silent lines line h silent = record {
  faultless = faultless_push section_line_fault lines line h.faultless (fault_at lines line false h.closed ∙ cond-true (is_skipped_line line) None _ silent);
  closed = open_push lines line false h.closed ∙ (silent_line line silent).0;
}

pub push_begin : (lines : List (List ℕ)) (line : List ℕ) (leaf : ℕ) → AreClosed lines → begun_by (words_of line) ≡ Some leaf → AreOpen (lines ++ line ∷ [])
push_begin lines line leaf h begins =
    let some : is_some (begun_by (words_of line)) ≡ true = ap (λ (o : Option ℕ). is_some o) begins in
    record {
      faultless = faultless_push section_line_fault lines line h.faultless (fault_at lines line false h.closed ∙ begins_clear line (is_skipped_line line) some);
      opened = open_push lines line false h.closed ∙ some;
    }

pub push_end : (lines : List (List ℕ)) (line : List ℕ) → AreOpen lines → ends line ≡ true → AreClosed (lines ++ line ∷ [])
push_end lines line h last = record {
  faultless = faultless_push section_line_fault lines line h.faultless (fault_at lines line true h.opened ∙ cond-true (ends line) None _ last);
  closed = open_push lines line true h.opened ∙ ap (λ (b : Bool). not b) last;
}

pub push_inside : (lines steps : List (List ℕ)) → AreOpen lines → list_any ends steps ≡ false → IsFaultless line_fault steps → AreOpen (lines ++ steps)
push_inside lines [] h none clear = subst AreOpen (sym (append-nil lines)) h
push_inside lines (step ∷ steps) h none clear =
    let parts = or_parts (ends step) (list_any ends steps) none in
    let here : line_fault [] step ≡ None = clear [] step steps refl in
    let next : AreOpen (lines ++ step ∷ []) = record {
      faultless = faultless_push section_line_fault lines step h.faultless
          (fault_at lines step true h.opened ∙ cond-false (ends step) None _ parts.0 ∙ ap (option_map (λ (c : LratCause). BadLrat)) here);
      opened = open_push lines step true h.opened ∙ ap (λ (b : Bool). not b) parts.0;
    } in
    subst AreOpen (append_assoc lines (step ∷ []) steps) (push_inside (lines ++ step ∷ []) steps next parts.1 (λ b x a e. clear (step ∷ b) x a (ap (λ l. step ∷ l) e)))

-- the lines of a derivation have no fault
pub spelled_clear : (text : List ℕ) (steps : List Step) → SpellsDerivation text steps → IsFaultless line_fault (lines_of text)
spelled_clear text steps h = elim (either line_fault (lines_of text)) [
  | inl clear ↦ clear
  | inr (place, cause, fault) ↦ absurd (never_both text steps cause place h fault)
]

-- the fault of a line in an open section
pub fault_in_section : (lines : List (List ℕ)) (line : List ℕ) (cause : LratCause) → AreOpen lines → ends line ≡ false → line_fault [] line ≡ Some cause → section_line_fault lines line ≡ Some BadLrat
fault_in_section lines line cause h none faulty =
    fault_at lines line true h.opened ∙ cond-false (ends line) None _ none ∙ ap (option_map (λ (c : LratCause). BadLrat)) faulty

-- the fault of a line outside of sections
pub fault_between : (lines : List (List ℕ)) (line : List ℕ) → AreClosed lines → is_skipped_line line ≡ false → begun_by (words_of line) ≡ None → section_line_fault lines line ≡ Some BadLine
fault_between lines line h said none =
    fault_at lines line false h.closed ∙ cond-false (is_skipped_line line) None _ said ∙ ap (λ (o : Option ℕ). cond (is_some o) None (Some BadLine)) none

-- sections after a line that says nothing
pub silent_first : (line : List ℕ) (lines : List (List ℕ)) (sections : List Section) → is_skipped_line line ≡ true → AreSections lines sections → AreSections (line ∷ lines) sections
silent_first line lines [] silent h = and_from (is_skipped_line line) (list_all is_skipped_line lines) silent h
silent_first line lines (section ∷ sections) silent (behind, first, others) = (
  behind,
  record {
    before = line ∷ first.before;
    first = first.first;
    steps = first.steps;
    last = first.last;
    parts = ap (λ l. line ∷ l) first.parts;
    silent = and_from (is_skipped_line line) (list_all is_skipped_line first.before) silent first.silent;
    begins = first.begins;
    derivation = first.derivation;
    ends = first.ends;
  },
  others,
)
