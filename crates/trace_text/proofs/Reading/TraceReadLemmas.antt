-- A text without a fault spells a trace.
use Rattle.std.proofs.Common.{◌≡◌, ◌⊎◌, ℕ, ◌+◌, List, [], ◌∷◌, ◌++◌, length, Bool, true, false, ◌||◌, refl, inl, inr, ap, sym, ◌∙◌, subst, append-nil, append_assoc}
use Rattle.std.specs.Prelude.{Option, Some, None, if◌then◌else◌}
use Rattle.std.specs.Cmp.Lexicographic.{pointwise}
use Rattle.std.specs.List.{list_any}
use Rattle.std.specs.Str.{bytes_eq}
use Rattle.std.proofs.lemmas.Bool.{cases_Bool, or_cases}
use Rattle.std.proofs.lemmas.List.{map-append}
use Rattle.text_lines.specs.FirstFault.{IsFaultless}
use Rattle.text_lines.specs.Lines.{lines_of}
use Rattle.text_lines.specs.Words.{words_of}
use Rattle.text_lines.proofs.FaultLemmas.{either, faultless_nil, faultless_push}
use Rattle.trace_text.specs.declared.trace_fault.TraceCause.{TraceCause}
use Rattle.trace_text.specs.declared.trace_fault.TraceCause.TheVariants.{NotAscii, Header}
use Rattle.text_lines.specs.Kept.{kept, is_skipped}
use Rattle.trace_text.specs.Read.{saying, AreSaid}
use Rattle.trace_text.specs.Statement.{Statement, statement_of, words_for}
use Rattle.trace_semantics.specs.Trace.{TraceValue, IsTrace}
use Rattle.trace_text.specs.TraceFault.{is_header, is_high, said_fault, statement_fault, words_fault, trace_line_fault, line_reference_fault, HasTraceFault}
use Rattle.trace_text.specs.TraceText.{SpellsTrace, header_line}
use Rattle.trace_text.proofs.Reading.ArrangedLemmas.{trace_arranged, spells_arranged}
use Rattle.trace_text.proofs.Reading.GatherLemmas.{gather}
use Rattle.trace_text.proofs.LineWords.KnownLemmas.{same_fault}
use Rattle.trace_text.proofs.LineWords.LineLemmas.{kept_more, fault_said, pointwise_pair}
use Rattle.trace_text.proofs.LineWords.SaidLemmas.{words_said}
use Rattle.trace_text.proofs.InOrder.SortLemmas.{in_order, arranged}
use Rattle.trace_semantics.specs.declared.limits.Limits.{Limits}
use Rattle.trace_text.specs.declared.version.Version.{Version}
use Rattle.trace_text.specs.declared.version.Version.TheVariants.{One, Two, Three}
use Rattle.trace_text.specs.Version.{limits_of}

-- no line says anything yet, or the lines are a header and statements
abbrev IsReadSoFar : List (List ℕ) → Type 0
IsReadSoFar lines = (kept lines ≡ []) ⊎ ((version : Version) × (ss : List Statement) × AreSaid version lines ss)

chosen : (b : Bool) → (if b then None else Some Header) ≡ None → b ≡ true
chosen true h = refl
chosen false h = absurd (cc)

header_of : (version : Version) (done : List (List ℕ)) (line : List ℕ) → kept done ≡ [] → is_skipped (words_of line) ≡ false → pointwise bytes_eq (words_of line) (header_line version) ≡ true → AreSaid version (done ++ line ∷ []) []
header_of version done line none says same = record {
  kept_lines = kept_more done line false says ∙ (λ i. none i ++ pointwise_pair (words_of line) (header_line version) same i ∷ []);
  said = refl;
  faultless = faultless_nil (statement_fault (limits_of version));
}

header_said : (done : List (List ℕ)) (line : List ℕ) → kept done ≡ [] → is_skipped (words_of line) ≡ false → words_fault (kept done) (words_of line) ≡ None → (version : Version) × AreSaid version (done ++ line ∷ []) []
header_said done line none says clear =
    let passes : is_header (words_of line) ≡ true = chosen (is_header (words_of line)) (ap (λ k. words_fault k (words_of line)) (sym none) ∙ clear) in
    let same : Version → Bool = λ version. pointwise bytes_eq (words_of line) (header_line version) in
    elim (or_cases (same One) (same Two || same Three) passes) [
      | inl first ↦ (One, header_of One done line none says first)
      | inr more ↦ elim (or_cases (same Two) (same Three) more) [
        | inl second ↦ (Two, header_of Two done line none says second)
        | inr third ↦ (Three, header_of Three done line none says third)
      ]
    ]

some_said : (limits : Limits) (ss : List Statement) (o : Option Statement) → said_fault limits ss o ≡ None → (s : Statement) × (o ≡ Some s) × (statement_fault limits ss s ≡ None)
some_said limits ss None h = absurd (cc)
some_said limits ss (Some s) h = (s, refl, h)

one_said : (version : Version) (done : List (List ℕ)) (ss : List Statement) (line : List ℕ) → AreSaid version done ss → is_skipped (words_of line) ≡ false → words_fault (kept done) (words_of line) ≡ None → (new : List Statement) × AreSaid version (done ++ line ∷ []) new
one_said version done ss line a says clear =
    let at = some_said (limits_of version) ss (statement_of version (words_of line)) (sym (fault_said version done ss (words_of line) a) ∙ clear) in
    let words : words_of line ≡ words_for at.0 = words_said version (words_of line) at.0 at.1 in (
      ss ++ at.0 ∷ [],
      record {
        kept_lines = kept_more done line false says ∙ (λ i. a.kept_lines i ++ words i ∷ []) ∙ ap (λ l. header_line version ∷ l) (sym (map-append words_for ss (at.0 ∷ [])));
        said = map-append (saying version) ss (at.0 ∷ []) ∙ (λ i. a.said i ++ (ap (statement_of version) (sym words) ∙ at.1) i ∷ []) ∙ sym (map-append Some ss (at.0 ∷ []));
        faultless = faultless_push (statement_fault (limits_of version)) ss at.0 a.faultless at.2;
      },
    )

-- a kept line without a fault has words without one
words_clear : (b c : Bool) (o : Option TraceCause) → b ≡ false → (if b then None else if c then Some NotAscii else o) ≡ None → o ≡ None
words_clear true c o h clear = absurd (cc)
words_clear false true o h clear = absurd (cc)
words_clear false false o h clear = clear

one_line : (done : List (List ℕ)) (line : List ℕ) → IsReadSoFar done → trace_line_fault done line ≡ None → IsReadSoFar (done ++ line ∷ [])
one_line done line h clear = elim (cases_Bool (is_skipped (words_of line))) [
  | inl skipped ↦ elim h [
    | inl none ↦ inl (kept_more done line true skipped ∙ append-nil (kept done) ∙ none)
    | inr (version, ss, a) ↦ inr (version, ss, record { kept_lines = kept_more done line true skipped ∙ append-nil (kept done) ∙ a.kept_lines; said = a.said; faultless = a.faultless })
  ]
  | inr says ↦ (
      let fine = words_clear (is_skipped (words_of line)) (list_any is_high line) (words_fault (kept done) (words_of line)) says clear in
      elim h [
        | inl none ↦ (let header = header_said done line none says fine in inr (header.0, [], header.1))
        | inr (version, ss, a) ↦ (let more = one_said version done ss line a says fine in inr (version, more.0, more.1))
      ])
]

read_lines : (lines done : List (List ℕ)) → IsReadSoFar done → IsFaultless trace_line_fault (done ++ lines) → IsReadSoFar (done ++ lines)
read_lines [] done h clear = subst (λ (l : List (List ℕ)). IsReadSoFar l) (sym (append-nil done)) h
read_lines (line ∷ lines) done h clear =
    let joined : (done ++ line ∷ []) ++ lines ≡ done ++ line ∷ lines = append_assoc done (line ∷ []) lines in
    subst (λ (l : List (List ℕ)). IsReadSoFar l) joined
    (read_lines lines (done ++ line ∷ []) (one_line done line h (clear done line lines refl)) (subst (λ (l : List (List ℕ)). IsFaultless trace_line_fault l) (sym joined) clear))

abbrev IsEither : List ℕ → Type 0
IsEither text = ((t : TraceValue) × IsTrace t × SpellsTrace text t) ⊎ ((cause : TraceCause) × (line : ℕ) × HasTraceFault text cause line)

-- lines that say statements without a fault spell a trace, or name an operation wrongly
by_references : (text : List ℕ) (version : Version) (ss : List Statement) → IsFaultless trace_line_fault (lines_of text) → AreSaid version (lines_of text) ss → IsEither text
by_references text version ss clear a =
    let g = gather (limits_of version) ss a.faultless in
    let order = arranged g.value in
    elim (either (λ (before : List (List ℕ)) (here : List ℕ). line_reference_fault (kept (lines_of text)) here) (lines_of text)) [
      | inr (place, found, h) ↦ inr (found, place, inr (inr (record { faultless = clear; found = h })))
      | inl known ↦ (
          let fine = λ (before : List (List ℕ)) (line : List ℕ) (after : List (List ℕ)) (e : lines_of text ≡ before ++ line ∷ after). sym (same_fault version (lines_of text) ss g.value.processes line a g.gathered.processes) ∙ known before line after e in
          inl (in_order g.value, trace_arranged version (lines_of text) ss g.value (in_order g.value) a g.gathered order fine, spells_arranged version text ss g.value (in_order g.value) a g.gathered order fine))
    ]

pub spelled_or_refused : (text : List ℕ) → IsEither text
spelled_or_refused text = elim (either trace_line_fault (lines_of text)) [
  | inr (place, found, h) ↦ inr (found, place, inl h)
  | inl clear ↦ elim (read_lines (lines_of text) [] (inl refl) clear) [
    | inl none ↦ inr (Header, length (lines_of text) + 1, inr (inl (record { faultless = clear; empty = none }, refl, refl)))
    | inr (version, ss, a) ↦ by_references text version ss clear a
  ]
]
