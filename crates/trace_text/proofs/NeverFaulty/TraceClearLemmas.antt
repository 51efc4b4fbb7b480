-- A text that spells a trace has no fault.
use Rattle.std.proofs.Common.{◌≡◌, ℕ, List, [], ◌∷◌, ◌++◌, map, false, refl, inl, inr, ap, sym, ◌∙◌, subst}
use Rattle.std.specs.Prelude.{Some, None, if◌then◌else◌}
use Rattle.std.specs.List.{Contains}
use Rattle.std.proofs.lemmas.Bool.{cases_Bool, cond-true}
use Rattle.std.proofs.lemmas.List.Elements.{Contains-append_left}
use Rattle.text_lines.specs.FirstFault.{IsFaultless}
use Rattle.text_lines.specs.Lines.{lines_of}
use Rattle.text_lines.specs.Words.{words_of}
use Rattle.text_lines.proofs.FaultLemmas.{none_is_some}
use Rattle.trace_text.specs.declared.trace_fault.TraceCause.{TraceCause}
use Rattle.trace_text.specs.declared.trace_fault.TraceCause.TheVariants.{Header}
use Rattle.text_lines.specs.Kept.{kept, is_skipped}
use Rattle.trace_text.specs.Read.{saying, AreSaid}
use Rattle.trace_text.specs.References.{fault_of_references}
use Rattle.trace_text.specs.Statement.{Statement, statement_of, words_for}
use Rattle.trace_semantics.specs.Trace.{TraceValue, IsTrace}
use Rattle.trace_text.specs.TraceFault.{is_header, version_of, statements_of, said_fault, statement_fault, words_fault, trace_line_fault, line_reference_fault, HasTraceFault}
use Rattle.trace_text.specs.TraceText.{SpellsTrace, header_line}
use Rattle.trace_text.proofs.NeverFaulty.ApartLemmas.{cut_map}
use Rattle.trace_text.proofs.NeverFaulty.ClearLemmas.{statements_clear}
use Rattle.trace_semantics.proofs.ElementLemmas.{cases_in, in_middle, from_map}
use Rattle.trace_text.proofs.LineWords.HighLemmas.{high_words, high_line}
use Rattle.trace_text.proofs.LineWords.KnownLemmas.{same_fault}
use Rattle.trace_text.proofs.LineWords.LineLemmas.{line_fault, version_is, header_passes}
use Rattle.trace_text.proofs.NeverFaulty.OwnReferenceLemmas.{references_clear}
use Rattle.trace_text.proofs.LineWords.SaidLemmas.{statements_said}
use Rattle.text_lines.proofs.Cutting.KeptLemmas.{kept_append, kept_more}
use Rattle.trace_text.proofs.LineWords.SpellLemmas.{said_each}
use Rattle.trace_text.proofs.NeverFaulty.StatedLemmas.{AreStated, IsHad, stated, said_map}
use Rattle.trace_text.proofs.NeverFaulty.ToldLemmas.{has_writable}
use Rattle.trace_text.proofs.Writing.WritableLemmas.{entry_low}
use Rattle.trace_text.specs.declared.version.Version.{Version}
use Rattle.trace_text.specs.declared.version.Version.TheVariants.{One, Two, Three}
use Rattle.trace_text.specs.Version.{limits_of}

header_low : (version : Version) → high_words (header_line version) ≡ false
header_low One = refl
header_low Two = refl
header_low Three = refl

header_says_nothing : (version : Version) → statement_of version (header_line version) ≡ None
header_says_nothing One = refl
header_says_nothing Two = refl
header_says_nothing Three = refl

-- the header and the lines of statements without a fault have none
words_clear : (version : Version) (ss : List Statement) → map (saying version) ss ≡ map Some ss → IsFaultless (statement_fault (limits_of version)) ss → IsFaultless words_fault (header_line version ∷ map words_for ss)
words_clear version ss said clear [] words after e =
    let same : header_line version ≡ words = cc in
    ap (λ b. if b then None else Some Header) (ap is_header (sym same) ∙ header_passes version)
words_clear version ss said clear (header ∷ earlier) words after e =
    let same : header_line version ≡ header = cc in
    let rest : map words_for ss ≡ earlier ++ words ∷ after = cc in
    let cut = cut_map words_for ss earlier words after rest in
    let same_version : version_of header ≡ version = ap version_of (sym same) ∙ version_is version in
    let each : (s : Statement) → Contains cut.before s → statement_of version (words_for s) ≡ Some s = λ (s : Statement) (c : Contains cut.before s).
    said_each version ss s said (subst (λ (l : List Statement). Contains l s) (sym cut.parts) (Contains-append_left cut.before (cut.at ∷ cut.after) s c)) in
    let here : statement_of version (words_for cut.at) ≡ Some cut.at = said_each version ss cut.at said (subst (λ (l : List Statement). Contains l cut.at) (sym cut.parts) (in_middle cut.before cut.at cut.after)) in
    (λ i. said_fault (limits_of (same_version i)) (statements_of (same_version i) (cut.front_is i)) (statement_of (same_version i) (sym cut.here_is i)))
    ∙ (λ i. said_fault (limits_of version) (statements_said version cut.before (said_map version cut.before each) i) (here i))
    ∙ clear cut.before cut.at cut.after cut.parts

-- the lines of a text that spells a trace
module _ (text : List ℕ) (t : TraceValue) (ok : IsTrace t) (h : SpellsTrace text t) (st : AreStated t h.version h.body) where
  kept_lines : kept (lines_of text) ≡ header_line h.version ∷ map words_for st.ss
  kept_lines = h.lines ∙ ap (λ l. header_line h.version ∷ l) st.words

  said : AreSaid h.version (lines_of text) st.ss
  said = record { kept_lines = kept_lines; said = st.said; faultless = statements_clear t h.version h.body ok h.fits st }

  split : (before : List (List ℕ)) (line : List ℕ) (after : List (List ℕ)) → lines_of text ≡ before ++ line ∷ after → is_skipped (words_of line) ≡ false → header_line h.version ∷ map words_for st.ss ≡ kept before ++ words_of line ∷ kept after
  split before line after e says = sym kept_lines ∙ ap kept e ∙ kept_append is_skipped before (line ∷ after) ∙ ap (λ l. kept before ++ l) (kept_more is_skipped line after says)

  low : (words : List (List ℕ)) → Contains (header_line h.version ∷ map words_for st.ss) words → high_words words ≡ false
  low words c = elim (cases_in (header_line h.version) (map words_for st.ss) words c) [
    | inl e ↦ ap high_words (sym e) ∙ header_low h.version
    | inr d ↦ (
        let at = from_map words_for st.ss words d in
        let had : IsHad t at.0 = st.each at.0 at.1 in
        ap high_words (sym at.2 ∙ ap words_for (sym had.2)) ∙ entry_low had.0 (has_writable t had.0 ok.written had.1))
  ]

  line_clear : (before : List (List ℕ)) (line : List ℕ) (after : List (List ℕ)) → lines_of text ≡ before ++ line ∷ after → is_skipped (words_of line) ≡ false → trace_line_fault before line ≡ None
  line_clear before line after e says =
      let all = split before line after e says in
      let there : Contains (header_line h.version ∷ map words_for st.ss) (words_of line) = subst (λ (l : List (List (List ℕ))). Contains l (words_of line)) (sym all) (in_middle (kept before) (words_of line) (kept after)) in
      line_fault before line says (high_line line ∙ low (words_of line) there) ∙ words_clear h.version st.ss st.said said.faultless (kept before) (words_of line) (kept after) all

  lines_clear : IsFaultless trace_line_fault (lines_of text)
  lines_clear before line after e = elim (cases_Bool (is_skipped (words_of line))) [
    | inl skipped ↦ cond-true (is_skipped (words_of line)) None _ skipped
    | inr says ↦ line_clear before line after e says
  ]

  named_clear : (words : List (List ℕ)) → Contains (header_line h.version ∷ map words_for st.ss) words → fault_of_references t.processes (statement_of h.version words) ≡ None
  named_clear words c = elim (cases_in (header_line h.version) (map words_for st.ss) words c) [
    | inl e ↦ ap (λ ws. fault_of_references t.processes (statement_of h.version ws)) (sym e) ∙ ap (fault_of_references t.processes) (header_says_nothing h.version)
    | inr d ↦ (
        let at = from_map words_for st.ss words d in
        ap (λ ws. fault_of_references t.processes (statement_of h.version ws)) (sym at.2) ∙ ap (fault_of_references t.processes) (said_each h.version st.ss at.0 st.said at.1) ∙ references_clear t at.0 ok (st.each at.0 at.1))
  ]

  references_named : IsFaultless (λ (before : List (List ℕ)) (here : List ℕ). line_reference_fault (kept (lines_of text)) here) (lines_of text)
  references_named before line after e =
      same_fault h.version (lines_of text) st.ss t.processes line said st.processes
      ∙ elim (cases_Bool (is_skipped (words_of line))) [
        | inl skipped ↦ cond-true (is_skipped (words_of line)) None _ skipped
        | inr says ↦ ap (λ b. if b then None else fault_of_references t.processes (statement_of h.version (words_of line))) says
            ∙ named_clear (words_of line) (subst (λ (l : List (List (List ℕ))). Contains l (words_of line)) (sym (split before line after e says)) (in_middle (kept before) (words_of line) (kept after)))
      ]

pub never_both : (text : List ℕ) (t : TraceValue) (cause : TraceCause) (line : ℕ) → IsTrace t → SpellsTrace text t → HasTraceFault text cause line → ⊥
never_both text t cause line ok h fault =
    let st = stated text t ok h in
    elim fault [
      | inl first ↦ none_is_some cause (sym (lines_clear text t ok h st first.before first.item first.after first.parts) ∙ first.faulty)
      | inr (inl missing) ↦ (let none : header_line h.version ∷ h.body ≡ [] = sym h.lines ∙ missing.0.empty in cc)
      | inr (inr named) ↦ none_is_some cause (sym (references_named text t ok h st named.found.before named.found.item named.found.after named.found.parts) ∙ named.found.faulty)
    ]
