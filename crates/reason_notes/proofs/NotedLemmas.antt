-- What is so while lines are noted.
use Rattle.std.proofs.Common.{◌≡◌, ◌≤◌, ◌<◌, ◌⊎◌, true, ℕ, List, [], ◌∷◌, ◌++◌, refl, ap, sym, ◌∙◌, inl, inr, subst, map, length, append_assoc, append-nil, arith}
use Rattle.std.specs.Prelude.{◌≢◌, not}
use Rattle.std.specs.List.{AllZip, Contains, filter}
use Rattle.std.proofs.lemmas.Bool.{cond-true, cond-false}
use Rattle.std.proofs.lemmas.List.{length-append, map_push}
use Rattle.std.proofs.lemmas.List.Elements.{Contains-append_cases, filter-append}
use Rattle.text_lines.specs.Lines.{lines_of}
use Rattle.text_lines.specs.Words.{words_of}
use Rattle.trace_semantics.specs.Trace.{TraceValue}
use Rattle.trace_semantics.proofs.ElementLemmas.{cases_in, none_in}
use Rattle.reason_text.specs.Header.{is_header, HasHeader}
use Rattle.reason_text.specs.ReasonLine.{AreLineWords, IsReasonLine}
use Rattle.reason_text.specs.declared.reason_line.ReasonLine.{ReasonLine}
use Rattle.reason_text.specs.declared.reason_line.ReasonLine.TheVariants.{Skipped, Cycle, Before, Ended as EndedLine, Variable, Source, Last, TooFew, Counting, Waiting, Derivation as DerivationLine}
use Rattle.reason_check.specs.LineClauses.{is_silent}
use Rattle.reason_check.proofs.LineLemmas.{zip_push}
use Rattle.reason_notes.specs.declared.first_lines.LinesWanted.{LinesWanted}
use Rattle.reason_notes.specs.declared.first_lines.LinesWanted.TheVariants.{More, Ended}
use Rattle.reason_notes.specs.declared.noted_line.LineNote.{LineNote}
use Rattle.reason_notes.specs.declared.noted_line.LineNote.TheVariants.{Passed, Noted, End}
use Rattle.reason_notes.specs.declared.noted_line.NotedLine.{NotedLine}
use Rattle.reason_notes.specs.Noted.{AreFirstLines, EndsLines, EndsRefuted, IsAdded, IsLineNote, IsNotedOf, NoneRefutes, speaks}

-- the lines up to these were noted so
pub record AreNotedTo (t : TraceValue) (text : List ℕ) (most : ℕ) (noted : List NotedLine) (rest : List (List ℕ)) : Type 0 where
  pub header : List ℕ
  pub front : List (List ℕ)
  pub parts : lines_of text ≡ header ∷ (front ++ rest)
  pub headed : is_header (words_of header) ≡ true
  pub lines : List ReasonLine
  pub read : AllZip (IsReasonLine t) (map words_of front) lines
  pub notes_are : AllZip (IsNotedOf t) (filter speaks lines) noted
  pub few : length noted ≤ most

module _ (t : TraceValue) (text : List ℕ) (most : ℕ) where
  -- the header was read
  pub noted_none : (rest : List ℕ) → HasHeader text rest → AreNotedTo t text most [] (lines_of rest)
  noted_none rest h = record { header = h.header; front = []; parts = h.lines; headed = h.headed; lines = []; read = tt; notes_are = tt; few = omega (arith) }

  module _ (noted : List NotedLine) (line : List ℕ) (others : List (List ℕ)) (h : AreNotedTo t text most noted (line ∷ others)) where
    -- one line more was read
    read_more : (said : ReasonLine) (now : List NotedLine) → IsReasonLine t (words_of line) said → AllZip (IsNotedOf t) (filter speaks (h.lines ++ said ∷ [])) now → length now ≤ most → AreNotedTo t text most now others
    read_more said now is notes_are few = record {
      header = h.header;
      front = h.front ++ line ∷ [];
      parts = h.parts ∙ ap (λ l. h.header ∷ l) (sym (append_assoc h.front (line ∷ []) others));
      headed = h.headed;
      lines = h.lines ++ said ∷ [];
      read = subst (λ (l : List (List (List ℕ))). AllZip (IsReasonLine t) l (h.lines ++ said ∷ [])) (sym (map_push words_of h.front line)) (zip_push (IsReasonLine t) (map words_of h.front) h.lines (words_of line) said h.read is);
      notes_are = notes_are;
      few = few;
    }

    -- which says nothing
    passes : (said : ReasonLine) → IsReasonLine t (words_of line) said → is_silent said ≡ true → AreNotedTo t text most noted others
    passes said is silent =
        let same : filter speaks (h.lines ++ said ∷ []) ≡ filter speaks h.lines = filter-append speaks h.lines (said ∷ []) ∙ ap (λ l. filter speaks h.lines ++ l) (cond-false (speaks said) (said ∷ []) [] (ap not silent)) ∙ append-nil (filter speaks h.lines) in
        read_more said noted is (subst (λ (l : List ReasonLine). AllZip (IsNotedOf t) l noted) (sym same) h.notes_are) h.few

    pub passed : IsLineNote t (words_of line) Passed → AreNotedTo t text most noted others
    passed k = passes k.line k.read k.noted

    -- a line that makes a clause is not silent
    clause_speaks : (said : ReasonLine) (next : NotedLine) → IsNotedOf t said next → speaks said ≡ true
    clause_speaks Skipped next k = absurd k.1
    clause_speaks (Cycle operations) next k = refl
    clause_speaks (Before pair) next k = refl
    clause_speaks (EndedLine pair) next k = refl
    clause_speaks (Variable pair) next k = absurd k.1
    clause_speaks (Source reader pieces) next k = refl
    clause_speaks (Last location pieces) next k = refl
    clause_speaks (TooFew location value) next k = refl
    clause_speaks (Counting parts) next k = refl
    clause_speaks (Waiting parts) next k = refl
    clause_speaks DerivationLine next k = absurd k.1

    -- which is noted
    notes_it : (said : ReasonLine) (next : NotedLine) → IsReasonLine t (words_of line) said → IsNotedOf t said next → length (noted ++ next ∷ []) ≤ most → AreNotedTo t text most (noted ++ next ∷ []) others
    notes_it said next is k few =
        let more : filter speaks (h.lines ++ said ∷ []) ≡ filter speaks h.lines ++ said ∷ [] = filter-append speaks h.lines (said ∷ []) ∙ ap (λ l. filter speaks h.lines ++ l) (cond-true (speaks said) (said ∷ []) [] (clause_speaks said next k)) in
        read_more said (noted ++ next ∷ []) is (subst (λ (l : List ReasonLine). AllZip (IsNotedOf t) l (noted ++ next ∷ [])) (sym more) (zip_push (IsNotedOf t) (filter speaks h.lines) noted said next h.notes_are k)) few

    pub noted_next : (next : NotedLine) → IsLineNote t (words_of line) (Noted next) → length (noted ++ next ∷ []) ≤ most → AreNotedTo t text most (noted ++ next ∷ []) others
    noted_next next k few = notes_it k.line next k.read k.noted few

    -- the derivation follows
    marks : (said : ReasonLine) → IsReasonLine t (words_of line) said → said ≡ DerivationLine → AreLineWords t (words_of line) DerivationLine
    marks said is same = subst (λ (l : ReasonLine). AreLineWords t (words_of line) l) same is.0

    pub noted_end : IsLineNote t (words_of line) End → EndsLines (line ∷ others)
    noted_end k = inr (line, others, refl, marks k.line k.read k.noted)

  -- they are the first lines
  pub first_of_noted : (noted : List NotedLine) (rest : List (List ℕ)) → AreNotedTo t text most noted rest → EndsRefuted noted ⊎ (NoneRefutes noted × ((length noted ≡ most) ⊎ EndsLines rest)) → AreFirstLines t text most noted
  first_of_noted noted rest h ended = record {
    header = h.header;
    front = h.front;
    rest = rest;
    parts = h.parts;
    headed = h.headed;
    lines = h.lines;
    read = h.read;
    notes_are = h.notes_are;
    few = h.few;
    ended = ended;
  }

  one_more : (noted : List NotedLine) (next : NotedLine) → length noted < most → length (noted ++ next ∷ []) ≤ most
  one_more noted next fits = let long = length-append noted (next ∷ []) in omega (arith, long, fits)

  module _ (noted new : List NotedLine) (line : List ℕ) (others : List (List ℕ)) (h : AreNotedTo t text most noted (line ∷ others)) (fits : length noted < most) (none : NoneRefutes noted) where
    -- what came of the line was added, and more are wanted
    pub more_noted : (outcome : LineNote) (reading : LinesWanted) → IsLineNote t (words_of line) outcome → IsAdded noted new outcome reading → reading ≢ Ended → AreNotedTo t text most new others
    more_noted Passed reading k added more = subst (λ (l : List NotedLine). AreNotedTo t text most l others) (sym added.0) (passed noted line others h k)
    more_noted (Noted next) reading k added more = subst (λ (l : List NotedLine). AreNotedTo t text most l others) (sym added.0) (noted_next noted line others h next k (one_more noted next fits))
    more_noted End reading k added more = absurd (more added.1)

    -- so it leaves an order, if it is noted
    pub none_refutes : (outcome : LineNote) (reading : LinesWanted) → IsAdded noted new outcome reading → reading ≢ Ended → NoneRefutes new
    none_refutes Passed reading added more = subst (λ (l : List NotedLine). NoneRefutes l) (sym added.0) none
    none_refutes (Noted next) reading added more = λ other c empty.
        elim (Contains-append_cases noted (next ∷ []) other (subst (λ (l : List NotedLine). Contains l other) added.0 c)) [
          | inl before ↦ none other before empty
          | inr last ↦ elim (cases_in next [] other last) [
            | inl same ↦ more (added.1.1 (subst (λ (n : NotedLine). n.orders.items ≡ []) (sym same) empty))
            | inr behind ↦ none_in other behind
          ]
        ]
    none_refutes End reading added more = absurd (more added.1)

    -- and no more are
    pub ended_noted : (outcome : LineNote) (reading : LinesWanted) → IsLineNote t (words_of line) outcome → IsAdded noted new outcome reading → reading ≡ Ended → AreFirstLines t text most new
    ended_noted Passed reading k added ended = absurd (let clash : More ≡ Ended = sym added.1 ∙ ended in cc)
    ended_noted (Noted next) reading k added ended = subst (λ (l : List NotedLine). AreFirstLines t text most l) (sym added.0)
        (first_of_noted (noted ++ next ∷ []) others (noted_next noted line others h next k (one_more noted next fits)) (inl (noted, next, refl, added.1.0 ended, none)))
    ended_noted End reading k added ended = subst (λ (l : List NotedLine). AreFirstLines t text most l) (sym added.0)
        (first_of_noted noted (line ∷ others) h (inr (none, inr (noted_end noted line others h k))))
