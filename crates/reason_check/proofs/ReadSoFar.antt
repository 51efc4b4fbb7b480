-- What is so while the lines of a certificate are read.
use Rattle.std.proofs.Common.{◌≡◌, ◌≤◌, ◌+◌, true, ℕ, ℤ, List, [], ◌∷◌, ◌++◌, refl, ap, sym, ◌∙◌, inl, inr, subst, map, length, append_assoc, arith}
use Rattle.std.specs.List.{AllZip, Contains}
use Rattle.std.proofs.lemmas.List.Elements.{Contains-append_cases}
use Rattle.std.proofs.lemmas.List.{map_push}
use Rattle.text_lines.specs.Lines.{lines_of}
use Rattle.text_lines.specs.Words.{words_of}
use Rattle.trace_semantics.specs.Trace.{TraceValue}
use Rattle.trace_semantics.proofs.ElementLemmas.{cases_in, none_in}
use Rattle.order_clauses.specs.declared.reason_list.ReasonList.{ReasonList}
use Rattle.reason_text.specs.Header.{is_header}
use Rattle.reason_text.specs.ReasonLine.{AreLineWords, IsReasonLine}
use Rattle.reason_text.specs.declared.reason_line.ReasonLine.{ReasonLine}
use Rattle.reason_text.specs.declared.reason_line.ReasonLine.TheVariants.{Derivation as DerivationLine}
use Rattle.reason_check.specs.Accepted.{EndsEmpty, NoneIsEmpty}
use Rattle.reason_check.specs.Reading.{AreBefore, IsBehindMark, IsReadAndTaken, IsReadBehind, IsReadOn, IsReadTo}
use Rattle.reason_check.specs.Taken.{AreMade, IsTaken}
use Rattle.reason_check.specs.declared.line_clause.LineOutcome.{LineOutcome}
use Rattle.reason_check.specs.declared.line_clause.LineOutcome.TheVariants.{More, Refuted, Derivation}
use Rattle.reason_check.proofs.LineLemmas.{zip_push, made_next, made_passed, made_none}

-- the text was read up to what is left, with this many lines before it; together they are as long as the text at most
pub record AreReadSoFar (t : TraceValue) (text rest : List ℕ) (before : ℕ) (list : ReasonList) : Type 0 where
  pub read : IsReadBehind t text list before (lines_of rest)
  pub behind : before + length rest ≤ length text

module _ (t : TraceValue) (text : List ℕ) where
  -- the header was read
  pub read_none : (list : ReasonList) (header : List ℕ) (rest : List (List ℕ)) → lines_of text ≡ header ∷ rest → is_header (words_of header) ≡ true → list.clauses.items ≡ [] → IsReadBehind t text list 1 rest
  read_none list header rest parts headed none = (
    (
      record { header = header; front = []; parts = parts; headed = headed; lines = []; read = tt; made = made_none t list none },
      λ c. none_in [] (subst (λ (l : List (List ℤ)). Contains l []) none c),
    ),
    omega (arith, ap length parts),
  )

  -- one line more was read
  read_more : (old new : ReasonList) (line : List ℕ) (said : ReasonLine) (others : List (List ℕ)) → IsReasonLine t (words_of line) said → (h : IsReadTo t text old (line ∷ others)) → AreMade t (h.lines ++ said ∷ []) new → IsReadTo t text new others
  read_more old new line said others is h made = record {
    header = h.header;
    front = h.front ++ line ∷ [];
    parts = h.parts ∙ ap (λ l. h.header ∷ l) (sym (append_assoc h.front (line ∷ []) others));
    headed = h.headed;
    lines = h.lines ++ said ∷ [];
    read = subst (λ (l : List (List (List ℕ))). AllZip (IsReasonLine t) l (h.lines ++ said ∷ [])) (sym (map_push words_of h.front line)) (zip_push (IsReasonLine t) (map words_of h.front) h.lines (words_of line) said h.read is);
    made = made;
  }

  -- and the derivation does not begin
  goes_on : (old new : ReasonList) (line : List ℕ) (others : List (List ℕ)) (outcome : LineOutcome) → (outcome ≡ Derivation → ⊥) → IsReadTo t text old (line ∷ others) → (k : IsReadAndTaken t (words_of line) old new outcome) → IsTaken t k.line old new outcome →
      IsReadTo t text new others
  goes_on old new line others outcome other h k (inl next) = read_more old new line k.line others k.read h (made_next t h.lines k.line old new outcome h.made next)
  goes_on old new line others outcome other h k (inr (inl passed)) = read_more old new line k.line others k.read h (made_passed t h.lines k.line old new h.made passed.0 passed.1.0)
  goes_on old new line others outcome other h k (inr (inr mark)) = absurd (other mark.2)

  pub next_read : (old new : ReasonList) (line : List ℕ) (others : List (List ℕ)) (outcome : LineOutcome) → (outcome ≡ Derivation → ⊥) → IsReadTo t text old (line ∷ others) → IsReadAndTaken t (words_of line) old new outcome → IsReadTo t text new others
  next_read old new line others outcome other h k = goes_on old new line others outcome other h k k.taken

  -- more lines are wanted, so the line's clause is not empty
  still_none : (old new : ReasonList) (line : ReasonLine) (outcome : LineOutcome) → outcome ≡ More → NoneIsEmpty old.clauses.items → IsTaken t line old new outcome → NoneIsEmpty new.clauses.items
  still_none old new line outcome more none (inl next) = λ c.
      elim (Contains-append_cases old.clauses.items (next.clause ∷ []) [] (subst (λ (l : List (List ℤ)). Contains l []) next.appended c)) [
        | inl before ↦ none before
        | inr last ↦ elim (cases_in next.clause [] [] last) [
          | inl same ↦ (let clash : More ≡ Refuted = sym more ∙ next.ended.1 same in cc)
          | inr behind ↦ none_in [] behind
        ]
      ]
  still_none old new line outcome more none (inr (inl passed)) = λ c. none (subst (λ (l : List (List ℤ)). Contains l []) passed.1.0.same c)
  still_none old new line outcome more none (inr (inr mark)) = λ c. none (subst (λ (l : ReasonList). Contains l.clauses.items []) mark.1 c)

  pub more_read : (old new : ReasonList) (before : ℕ) (line : List ℕ) (others : List (List ℕ)) (outcome : LineOutcome) → outcome ≡ More → IsReadBehind t text old before (line ∷ others) → IsReadAndTaken t (words_of line) old new outcome →
      IsReadBehind t text new (before + 1) others
  more_read old new before line others outcome more h k = (
    (
      next_read old new line others outcome (λ e. (let clash : More ≡ Derivation = sym more ∙ e in cc)) h.0.0 k,
      still_none old new k.line outcome more h.0.1 k.taken,
    ),
    omega (arith, h.1),
  )

  -- where the line refutes the trace, its clause is empty
  ends : (line : ReasonLine) (old new : ReasonList) → NoneIsEmpty old.clauses.items → IsTaken t line old new Refuted → EndsEmpty new.clauses.items
  ends line old new none (inl next) = (old.clauses.items, next.appended ∙ ap (λ (c : List ℤ). old.clauses.items ++ c ∷ []) (next.ended.0 refl), none)
  ends line old new none (inr (inl passed)) = absurd (let clash : Refuted ≡ More = passed.1.1 in cc)
  ends line old new none (inr (inr mark)) = absurd (let clash : Refuted ≡ Derivation = mark.2 in cc)

  pub ends_empty : (old new : ReasonList) (words : List (List ℕ)) → NoneIsEmpty old.clauses.items → IsReadAndTaken t words old new Refuted → EndsEmpty new.clauses.items
  ends_empty old new words none k = ends k.line old new none k.taken

  -- where the derivation begins, the line is `p`
  marks : (words : List (List ℕ)) (line : ReasonLine) (old new : ReasonList) → IsReasonLine t words line → IsTaken t line old new Derivation → (new ≡ old) × AreLineWords t words DerivationLine
  marks words line old new is (inl next) = absurd (next.goes_on refl)
  marks words line old new is (inr (inl passed)) = absurd (let clash : Derivation ≡ More = passed.1.1 in cc)
  marks words line old new is (inr (inr mark)) = (mark.1, subst (λ (l : ReasonLine). AreLineWords t words l) mark.0 is.0)

  pub begins_behind : (old new : ReasonList) (before : ℕ) (line rest : List ℕ) → IsReadBehind t text old before (line ∷ lines_of rest) → IsReadAndTaken t (words_of line) old new Derivation →
      (others : List (List ℕ)) × IsReadOn t text new others × IsBehindMark rest others × AreBefore text (lines_of rest) (before + 1)
  begins_behind old new before line rest h k =
      let at = marks (words_of line) k.line old new k.read k.taken in
      (line ∷ lines_of rest, subst (λ (l : ReasonList). IsReadOn t text l (line ∷ lines_of rest)) (sym at.0) h.0, inl (line, refl, at.1), omega (arith, h.1))

  -- no line is left
  pub ends_behind : (list : ReasonList) (before : ℕ) (rest : List ℕ) → lines_of rest ≡ [] → IsReadBehind t text list before (lines_of rest) → (others : List (List ℕ)) × IsReadOn t text list others × IsBehindMark rest others × AreBefore text (lines_of rest) before
  ends_behind list before rest none h = (lines_of rest, h.0, inr (none, none), h.1)
