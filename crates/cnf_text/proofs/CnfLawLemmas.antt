-- A formula's text spells one formula or has one first fault.
use Rattle.std.proofs.Common.{◌≡◌, ◌⊎◌, ℕ, List, [], ◌∷◌, ◌++◌, length, map, true, refl, ap, sym, ◌∙◌, subst, inl, inr, append_assoc}
use Rattle.std.specs.Prelude.{Option, Some, None, ℤ, pos}
use Rattle.std.specs.List.{flat_map, list_all}
use Rattle.std.proofs.lemmas.Bool.{and_parts, true≢false}
use Rattle.std.proofs.lemmas.List.Folds.{list_all-append}
use Rattle.std.proofs.lemmas.List.Concat.{flat_map-cons}
use Rattle.text_lines.proofs.FaultLemmas.{compared}
use Rattle.text_lines.proofs.ListLemmas.{same_somes}
use Rattle.cnf_text.specs.CnfLines.{said_lines, end_line, placed_words}
use Rattle.cnf_text.specs.CnfProgress.{AreBody}
use Rattle.cnf_text.specs.CnfReading.{Header, header_of, header_cause, ended, SpellsCnf, HasBodyFault, HasFaultAfter, HasFaultIn, HasCnfFault}
use Rattle.dimacs.specs.Formula.{FormulaValue}
use Rattle.dimacs.specs.Literal.{is_literal_up_to, is_clause_up_to}
use Rattle.cnf_text.specs.declared.cnf_fault.CnfCause.{CnfCause}
use Rattle.cnf_text.specs.declared.cnf_fault.CnfCause.TheVariants.{NoHeader}
use Rattle.cnf_text.proofs.CnfBodyLemmas.{number_of}
use Rattle.cnf_text.proofs.CnfTextLemmas.{never_body_fault, one_body_fault, judge_body}

abbrev Lines : Type 0
Lines = List (ℕ × List (List ℕ))

abbrev counts : FormulaValue → Header
counts f = record { variables = f.variables; clauses = length f.clauses }

-- what follows the header
body_of : (text : List ℕ) (f : FormulaValue) (s : SpellsCnf text f) → AreBody (counts f) (placed_words s.rest) f.clauses
body_of text f s = record { numbers = s.numbers; within = s.formula; count = refl }

fault_after_header : (o : Option Header) (h : Header) (first : ℕ × List (List ℕ)) (rest : Lines) (end line : ℕ) (cause : CnfCause) → o ≡ Some h → HasFaultAfter o first rest end cause line → HasBodyFault h (placed_words rest) end cause line
fault_after_header o h first rest end line cause e fault = subst (λ (p : Option Header). HasFaultAfter p first rest end cause line) e fault

pub never_both : (text : List ℕ) (f : FormulaValue) (cause : CnfCause) (line : ℕ) → SpellsCnf text f → HasCnfFault text cause line → ⊥
never_both text f cause line s fault =
    let here = subst (λ (lines : Lines). HasFaultIn lines (end_line text) cause line) s.lines fault in
    never_body_fault (counts f) (placed_words s.rest) f.clauses (end_line text) line cause (body_of text f s) (fault_after_header (header_of s.first.1) (counts f) s.first s.rest (end_line text) line cause s.header here)

one_after : (o : Option Header) (first : ℕ × List (List ℕ)) (rest : Lines) (end : ℕ) (c d : CnfCause) (p q : ℕ) → HasFaultAfter o first rest end c p → HasFaultAfter o first rest end d q → (c ≡ d) × (p ≡ q)
one_after None first rest end c d p q a b = (a.0 ∙ sym b.0, a.1 ∙ sym b.1)
one_after (Some h) first rest end c d p q a b = one_body_fault h (placed_words rest) end c d p q a b

one_in : (lines : Lines) (end : ℕ) (c d : CnfCause) (p q : ℕ) → HasFaultIn lines end c p → HasFaultIn lines end d q → (c ≡ d) × (p ≡ q)
one_in [] end c d p q a b = (a.0 ∙ sym b.0, a.1 ∙ sym b.1)
one_in (first ∷ rest) end c d p q a b = one_after (header_of first.1) first rest end c d p q a b

pub one_refused : (text : List ℕ) (c d : CnfCause) (p q : ℕ) → HasCnfFault text c p → HasCnfFault text d q → (c ≡ d) × (p ≡ q)
one_refused text c d p q a b = one_in (said_lines text) (end_line text) c d p q a b

-- a clause has no 0
no_zero : (variables : ℕ) (clause before after : List ℤ) → is_clause_up_to variables clause ≡ true → clause ≡ before ++ pos 0 ∷ after → ⊥
no_zero variables clause before after h e =
    let whole : list_all (is_literal_up_to variables) (before ++ pos 0 ∷ after) ≡ true = ap (list_all (is_literal_up_to variables)) (sym e) ∙ h in
    let there = (and_parts _ _ (sym (list_all-append (is_literal_up_to variables) before (pos 0 ∷ after)) ∙ whole)).1 in
    true≢false (sym ((and_parts (is_literal_up_to variables (pos 0)) (list_all (is_literal_up_to variables) after) there).0))

same_first : (variables : ℕ) (a b xs ys : List ℤ) → is_clause_up_to variables a ≡ true → is_clause_up_to variables b ≡ true → a ++ pos 0 ∷ xs ≡ b ++ pos 0 ∷ ys → a ≡ b
same_first variables a b xs ys h k e =
    elim (compared a b (pos 0) (pos 0) xs ys e) [
      | inl same ↦ same.0
      | inr (inl (m, s)) ↦ absurd (no_zero variables b a m k s)
      | inr (inr (m, s)) ↦ absurd (no_zero variables a b m h s)
    ]

same_rest : (a xs ys : List ℤ) → a ++ pos 0 ∷ xs ≡ a ++ pos 0 ∷ ys → xs ≡ ys
same_rest [] xs ys e = cc
same_rest (x ∷ a) xs ys e = same_rest a xs ys (cc)

split : (clause : List ℤ) (clauses : List (List ℤ)) → flat_map ended (clause ∷ clauses) ≡ clause ++ pos 0 ∷ flat_map ended clauses
split clause clauses = flat_map-cons ended clause clauses ∙ append_assoc clause (pos 0 ∷ []) (flat_map ended clauses)

never_nil : (a xs : List ℤ) → [] ≡ a ++ pos 0 ∷ xs → ⊥
never_nil [] xs e = absurd (cc)
never_nil (x ∷ a) xs e = absurd (cc)

-- the same numbers, the same clauses
same_clauses : (variables : ℕ) (a b : List (List ℤ)) → list_all (is_clause_up_to variables) a ≡ true → list_all (is_clause_up_to variables) b ≡ true → flat_map ended a ≡ flat_map ended b → a ≡ b
same_clauses variables [] [] h k e = refl
same_clauses variables [] (d ∷ b) h k e = absurd (never_nil d (flat_map ended b) (e ∙ split d b))
same_clauses variables (c ∷ a) [] h k e = absurd (never_nil c (flat_map ended a) (sym e ∙ split c a))
same_clauses variables (c ∷ a) (d ∷ b) h k e =
    let first = and_parts (is_clause_up_to variables c) (list_all (is_clause_up_to variables) a) h in
    let second = and_parts (is_clause_up_to variables d) (list_all (is_clause_up_to variables) b) k in
    let whole : c ++ pos 0 ∷ flat_map ended a ≡ d ++ pos 0 ∷ flat_map ended b = sym (split c a) ∙ e ∙ split d b in
    let head = same_first variables c d (flat_map ended a) (flat_map ended b) first.0 second.0 whole in
    let tail = same_clauses variables a b first.1 second.1 (same_rest d (flat_map ended a) (flat_map ended b) (ap (λ x. x ++ pos 0 ∷ flat_map ended a) (sym head) ∙ whole)) in
    (λ i. head i ∷ tail i)

pub one_spelled : (text : List ℕ) (f g : FormulaValue) → SpellsCnf text f → SpellsCnf text g → f ≡ g
one_spelled text f g s t =
    let lines : s.first ∷ s.rest ≡ t.first ∷ t.rest = sym s.lines ∙ t.lines in
    let first : s.first ≡ t.first = cc in
    let rest : s.rest ≡ t.rest = cc in
    let headers : Some (counts f) ≡ Some (counts g) = sym s.header ∙ ap (λ (l : ℕ × List (List ℕ)). header_of l.1) first ∙ t.header in
    let header : counts f ≡ counts g = cc in
    let variables : f.variables ≡ g.variables = ap (λ (h : Header). h.variables) header in
    let numbers = same_somes (flat_map ended f.clauses) (flat_map ended g.clauses) (sym s.numbers ∙ ap (λ l. map number_of (placed_words l)) rest ∙ t.numbers) in
    let clauses = same_clauses g.variables f.clauses g.clauses (subst (λ (n : ℕ). list_all (is_clause_up_to n) f.clauses ≡ true) variables s.formula) t.formula numbers in
    (λ i. record { variables = variables i; clauses = clauses i })

abbrev IsEither : List ℕ → Type 0
IsEither text = ((f : FormulaValue) × SpellsCnf text f) ⊎ ((cause : CnfCause) × (line : ℕ) × HasCnfFault text cause line)

judge_header : (text : List ℕ) (first : ℕ × List (List ℕ)) (rest : Lines) (o : Option Header) → said_lines text ≡ first ∷ rest → header_of first.1 ≡ o → IsEither text
judge_header text first rest None e header =
    inr (header_cause first.1, first.0, subst (λ (lines : Lines). HasFaultIn lines (end_line text) (header_cause first.1) first.0) (sym e) (subst (λ (o : Option Header). HasFaultAfter o first rest (end_line text) (header_cause first.1) first.0) (sym header) (refl, refl)))
judge_header text first rest (Some h) e header =
    elim (judge_body h (placed_words rest) (end_line text)) [
      | inl (clauses, body) ↦ (let same : h ≡ record { variables = h.variables; clauses = length clauses } = (λ i. record { variables = h.variables; clauses = sym body.count i }) in
          inl (record { variables = h.variables; clauses = clauses }, record { first = first; rest = rest; lines = e; header = header ∙ ap Some same; numbers = body.numbers; formula = body.within }))
      | inr (cause, line, fault) ↦ inr (cause, line, subst (λ (lines : Lines). HasFaultIn lines (end_line text) cause line) (sym e) (subst (λ (o : Option Header). HasFaultAfter o first rest (end_line text) cause line) (sym header) fault))
    ]

judge_lines : (text : List ℕ) (lines : Lines) → said_lines text ≡ lines → IsEither text
judge_lines text [] e = inr (NoHeader, end_line text, subst (λ (lines : Lines). HasFaultIn lines (end_line text) NoHeader (end_line text)) (sym e) (refl, refl))
judge_lines text (first ∷ rest) e = judge_header text first rest (header_of first.1) e refl

pub spelled_or_refused : (text : List ℕ) → ((f : FormulaValue) × SpellsCnf text f) ⊎ ((cause : CnfCause) × (line : ℕ) × HasCnfFault text cause line)
spelled_or_refused text = judge_lines text (said_lines text) refl
