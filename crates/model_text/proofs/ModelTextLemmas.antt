-- A solver's answer spells one model or has one first fault.
use Rattle.std.proofs.Common.{◌≡◌, ◌⊎◌, ◌↔◌, inl, inr, ℕ, zero, suc, ◌+◌, ℤ, pos, negsuc, neg_ℤ, Bool, true, false, ◌||◌, Some, None, List, [], ◌∷◌, ◌++◌, map, refl, sym, ◌∙◌, ap, subst, cond, eqb, arith, append_assoc}
use Rattle.std.specs.Prelude.{Option, codes, slice_index_or as get_or}
use Rattle.std.specs.List.{list_any, flat_map, Contains}
use Rattle.std.specs.Option.{option_eq, option_map}
use Rattle.std.specs.Ordering.{int_eq}
use Rattle.std.specs.Str.{bytes_eq}
use Rattle.std.proofs.lemmas.Bool.{and_parts, or_left, or_right, or_parts, false_from_ne_true, true≢false}
use Rattle.std.proofs.lemmas.Bool.Decides.{same_from_decides}
use Rattle.std.proofs.lemmas.List.{map-append, map_push}
use Rattle.std.proofs.lemmas.List.Folds.{list_any-append}
use Rattle.std.proofs.lemmas.Option.{none-some}
use Rattle.text_lines.specs.FirstFault.{IsFaultless}
use Rattle.text_lines.specs.Lines.{lines_of}
use Rattle.text_lines.specs.Words.{words_of}
use Rattle.text_lines.proofs.FaultLemmas.{none_is_some, one_first, either, faultless_nil, faultless_push}
use Rattle.text_lines.proofs.Decimals.IntegerLemmas.{same_integer, other_integer}
use Rattle.model_text.specs.declared.model_fault.ModelCause.{ModelCause}
use Rattle.model_text.specs.declared.model_fault.ModelCause.TheVariants.{SaysUnsatisfiable, BadLine, BadNumber, Clash, Unended}
use Rattle.dimacs.specs.Assignment.{value_of}
use Rattle.dimacs.specs.Literal.{is_clause, is_literal}
use Rattle.model_text.specs.ModelText.{Said, Word, Unsatisfiable, Unknown, End, status, said, model_number, SpellsModel}
use Rattle.model_text.specs.ModelFirstFault.{at_line, said_from, writes, number_fault, said_fault, model_fault, HasModelFault}
use Rattle.model_text.proofs.ModelNumberLemmas.{has, has_contains, contains_has, or_false, has_push, no_zero, model_literal, NoClash, AreOpen, none_open, found_push, open_push, values_of, values_found}

-- the first fault is one
pub one_refused_model : (text : List ℕ) (c d : ModelCause) (p q : ℕ) → HasModelFault text c p → HasModelFault text d q → (c ≡ d) × (p ≡ q)
one_refused_model text c d p q h k =
    let same = (one_first model_fault (said_from 1 (lines_of text)) h.0 k.0 (c, p) (d, q) h.1 k.1).1 in
    (ap (λ f. f.0) same, ap (λ f. f.1) same)

-- words with the numbers of their lines, as what is said
abbrev pub worded : List (ℕ × List ℕ) → List (ℕ × Said)
worded ws = map (λ w. (w.0, Word w.1)) ws

abbrev pub words_alone : List (ℕ × List ℕ) → List (List ℕ)
words_alone ws = map (λ w. w.1) ws

-- what a line says: words, or one thing that is refused
words_or_refused : (words : List (List ℕ)) → ((ws : List (List ℕ)) × (said words ≡ map Word ws)) ⊎ ((thing : Said) × (said words ≡ thing ∷ []) × ((items : List (ℕ × Said)) → (cause : ModelCause) × (said_fault items thing ≡ Some cause)))
words_or_refused [] = inl ([], refl)
words_or_refused (first ∷ words) = by_first (eqb (get_or first 0 0) 99) (bytes_eq first (codes "v")) (bytes_eq first (codes "s"))
  where
    Said-ok : List Said → Type 0
    Said-ok things = ((ws : List (List ℕ)) × (things ≡ map Word ws)) ⊎ ((thing : Said) × (things ≡ thing ∷ []) × ((items : List (ℕ × Said)) → (cause : ModelCause) × (said_fault items thing ≡ Some cause)))

    unknown : Said-ok (Unknown ∷ [])
    unknown = inr (Unknown, refl, λ items. (BadLine, refl))

    by_word : (good bad : Bool) → Said-ok (cond good [] (cond bad (Unsatisfiable ∷ []) (Unknown ∷ [])))
    by_word true bad = inl ([], refl)
    by_word false true = inr (Unsatisfiable, refl, λ items. (SaysUnsatisfiable, refl))
    by_word false false = unknown

    by_status : (words : List (List ℕ)) → Said-ok (status words)
    by_status [] = unknown
    by_status (word ∷ []) = by_word (bytes_eq word (codes "SATISFIABLE")) (bytes_eq word (codes "UNSATISFIABLE"))
    by_status (word ∷ (other ∷ words)) = unknown

    by_first : (c v s : Bool) → Said-ok (cond c [] (cond v (map Word words) (cond s (status words) (Unknown ∷ []))))
    by_first true v s = inl ([], refl)
    by_first false true s = inl (words, refl)
    by_first false false true = by_status words
    by_first false false false = unknown

-- lines without a fault say words alone
pub said_words : (lines : List (List ℕ)) (line : ℕ) (done : List (ℕ × Said)) → IsFaultless model_fault (done ++ said_from line lines) → (ws : List (List ℕ)) × (flat_map (λ l. said (words_of l)) lines ≡ map Word ws)
said_words [] line done clear = ([], refl)
said_words (first ∷ rest) line done clear =
    elim (words_or_refused (words_of first)) [
      | inl (ws, e) ↦ (
          let here = at_line line (said (words_of first)) in
          let more = said_words rest (line + 1) (done ++ here) (subst (λ (items : List (ℕ × Said)). IsFaultless model_fault items) (sym (append_assoc done here (said_from (line + 1) rest))) clear) in
          (ws ++ more.0, (λ i. e i ++ more.1 i) ∙ sym (map-append Word ws more.0)))
      | inr (thing, e, refused) ↦ (
          let parts : done ++ said_from line (first ∷ rest) ≡ done ++ (line, thing) ∷ said_from (line + 1) rest = λ i. done ++ (at_line line (e i) ++ said_from (line + 1) rest) in
          let fault = refused done in
          absurd (none_is_some (fault.0, line) (sym (clear done (line, thing) (said_from (line + 1) rest) parts) ∙ ap (option_map (λ cause. (cause, line))) fault.1)))
    ]

-- what lines say, and the end
record AreParts (line : ℕ) (lines : List (List ℕ)) : Type 0 where
  items : List (ℕ × Said)
  last : ℕ
  told : said_from line lines ≡ items ++ (last, End) ∷ []
  things : map (λ (item : ℕ × Said). item.1) items ≡ flat_map (λ l. said (words_of l)) lines

without_lines : (line : ℕ) (things : List Said) → map (λ (item : ℕ × Said). item.1) (at_line line things) ≡ things
without_lines line [] = refl
without_lines line (thing ∷ things) = ap (λ l. thing ∷ l) (without_lines line things)

in_parts : (line : ℕ) (lines : List (List ℕ)) → AreParts line lines
in_parts line [] = record { items = []; last = line; told = refl; things = refl }
in_parts line (first ∷ rest) =
    let more = in_parts (line + 1) rest in
    let here = at_line line (said (words_of first)) in
    record {
      items = here ++ more.items;
      last = more.last;
      told = ap (λ l. here ++ l) more.told ∙ sym (append_assoc here more.items ((more.last, End) ∷ []));
      things = map-append (λ (item : ℕ × Said). item.1) here more.items ∙ (λ i. without_lines line (said (words_of first)) i ++ more.things i);
    }

-- items that are words
record AreWorded (items : List (ℕ × Said)) (ws : List (List ℕ)) : Type 0 where
  words : List (ℕ × List ℕ)
  told : items ≡ worded words
  same : words_alone words ≡ ws

one_more_worded : (item : ℕ × Said) (items : List (ℕ × Said)) (w : List ℕ) (ws : List (List ℕ)) → item.1 ≡ Word w → AreWorded items ws → AreWorded (item ∷ items) (w ∷ ws)
one_more_worded item items w ws e h = record {
  words = (item.0, w) ∷ h.words;
  told = λ i. (item.0, e i) ∷ h.told i;
  same = ap (λ l. w ∷ l) h.same;
}

are_worded : (items : List (ℕ × Said)) (ws : List (List ℕ)) → map (λ (item : ℕ × Said). item.1) items ≡ map Word ws → AreWorded items ws
are_worded [] [] e = record { words = []; told = refl; same = refl }
are_worded [] (w ∷ ws) e = absurd (cc)
are_worded (item ∷ items) [] e = absurd (cc)
are_worded (item ∷ items) (w ∷ ws) e = one_more_worded item items w ws (cc) (are_worded items ws (cc))

-- lines that say these words, and the end
pub record AreToldWords (lines : List (List ℕ)) (ws : List (List ℕ)) : Type 0 where
  pub words : List (ℕ × List ℕ)
  pub last : ℕ
  pub told : said_from 1 lines ≡ worded words ++ (last, End) ∷ []
  pub same : words_alone words ≡ ws

pub told_words : (lines : List (List ℕ)) (ws : List (List ℕ)) → flat_map (λ l. said (words_of l)) lines ≡ map Word ws → AreToldWords lines ws
told_words lines ws e =
    let parts = in_parts 1 lines in
    let found = are_worded parts.items ws (parts.things ∙ e) in
    record { words = found.words; last = parts.last; told = parts.told ∙ ap (λ l. l ++ (parts.last, End) ∷ []) found.told; same = found.same }

-- no fault of a thing, and no fault with its line
no_cause : (o : Option ModelCause) (line : ℕ) → option_map {U = ModelCause × ℕ} (λ cause. (cause, line)) o ≡ None → o ≡ None
no_cause None line e = refl
no_cause (Some cause) line e = absurd (none-some (cause, line) (sym e))

-- a number without a fault
numbered : (before : List (ℕ × Said)) (o : Option ℤ) → number_fault before o ≡ None → (z : ℤ) × (o ≡ Some z) × (list_any (writes (neg_ℤ z)) before ≡ false)
numbered before None e = absurd (none-some BadNumber (sym e))
numbered before (Some z) e = (z, refl, free (list_any (writes (neg_ℤ z)) before) e)
  where
    free : (b : Bool) → cond b (Some Clash) None ≡ None → b ≡ false
    free true f = absurd (none-some Clash (sym f))
    free false f = refl

-- words that are literals and then one zero
pub record AreEnded (words : List (List ℕ)) : Type 0 where
  pub literals : List ℤ
  pub numbers : map model_number words ≡ map Some (literals ++ pos 0 ∷ [])
  pub written : is_clause literals ≡ true
  pub apart : NoClash literals

-- the end of the text has a fault before the zero
not_at_end : (before : List (ℕ × Said)) (words : List (List ℕ)) (zs : List ℤ) (last : ℕ) → AreOpen before words zs → model_fault before (last, End) ≡ None → ⊥
not_at_end before words zs last h none =
    none-some (Unended, last) (sym (ap (λ b. option_map (λ cause. (cause, last)) (cond b None (Some Unended))) (sym (h.found (pos 0) ∙ no_zero zs h.written)) ∙ none))

-- a word without a fault
word_numbered : (before : List (ℕ × Said)) (words : List (List ℕ)) (zs : List ℤ) (line : ℕ) (word : List ℕ) → AreOpen before words zs → model_fault before (line, Word word) ≡ None →
    (z : ℤ) × (model_number word ≡ Some z) × (has zs (neg_ℤ z) ≡ false)
word_numbered before words zs line word h none =
    let still = h.found (pos 0) ∙ no_zero zs h.written in
    let found = numbered before (model_number word) (
    ap (λ b. cond b (Some BadLine) (number_fault before (model_number word))) (sym still) ∙ no_cause (said_fault before (Word word)) line none) in
    (found.0, found.1, sym (h.found (neg_ℤ found.0)) ∙ found.2)

-- after the zero no word stands
ended_words : (rest : List (ℕ × List ℕ)) (last : ℕ) (before : List (ℕ × Said)) (words : List (List ℕ)) (zs : List ℤ) (line : ℕ) (word : List ℕ) → AreOpen before words zs → model_number word ≡ Some (pos 0) →
    IsFaultless model_fault ((before ++ (line, Word word) ∷ []) ++ (worded rest ++ (last, End) ∷ [])) → AreEnded (words ++ word ∷ words_alone rest)
ended_words [] last before words zs line word h m clear = record {
  literals = zs;
  numbers = map_push model_number words word ∙ (λ i. h.numbers i ++ m i ∷ []) ∙ sym (map_push Some zs (pos 0));
  written = h.written;
  apart = h.apart;
}
ended_words (w ∷ rest) last before words zs line word h m clear =
    let now = before ++ (line, Word word) ∷ [] in
    let closed : list_any (writes (pos 0)) now ≡ true = found_push before zs line word (pos 0) h.found m (pos 0) ∙ has_push zs (pos 0) (pos 0) ∙ or_right (has zs (pos 0)) true (same_integer (pos 0)) in
    absurd (none-some (BadLine, w.0) (
    sym (ap (λ b. option_map (λ cause. (cause, w.0)) (cond b (Some BadLine) (number_fault now (model_number w.1)))) (sym closed)
    ∙ clear now (w.0, Word w.1) (worded rest ++ (last, End) ∷ []) refl)))

-- words without a fault are literals and then one zero
pub walk : (rest : List (ℕ × List ℕ)) (last : ℕ) (before : List (ℕ × Said)) (words : List (List ℕ)) (zs : List ℤ) → AreOpen before words zs →
    IsFaultless model_fault (before ++ (worded rest ++ (last, End) ∷ [])) → AreEnded (words ++ words_alone rest)
walk [] last before words zs h clear = absurd (not_at_end before words zs last h (clear before (last, End) [] refl))
walk (w ∷ rest) last before words zs h clear =
    let found = word_numbered before words zs w.0 w.1 h (clear before (w.0, Word w.1) (worded rest ++ (last, End) ∷ []) refl) in
    let on : IsFaultless model_fault ((before ++ (w.0, Word w.1) ∷ []) ++ (worded rest ++ (last, End) ∷ [])) =
    subst (λ (items : List (ℕ × Said)). IsFaultless model_fault items) (sym (append_assoc before ((w.0, Word w.1) ∷ []) (worded rest ++ (last, End) ∷ []))) clear in
    by_number found.0 found.1 found.2 on (walk rest last)
  where
    by_number : (z : ℤ) → model_number w.1 ≡ Some z → has zs (neg_ℤ z) ≡ false → IsFaultless model_fault ((before ++ (w.0, Word w.1) ∷ []) ++ (worded rest ++ (last, End) ∷ [])) →
        ((b : List (ℕ × Said)) (ws : List (List ℕ)) (ys : List ℤ) → AreOpen b ws ys → IsFaultless model_fault (b ++ (worded rest ++ (last, End) ∷ [])) → AreEnded (ws ++ words_alone rest)) →
        AreEnded (words ++ w.1 ∷ words_alone rest)
    by_number (pos zero) m free on next = ended_words rest last before words zs w.0 w.1 h m on
    by_number (pos (suc k)) m free on next =
        subst (λ (l : List (List ℕ)). AreEnded l) (append_assoc words (w.1 ∷ []) (words_alone rest))
        (next _ _ _ (open_push before words zs w.0 w.1 (pos (suc k)) h m (model_literal w.1 (pos (suc k)) m (omega arith)) free) on)
    by_number (negsuc k) m free on next =
        subst (λ (l : List (List ℕ)). AreEnded l) (append_assoc words (w.1 ∷ []) (words_alone rest))
        (next _ _ _ (open_push before words zs w.0 w.1 (negsuc k) h m (model_literal w.1 (negsuc k) m (omega arith)) free) on)

-- a word that is a number, whose negation did not come before, has no fault
word_clear : (before : List (ℕ × Said)) (words : List (List ℕ)) (zs : List ℤ) (line : ℕ) (word : List ℕ) (z : ℤ) → AreOpen before words zs → model_number word ≡ Some z → has zs (neg_ℤ z) ≡ false →
    model_fault before (line, Word word) ≡ None
word_clear before words zs line word z h m free =
    (λ i. option_map (λ cause. (cause, line)) (cond ((h.found (pos 0) ∙ no_zero zs h.written) i) (Some BadLine) (number_fault before (m i))))
    ∙ ap (λ b. option_map (λ cause. (cause, line)) (cond b (Some Clash) None)) (h.found (neg_ℤ z) ∙ free)

-- the zero and the end of the text have no fault
end_clear : (rest : List (ℕ × List ℕ)) (last : ℕ) (before : List (ℕ × Said)) (words : List (List ℕ)) (zs : List ℤ) (line : ℕ) (word : List ℕ) → AreOpen before words zs → IsFaultless model_fault before → model_number word ≡ Some (pos 0) →
    map model_number (words_alone rest) ≡ [] → IsFaultless model_fault (before ++ ((line, Word word) ∷ (worded rest ++ (last, End) ∷ [])))
end_clear (w ∷ rest) last before words zs line word h clear m none = absurd (cc)
end_clear [] last before words zs line word h clear m none =
    let now = before ++ (line, Word word) ∷ [] in
    let closed : list_any (writes (pos 0)) now ≡ true = found_push before zs line word (pos 0) h.found m (pos 0) ∙ has_push zs (pos 0) (pos 0) ∙ or_right (has zs (pos 0)) true (same_integer (pos 0)) in
    subst (λ (items : List (ℕ × Said)). IsFaultless model_fault items) (append_assoc before ((line, Word word) ∷ []) ((last, End) ∷ []))
    (faultless_push model_fault now (last, End)
    (faultless_push model_fault before (line, Word word) clear (word_clear before words zs line word (pos 0) h m (no_zero zs h.written)))
    (ap (λ b. option_map (λ cause. (cause, last)) (cond b None (Some Unended))) closed))

-- words that are literals and then one zero have no fault
clear_walk : (rest : List (ℕ × List ℕ)) (last : ℕ) (before : List (ℕ × Said)) (words : List (List ℕ)) (zs more : List ℤ) → AreOpen before words zs → IsFaultless model_fault before →
    map model_number (words_alone rest) ≡ map Some (more ++ pos 0 ∷ []) → is_clause more ≡ true → NoClash (zs ++ more) → IsFaultless model_fault (before ++ (worded rest ++ (last, End) ∷ []))
clear_walk [] last before words zs [] h clear e written apart = absurd (cc)
clear_walk [] last before words zs (z ∷ more) h clear e written apart = absurd (cc)
clear_walk (w ∷ rest) last before words zs [] h clear e written apart = end_clear rest last before words zs w.0 w.1 h clear (cc) (cc)
clear_walk (w ∷ rest) last before words zs (z ∷ more) h clear e written apart =
    let m : model_number w.1 ≡ Some z = cc in
    let others : map model_number (words_alone rest) ≡ map Some (more ++ pos 0 ∷ []) = cc in
    let parts = and_parts (is_literal z) (is_clause more) written in
    let here : has (zs ++ z ∷ more) z ≡ true = list_any-append (int_eq z) zs (z ∷ more) ∙ or_right (has zs z) (has (z ∷ more) z) (or_left (int_eq z z) (has more z) (same_integer z)) in
    let free : has zs (neg_ℤ z) ≡ false = (or_parts (has zs (neg_ℤ z)) (has (z ∷ more) (neg_ℤ z)) (sym (list_any-append (int_eq (neg_ℤ z)) zs (z ∷ more)) ∙ apart z here)).0 in
    subst (λ (items : List (ℕ × Said)). IsFaultless model_fault items) (append_assoc before ((w.0, Word w.1) ∷ []) (worded rest ++ (last, End) ∷ []))
    (clear_walk rest last (before ++ (w.0, Word w.1) ∷ []) (words ++ w.1 ∷ []) (zs ++ z ∷ []) more
    (open_push before words zs w.0 w.1 z h m parts.0 free)
    (faultless_push model_fault before (w.0, Word w.1) clear (word_clear before words zs w.0 w.1 z h m free))
    others parts.1 (subst (λ (l : List ℤ). NoClash l) (sym (append_assoc zs (z ∷ []) more)) apart))

no_clash_of : (zs : List ℤ) → ((z : ℤ) → Contains zs z → Contains zs (neg_ℤ z) → ⊥) → NoClash zs
no_clash_of zs apart z h = false_from_ne_true (has zs (neg_ℤ z)) (λ k. apart z (has_contains zs z h) (has_contains zs (neg_ℤ z) k))

apart_of : (zs : List ℤ) → NoClash zs → (z : ℤ) → Contains zs z → Contains zs (neg_ℤ z) → ⊥
apart_of zs none z h k = true≢false (sym (contains_has zs (neg_ℤ z) k) ∙ none z (contains_has zs z h))

-- a text that spells a model has no fault
pub spelled_model_clear : (text : List ℕ) (values : List Bool) → SpellsModel text values → IsFaultless model_fault (said_from 1 (lines_of text))
spelled_model_clear text values h =
    let t = told_words (lines_of text) h.words h.lines in
    subst (λ (items : List (ℕ × Said)). IsFaultless model_fault items) (sym t.told)
    (clear_walk t.words t.last [] [] [] h.literals none_open (faultless_nil model_fault) (ap (map model_number) t.same ∙ h.numbers) h.written (no_clash_of h.literals h.apart))

-- the variables of the positive literals are true
variables_of : (values : List Bool) (zs : List ℤ) → is_clause zs ≡ true → ((k : ℕ) → value_of values (suc k) ≡ has zs (pos (suc k))) → (n : ℕ) → (value_of values n ≡ true) ↔ Contains zs (pos n)
variables_of values zs written found zero = (λ e. absurd (true≢false (sym e)), λ h. absurd (true≢false (sym (contains_has zs (pos 0) h) ∙ no_zero zs written)))
variables_of values zs written found (suc k) = (λ e. has_contains zs (pos (suc k)) (sym (found k) ∙ e), λ h. found k ∙ contains_has zs (pos (suc k)) h)

pub spelled_from : (text : List ℕ) (values : List Bool) (words : List (List ℕ)) → flat_map (λ line. said (words_of line)) (lines_of text) ≡ map Word words → (e : AreEnded words) →
    ((k : ℕ) → value_of values (suc k) ≡ has e.literals (pos (suc k))) → SpellsModel text values
spelled_from text values words lines e found = record {
  words = words;
  literals = e.literals;
  lines = lines;
  numbers = e.numbers;
  written = e.written;
  apart = apart_of e.literals e.apart;
  true_variables = variables_of values e.literals e.written found;
}

-- what is found among words with these numbers
found_all : (words : List (ℕ × List ℕ)) (zs : List ℤ) (z : ℤ) → map model_number (words_alone words) ≡ map Some zs → list_any (writes z) (worded words) ≡ has zs z
found_all [] [] z e = refl
found_all [] (y ∷ zs) z e = absurd (cc)
found_all (w ∷ words) [] z e = absurd (cc)
found_all (w ∷ words) (y ∷ zs) z e =
    let m : model_number w.1 ≡ Some y = cc in
    let more : map model_number (words_alone words) ≡ map Some zs = cc in
    λ i. option_eq int_eq (Some z) (m i) || found_all words zs z more i

-- a text without a fault
record IsReadModel (text : List ℕ) : Type 0 where
  words : List (List ℕ)
  lines : flat_map (λ line. said (words_of line)) (lines_of text) ≡ map Word words
  ended : AreEnded words
  found : (z : ℤ) → list_any (writes z) (said_from 1 (lines_of text)) ≡ has (ended.literals ++ pos 0 ∷ []) z

or_false_twice : (b : Bool) → (b || (false || false)) ≡ b
or_false_twice true = refl
or_false_twice false = refl

clear_read : (text : List ℕ) → IsFaultless model_fault (said_from 1 (lines_of text)) → IsReadModel text
clear_read text clear =
    let ws = said_words (lines_of text) 1 [] clear in
    let t = told_words (lines_of text) ws.0 ws.1 in
    let all : AreEnded (words_alone t.words) = walk t.words t.last [] [] [] none_open (subst (λ (items : List (ℕ × Said)). IsFaultless model_fault items) t.told clear) in
    record {
      words = words_alone t.words;
      lines = ws.1 ∙ ap (map Word) (sym t.same);
      ended = all;
      found = λ z. ap (list_any (writes z)) t.told ∙ list_any-append (writes z) (worded t.words) ((t.last, End) ∷ [])
          ∙ or_false_twice (list_any (writes z) (worded t.words)) ∙ found_all t.words (all.literals ++ pos 0 ∷ []) z all.numbers;
    }

pub spelled_by_model : (text : List ℕ) (values : List Bool) → IsFaultless model_fault (said_from 1 (lines_of text)) →
    ((k : ℕ) → value_of values (suc k) ≡ list_any (writes (pos (suc k))) (said_from 1 (lines_of text))) → SpellsModel text values
spelled_by_model text values clear found =
    let r = clear_read text clear in
    spelled_from text values r.words r.lines r.ended (λ k.
    found k ∙ r.found (pos (suc k)) ∙ has_push r.ended.literals (pos 0) (pos (suc k))
    ∙ ap (λ b. has r.ended.literals (pos (suc k)) || b) (other_integer (pos (suc k)) (pos 0) (λ e. absurd (cc))) ∙ or_false (has r.ended.literals (pos (suc k))))

-- each text spells a model or has a first fault
pub spelled_or_refused_model : (text : List ℕ) → ((values : List Bool) × SpellsModel text values) ⊎ ((cause : ModelCause) × (line : ℕ) × HasModelFault text cause line)
spelled_or_refused_model text =
    elim (either model_fault (said_from 1 (lines_of text))) [
      | inl clear ↦ (let r = clear_read text clear in inl (values_of r.ended.literals, spelled_from text (values_of r.ended.literals) r.words r.lines r.ended (values_found r.ended.literals)))
      | inr (place, found, h) ↦ inr (found.0, found.1, (place, h))
    ]

pub never_both_model : (text : List ℕ) (values : List Bool) (cause : ModelCause) (line : ℕ) → SpellsModel text values → HasModelFault text cause line → ⊥
never_both_model text values cause line h fault =
    let first = fault.1 in
    none_is_some (cause, line) (sym (spelled_model_clear text values h first.before first.item first.after first.parts) ∙ first.faulty)

same_words : (v w : List (List ℕ)) → map Word v ≡ map Word w → v ≡ w
same_words [] [] e = refl
same_words [] (y ∷ w) e = absurd (cc)
same_words (x ∷ v) [] e = absurd (cc)
same_words (x ∷ v) (y ∷ w) e =
    let head : x ≡ y = cc in
    let tail : v ≡ w = same_words v w (cc) in
    λ i. head i ∷ tail i

not_ended : (zs : List ℤ) → map Some (zs ++ pos 0 ∷ []) ≡ [] → ⊥
not_ended [] e = cc
not_ended (z ∷ zs) e = cc

same_literals : (v w : List ℤ) → map Some (v ++ pos 0 ∷ []) ≡ map Some (w ++ pos 0 ∷ []) → v ≡ w
same_literals [] [] e = refl
same_literals [] (y ∷ w) e = absurd (not_ended w (cc))
same_literals (x ∷ v) [] e = absurd (not_ended v (cc))
same_literals (x ∷ v) (y ∷ w) e =
    let head : x ≡ y = cc in
    let tail : v ≡ w = same_literals v w (cc) in
    λ i. head i ∷ tail i

pub one_spelled_model : (text : List ℕ) (first second : List Bool) → SpellsModel text first → SpellsModel text second → (n : ℕ) → value_of first n ≡ value_of second n
one_spelled_model text first second h k n =
    let words : h.words ≡ k.words = same_words h.words k.words (sym h.lines ∙ k.lines) in
    let literals : h.literals ≡ k.literals = same_literals h.literals k.literals (sym h.numbers ∙ ap (map model_number) words ∙ k.numbers) in
    same_from_decides (value_of first n) (value_of second n)
    (subst (λ (zs : List ℤ). (value_of first n ≡ true) ↔ Contains zs (pos n)) literals (h.true_variables n))
    (k.true_variables n)
