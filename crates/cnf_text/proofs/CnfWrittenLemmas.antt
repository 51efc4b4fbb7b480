-- What the writer writes spells the formula.
use Rattle.std.proofs.Common.{◌≡◌, ◌≢◌, ℕ, suc, ◌+◌, ◌^◌, ◌<◌, ◌≤◌, List, [], ◌∷◌, ◌++◌, length, map, drop, Bool, true, false, not, refl, ap, sym, ◌∙◌, arith, append_assoc, length-append, eqb}
use Rattle.std.specs.Prelude.{Some, None, ℤ, pos, negsuc, neg_ℤ, nat_abs, nat_le, codes, slice_index, ◌==◌, if◌then◌else◌}
use Rattle.std.specs.List.{flat_map, list_all, list_any}
use Rattle.std.specs.Char.{is_ascii_digit}
use Rattle.std.specs.Fmt.{decimal, signed_decimal}
use Rattle.std.specs.Option.{option_and_then}
use Rattle.std.specs.Str.Parse.{digits_value}
use Rattle.std.proofs.lemmas.Bool.{and_parts, and_from, or_from}
use Rattle.std.proofs.lemmas.Bool.Decides.{nat_tests}
use Rattle.std.proofs.lemmas.Fmt.{decimal_is_IsNumeral}
use Rattle.std.proofs.lemmas.List.{map-append}
use Rattle.std.proofs.lemmas.List.Folds.{list_any-append}
use Rattle.std.proofs.lemmas.List.Concat.{flat_map-cons}
use Rattle.text_lines.specs.Kept.{is_dimacs_skipped}
use Rattle.text_lines.specs.Lines.{lines_of, is_line_feed}
use Rattle.text_lines.specs.Words.{words_of, is_blank, is_empty}
use Rattle.text_lines.specs.Numbers.{is_digits, has_minus, digits_after_sign, digits_up_to, solver_number}
use Rattle.text_lines.proofs.Cutting.LineLemmas.{line_ended, word_ended, one_word}
use Rattle.text_lines.proofs.Decimals.PlainLemmas.{own}
use Rattle.text_lines.proofs.Decimals.SolverLemmas.{chosen}
use Rattle.text_lines.proofs.Decimals.DigitLemmas.{digit_no_feed, digit_no_blank, none_in_digits}
use Rattle.cnf_text.specs.CnfLines.{begins_with, is_end, said_from, said_lines, words_of_line, placed_words}
use Rattle.cnf_text.specs.CnfReading.{header_of, header_of_counts, ended, SpellsCnf}
use Rattle.dimacs.specs.CnfText.{literal_text, clause_line, cnf_text}
use Rattle.dimacs.specs.Formula.{FormulaValue, is_formula}
use Rattle.dimacs.specs.Literal.{most_variable, is_literal_up_to, is_clause_up_to}
use Rattle.cnf_text.proofs.CnfLineLemmas.{more_said}
use Rattle.cnf_text.proofs.CnfBodyLemmas.{number_of}
use Rattle.cnf_text.proofs.CnfNumberLemmas.{literal_size, is_le}

-- digits
digits_of : (n : ℕ) → n < 2 ^ 64 → list_all is_ascii_digit (decimal n) ≡ true
digits_of n small = own.from (decimal n) (decimal_is_IsNumeral n small).0.1

some_digit : (n : ℕ) → n < 2 ^ 64 → 0 < length (decimal n)
some_digit n small = (decimal_is_IsNumeral n small).0.0

value_of_decimal : (n : ℕ) → n < 2 ^ 64 → digits_value 10 (decimal n) ≡ n
value_of_decimal n small = (decimal_is_IsNumeral n small).1

not_empty : {X : Type 0} (xs : List X) → 0 < length xs → is_empty xs ≡ false
not_empty xs l = grind (arith, nat_tests)

-- words that begin no comment are not skipped
not_skipped : (words : List (List ℕ)) → is_empty words ≡ false → begins_with 99 words ≡ false → is_dimacs_skipped words ≡ false
not_skipped [] some plain = absurd (cc)
not_skipped (word ∷ words) some plain = plain

are_digits : (n : ℕ) → n < 2 ^ 64 → is_digits (decimal n) ≡ true
are_digits n small = and_from _ _ (ap not (not_empty (decimal n) (some_digit n small))) (digits_of n small)

digit_range : (x : ℕ) → is_ascii_digit x ≡ true → (48 ≤ x) × (x ≤ 57)
digit_range x h = let both = and_parts (nat_le 48 x) (nat_le x 57) h in (grind (arith, nat_tests, both.0), grind (arith, nat_tests, both.1))

other_byte : (x y : ℕ) → x ≢ y → eqb x y ≡ false
other_byte x y h = grind (arith, nat_tests)

-- a byte below the digits is none of them, nor is one above
abbrev NoDigit : (ℕ → Bool) → Type 0
NoDigit q = (x : ℕ) → is_ascii_digit x ≡ true → q x ≡ false

below_digits : (b : ℕ) → b < 48 → NoDigit (λ x. x == b)
below_digits b l x h = let r = digit_range x h in other_byte x b (λ e. omega (arith, l, r.0, e))

above_digits : (b : ℕ) → 57 < b → NoDigit (λ x. x == b)
above_digits b l x h = let r = digit_range x h in other_byte x b (λ e. omega (arith, l, r.1, e))

none_in_decimal : (q : ℕ → Bool) → NoDigit q → (n : ℕ) → n < 2 ^ 64 → list_any q (decimal n) ≡ false
none_in_decimal q apart n small = none_in_digits q apart (decimal n) (digits_of n small)

none_in_signed : (q : ℕ → Bool) → NoDigit q → q 45 ≡ false → (z : ℤ) → nat_abs z < 2 ^ 64 → list_any q (signed_decimal z) ≡ false
none_in_signed q apart minus (pos n) small = none_in_decimal q apart n small
none_in_signed q apart minus (negsuc n) small = or_from (q 45) (list_any q (decimal (suc n))) minus (none_in_decimal q apart (suc n) small)

some_byte : (z : ℤ) → nat_abs z < 2 ^ 64 → 0 < length (signed_decimal z)
some_byte (pos n) small = some_digit n small
some_byte (negsuc n) small = omega arith

first_byte : (b : ℕ) (ds : List ℕ) → NoDigit (λ x. x == b) → 0 < length ds → list_all is_ascii_digit ds ≡ true → (slice_index ds 0 == b) ≡ false
first_byte b [] apart l h = absurd (omega (arith, l))
first_byte b (d ∷ ds) apart l h = apart d (and_parts (is_ascii_digit d) (list_all is_ascii_digit ds) h).0

first_of_signed : (b : ℕ) → NoDigit (λ x. x == b) → (45 == b) ≡ false → (z : ℤ) → nat_abs z < 2 ^ 64 → (slice_index (signed_decimal z) 0 == b) ≡ false
first_of_signed b apart minus (pos n) small = first_byte b (decimal n) apart (some_digit n small) (digits_of n small)
first_of_signed b apart minus (negsuc n) small = minus

-- a number that is written is read
pub signed_is_read : (z : ℤ) → nat_abs z < 2 ^ 64 → solver_number (signed_decimal z) ≡ Some z
signed_is_read (pos n) small =
    let no_minus : has_minus (decimal n) ≡ false = first_byte 45 (decimal n) (below_digits 45 (omega arith)) (some_digit n small) (digits_of n small) in
    let same : digits_after_sign (decimal n) ≡ decimal n = ap (λ b. if b then drop 1 (decimal n) else decimal n) no_minus in
    chosen (decimal n) false no_minus (ap is_digits same ∙ are_digits n small) refl ∙ ap (λ k. Some (pos k)) (value_of_decimal n small)
signed_is_read (negsuc n) small =
    chosen (45 ∷ decimal (suc n)) true refl (are_digits (suc n) small) (other_byte (digits_value 10 (decimal (suc n))) 0 (λ e. omega (arith, e, value_of_decimal (suc n) small)))
    ∙ ap (λ k. Some (neg_ℤ (pos k))) (value_of_decimal (suc n) small)

-- the line of a clause, without its line feed, and its words
abbrev line_of_clause : List ℤ → List ℕ
line_of_clause literals = flat_map literal_text literals ++ codes "0"

abbrev words_of_clause : List ℤ → List (List ℕ)
words_of_clause literals = map signed_decimal literals ++ codes "0" ∷ []

module _ (variables : ℕ) (few : variables ≤ most_variable) where
  small_literal : (z : ℤ) → is_literal_up_to variables z ≡ true → nat_abs z < 2 ^ 64
  small_literal z h = omega (arith, few, (literal_size variables z h).1)

  joined : (z : ℤ) (literals : List ℤ) → line_of_clause (z ∷ literals) ≡ signed_decimal z ++ 32 ∷ line_of_clause literals
  joined z literals = ap (λ l. l ++ codes "0") (flat_map-cons literal_text z literals) ∙ append_assoc (signed_decimal z ++ codes " ") (flat_map literal_text literals) (codes "0") ∙ append_assoc (signed_decimal z) (codes " ") (line_of_clause literals)

  clause_words : (literals : List ℤ) → is_clause_up_to variables literals ≡ true → words_of (line_of_clause literals) ≡ words_of_clause literals
  clause_words [] h = refl
  clause_words (z ∷ literals) h =
      let both = and_parts (is_literal_up_to variables z) (is_clause_up_to variables literals) h in
      let small = small_literal z both.0 in
      ap words_of (joined z literals) ∙ word_ended (signed_decimal z) 32 (line_of_clause literals) (some_byte z small) (none_in_signed is_blank digit_no_blank refl z small) refl
      ∙ ap (λ words. signed_decimal z ∷ words) (clause_words literals both.1)

  clause_on_line : (literals : List ℤ) → is_clause_up_to variables literals ≡ true → list_any is_line_feed (line_of_clause literals) ≡ false
  clause_on_line [] h = refl
  clause_on_line (z ∷ literals) h =
      let both = and_parts (is_literal_up_to variables z) (is_clause_up_to variables literals) h in
      ap (list_any is_line_feed) (joined z literals) ∙ list_any-append is_line_feed (signed_decimal z) (32 ∷ line_of_clause literals)
      ∙ or_from _ _ (none_in_signed is_line_feed digit_no_feed refl z (small_literal z both.0)) (or_from (is_line_feed 32) (list_any is_line_feed (line_of_clause literals)) refl (clause_on_line literals both.1))

  -- the first word begins with a minus or a digit
  clause_begins : (b : ℕ) → NoDigit (λ x. x == b) → (45 == b) ≡ false → (48 == b) ≡ false → (literals : List ℤ) → is_clause_up_to variables literals ≡ true → begins_with b (words_of_clause literals) ≡ false
  clause_begins b apart minus nought [] h = nought
  clause_begins b apart minus nought (z ∷ literals) h = first_of_signed b apart minus z (small_literal z (and_parts (is_literal_up_to variables z) (is_clause_up_to variables literals) h).0)

  some_word : (literals : List ℤ) → is_empty (words_of_clause literals) ≡ false
  some_word literals = not_empty (words_of_clause literals) (omega (arith, length-append (map signed_decimal literals) (codes "0" ∷ [])))

  clause_says : (literals : List ℤ) → is_clause_up_to variables literals ≡ true → (is_end (line_of_clause literals) ≡ false) × (is_dimacs_skipped (words_of (line_of_clause literals)) ≡ false)
  clause_says literals h = (
    ap (begins_with 37) (clause_words literals h) ∙ clause_begins 37 (below_digits 37 (omega arith)) refl refl literals h,
    ap is_dimacs_skipped (clause_words literals h) ∙ not_skipped (words_of_clause literals) (some_word literals) (clause_begins 99 (above_digits 99 (omega arith)) refl refl literals h),
  )

  clause_numbers : (n : ℕ) (literals : List ℤ) → is_clause_up_to variables literals ≡ true → map number_of (words_of_line (n, words_of_clause literals)) ≡ map Some (ended literals)
  clause_numbers n [] h = refl
  clause_numbers n (z ∷ literals) h =
      let both = and_parts (is_literal_up_to variables z) (is_clause_up_to variables literals) h in
      (λ i. signed_is_read z (small_literal z both.0) i ∷ clause_numbers n literals both.1 i)

  -- the lines of the clauses
  abbrev said_clauses : ℕ → List (List ℤ) → List (ℕ × List (List ℕ))
  said_clauses n [] = []
  said_clauses n (c ∷ clauses) = (n, words_of_clause c) ∷ said_clauses (n + 1) clauses

  lines_said : (n : ℕ) (clauses : List (List ℤ)) → list_all (is_clause_up_to variables) clauses ≡ true → said_from n (map line_of_clause clauses) ≡ said_clauses n clauses
  lines_said n [] h = refl
  lines_said n (c ∷ clauses) h =
      let both = and_parts (is_clause_up_to variables c) (list_all (is_clause_up_to variables) clauses) h in
      let says = clause_says c both.0 in
      more_said n (line_of_clause c) (map line_of_clause clauses) says.0 says.1
      ∙ (λ i. (n, clause_words c both.0 i) ∷ lines_said (n + 1) clauses both.1 i)

  numbers_said : (n : ℕ) (clauses : List (List ℤ)) → list_all (is_clause_up_to variables) clauses ≡ true → map number_of (placed_words (said_clauses n clauses)) ≡ map Some (flat_map ended clauses)
  numbers_said n [] h = refl
  numbers_said n (c ∷ clauses) h =
      let both = and_parts (is_clause_up_to variables c) (list_all (is_clause_up_to variables) clauses) h in
      ap (map number_of) (flat_map-cons words_of_line (n, words_of_clause c) (said_clauses (n + 1) clauses))
      ∙ map-append number_of (words_of_line (n, words_of_clause c)) (placed_words (said_clauses (n + 1) clauses))
      ∙ (λ i. clause_numbers n c both.0 i ++ numbers_said (n + 1) clauses both.1 i)
      ∙ sym (map-append Some (ended c) (flat_map ended clauses))
      ∙ ap (map Some) (sym (flat_map-cons ended c clauses))

  clause_lines : (clauses : List (List ℤ)) → list_all (is_clause_up_to variables) clauses ≡ true → lines_of (flat_map clause_line clauses) ≡ map line_of_clause clauses
  clause_lines [] h = refl
  clause_lines (c ∷ clauses) h =
      let both = and_parts (is_clause_up_to variables c) (list_all (is_clause_up_to variables) clauses) h in
      let whole : flat_map clause_line (c ∷ clauses) ≡ line_of_clause c ++ 10 ∷ flat_map clause_line clauses =
      flat_map-cons clause_line c clauses ∙ append_assoc (flat_map literal_text c) (codes "0\n") (flat_map clause_line clauses) ∙ sym (append_assoc (flat_map literal_text c) (codes "0") (10 ∷ flat_map clause_line clauses)) in
      ap lines_of whole ∙ line_ended (line_of_clause c) (flat_map clause_line clauses) (clause_on_line c both.0) ∙ ap (λ l. line_of_clause c ∷ l) (clause_lines clauses both.1)

-- the header's line, without its line feed
abbrev head : FormulaValue → List ℕ
head f = codes "p cnf " ++ (decimal f.variables ++ (codes " " ++ decimal (length f.clauses)))

abbrev head_words : FormulaValue → List (List ℕ)
head_words f = codes "p" ∷ codes "cnf" ∷ decimal f.variables ∷ decimal (length f.clauses) ∷ []

module _ (f : FormulaValue) (formula : is_formula f ≡ true) (few_variables : f.variables ≤ most_variable) (few_clauses : length f.clauses ≤ 16777216) where
  small_variables : f.variables < 2 ^ 64
  small_variables = omega (arith, few_variables)

  small_count : length f.clauses < 2 ^ 64
  small_count = omega (arith, few_clauses)

  head_read : words_of (head f) ≡ head_words f
  head_read =
      word_ended (codes "p") 32 (codes "cnf " ++ (decimal f.variables ++ (codes " " ++ decimal (length f.clauses)))) (omega arith) refl refl
      ∙ ap (λ words. codes "p" ∷ words) (word_ended (codes "cnf") 32 (decimal f.variables ++ (codes " " ++ decimal (length f.clauses))) (omega arith) refl refl
      ∙ ap (λ words. codes "cnf" ∷ words) (word_ended (decimal f.variables) 32 (decimal (length f.clauses)) (some_digit f.variables small_variables) (none_in_decimal is_blank digit_no_blank f.variables small_variables) refl
      ∙ ap (λ words. decimal f.variables ∷ words) (one_word (decimal (length f.clauses)) (some_digit (length f.clauses) small_count) (none_in_decimal is_blank digit_no_blank (length f.clauses) small_count))))

  head_on_line : list_any is_line_feed (head f) ≡ false
  head_on_line =
      list_any-append is_line_feed (codes "p cnf ") (decimal f.variables ++ (codes " " ++ decimal (length f.clauses)))
      ∙ (list_any-append is_line_feed (decimal f.variables) (codes " " ++ decimal (length f.clauses))
      ∙ or_from _ _ (none_in_decimal is_line_feed digit_no_feed f.variables small_variables) (none_in_decimal is_line_feed digit_no_feed (length f.clauses) small_count))

  text_lines : lines_of (cnf_text f) ≡ head f ∷ map line_of_clause f.clauses
  text_lines =
      let last : decimal f.variables ++ (codes " " ++ (decimal (length f.clauses) ++ codes "\n")) ≡ (decimal f.variables ++ (codes " " ++ decimal (length f.clauses))) ++ codes "\n" = sym (append_assoc (decimal f.variables) (codes " " ++ decimal (length f.clauses)) (codes "\n")) in
      let whole : cnf_text f ≡ head f ++ 10 ∷ flat_map clause_line f.clauses =
      ap (λ l. (codes "p cnf " ++ l) ++ flat_map clause_line f.clauses) last ∙ append_assoc (head f) (codes "\n") (flat_map clause_line f.clauses) in
      ap lines_of whole ∙ line_ended (head f) (flat_map clause_line f.clauses) head_on_line ∙ ap (λ l. head f ∷ l) (clause_lines f.variables few_variables f.clauses formula)

  count_read : (most n : ℕ) → n ≤ most → n < 2 ^ 64 → digits_up_to most (decimal n) ≡ Some n
  count_read most n within small =
      ap (λ b. option_and_then (λ k. if nat_le k most then Some k else None) (if b then Some (digits_value 10 (decimal n)) else None)) (are_digits n small)
      ∙ ap (λ v. if nat_le v most then Some v else None) (value_of_decimal n small)
      ∙ ap (λ b. if b then Some n else None) (is_le n most within)

  head_is_header : header_of (head_words f) ≡ Some (record { variables = f.variables; clauses = length f.clauses })
  head_is_header = (λ i. header_of_counts (count_read most_variable f.variables few_variables small_variables i) (count_read 16777216 (length f.clauses) few_clauses small_count i))

  said : said_lines (cnf_text f) ≡ (1, head_words f) ∷ said_clauses f.variables few_variables 2 f.clauses
  said =
      ap (said_from 1) text_lines
      ∙ more_said 1 (head f) (map line_of_clause f.clauses) (ap (begins_with 37) head_read) (ap is_dimacs_skipped head_read)
      ∙ (λ i. (1, head_read i) ∷ lines_said f.variables few_variables 2 f.clauses formula i)

  pub written_spells : SpellsCnf (cnf_text f) f
  written_spells = record {
    first = (1, head_words f);
    rest = said_clauses f.variables few_variables 2 f.clauses;
    lines = said;
    header = head_is_header;
    numbers = numbers_said f.variables few_variables 2 f.clauses formula;
    formula = formula;
  }
