-- The canonical text of a derivation spells it.
use Rattle.std.proofs.Common.{◌≡◌, ℕ, ◌^◌, ◌<◌, ◌≤◌, List, [], ◌∷◌, ◌++◌, length, map, drop, suc, Bool, true, false, not, refl, ap, sym, ◌∙◌, subst, arith, append_assoc, append-nil, ◌&&◌}
use Rattle.std.specs.Prelude.{ℤ, pos, negsuc, nat_abs, Some, codes, nat_lt, nat_le, ◌==◌, slice_index}
use Rattle.std.specs.Char.{is_ascii_digit}
use Rattle.std.specs.Int.{is_negative}
use Rattle.std.specs.List.{list_all, list_any, flat_map, AllZip}
use Rattle.std.specs.Fmt.{decimal, signed_decimal}
use Rattle.std.specs.Str.Parse.{digits_value}
use Rattle.std.proofs.lemmas.Bool.{and_parts, and_from, or_from, cond-false, false≢true, true≢false, ne_eqb, leb-true, le-leb}
use Rattle.std.proofs.lemmas.Bool.Decides.{nat_tests}
use Rattle.std.proofs.lemmas.Int.{ints}
use Rattle.std.proofs.lemmas.Fmt.{decimal_digit}
use Rattle.std.proofs.lemmas.List.{map-append}
use Rattle.std.proofs.lemmas.List.Folds.{list_any-append, list_all-append, flat_map-map}
use Rattle.std.proofs.lemmas.Grind.{flat_map-append}
use Rattle.std.proofs.lemmas.Option.{cond_some}
use Rattle.dimacs.specs.Literal.{is_literal, is_clause, most_variable}
use Rattle.text_lines.specs.Kept.{is_dimacs_skipped, dimacs_kept}
use Rattle.text_lines.specs.Lines.{lines_of, is_line_feed}
use Rattle.text_lines.specs.Numbers.{solver_number, is_digits, is_plain, has_minus, digits_after_sign}
use Rattle.text_lines.specs.Words.{words_of, is_blank, is_empty}
use Rattle.text_lines.proofs.Cutting.LineLemmas.{line_ended, one_word, word_ended}
use Rattle.text_lines.proofs.Decimals.PlainLemmas.{decimal_is_plain, not_empty}
use Rattle.text_lines.proofs.Decimals.SolverLemmas.{read_number}
use Rattle.text_lines.proofs.Decimals.IntegerLemmas.{not_negative}
use Rattle.text_lines.proofs.Cutting.KeptLemmas.{kept_more}
use Rattle.text_lines.proofs.Decimals.DigitLemmas.{none_in_digits, digit_no_blank, digit_no_feed}
use Rattle.lrat_check.specs.Derivation.{is_step, are_steps}
use Rattle.lrat_check.specs.LratText.{SpellsDerivation, IsStepLine, Says, ended, is_id, is_id_number, is_lrat_step, most_id}
use Rattle.lrat_check.specs.LratWritten.{canonical_derivation, step_line, list_text}
use Rattle.lrat_check.specs.declared.derivation.Step.{Step}
use Rattle.lrat_check.specs.declared.derivation.Step.TheVariants.{Addition, Deletion}

-- a digit is no other byte
digit_apart : (k x : ℕ) → is_ascii_digit k ≡ false → is_ascii_digit x ≡ true → (x == k) ≡ false
digit_apart k x other digit = ne_eqb x k (λ e. true≢false (sym digit ∙ ap is_ascii_digit e ∙ other))

first_apart : (k : ℕ) → is_ascii_digit k ≡ false → (0 == k) ≡ false → (ds : List ℕ) → list_all is_ascii_digit ds ≡ true → (slice_index ds 0 == k) ≡ false
first_apart k other none [] h = none
first_apart k other none (d ∷ ds) h = digit_apart k d other (and_parts (is_ascii_digit d) (list_all is_ascii_digit ds) h).0

-- the digits of a number
record AreDigitsOf (n : ℕ) (ds : List ℕ) : Type 0 where
  pub digits : is_digits ds ≡ true
  pub all : list_all is_ascii_digit ds ≡ true
  pub some : 0 < length ds
  pub value : digits_value 10 ds ≡ n

digits_of : (n : ℕ) → n ≤ most_id → AreDigitsOf n (decimal n)
digits_of n h =
    let small : n < 2 ^ 64 = omega (arith, h) in
    let plain = cond_some (is_plain (decimal n)) (digits_value 10 (decimal n)) n (decimal_is_plain n small) in
    let digits = (and_parts (is_digits (decimal n)) _ plain.0).0 in
    let parts = and_parts (not (is_empty (decimal n))) (list_all is_ascii_digit (decimal n)) digits in
    record { digits = digits; all = parts.1; some = not_empty (decimal n) parts.0; value = plain.1 }

-- bytes that are one word of a line
record IsWord (word : List ℕ) : Type 0 where
  pub some : 0 < length word
  pub no_blank : list_any is_blank word ≡ false
  pub no_feed : list_any is_line_feed word ≡ false

abbrev AreWords : List (List ℕ) → Type 0
AreWords [] = Unit {0}
AreWords (word ∷ words) = IsWord word × AreWords words

decimal_word : (n : ℕ) → n ≤ most_id → IsWord (decimal n)
decimal_word n h =
    let d = digits_of n h in
    record { some = d.some; no_blank = none_in_digits is_blank digit_no_blank (decimal n) d.all; no_feed = none_in_digits is_line_feed digit_no_feed (decimal n) d.all }

-- whether a number is small enough to be written
abbrev is_small : ℤ → Bool
is_small z = nat_le (nat_abs z) most_id

number_word : (z : ℤ) → is_small z ≡ true → IsWord (signed_decimal z)
number_word (pos n) h = decimal_word n (leb-true n most_id h)
number_word (negsuc n) h =
    let d = decimal_word (suc n) (leb-true (suc n) most_id h) in
    record { some = omega (arith, d.some); no_blank = d.no_blank; no_feed = d.no_feed }

same_integer : (y z : ℤ) → is_negative y ≡ is_negative z → nat_abs y ≡ nat_abs z → y ≡ z
same_integer y z e f = grind (arith, ints, nat_tests)

is_negative_negsuc : (n : ℕ) → is_negative (negsuc n) ≡ true
is_negative_negsuc n = grind (arith, ints, nat_tests)

-- what is written is read
number_read : (z : ℤ) → is_small z ≡ true → solver_number (signed_decimal z) ≡ Some z
number_read (pos n) h =
    let d = digits_of n (leb-true n most_id h) in
    let minus : has_minus (decimal n) ≡ false = first_apart 45 refl refl (decimal n) d.all in
    let after : digits_after_sign (decimal n) ≡ decimal n = cond-false (has_minus (decimal n)) (drop 1 (decimal n)) (decimal n) minus in
    let read = read_number (decimal n) false minus (ap is_digits after ∙ d.digits) (λ e. absurd (false≢true e)) in
    read.is ∙ ap Some (same_integer read.number (pos n) (read.sign ∙ sym (not_negative n)) (read.size ∙ ap (digits_value 10) after ∙ d.value))
number_read (negsuc n) h =
    let d = digits_of (suc n) (leb-true (suc n) most_id h) in
    let word = 45 ∷ decimal (suc n) in
    let read = read_number word true refl d.digits (λ _ zero. (let none : suc n ≡ 0 = sym d.value ∙ zero in omega (arith, none))) in
    read.is ∙ ap Some (same_integer read.number (negsuc n) (read.sign ∙ sym (is_negative_negsuc n)) (read.size ∙ d.value))

number_words : (zs : List ℤ) → list_all is_small zs ≡ true → AreWords (map signed_decimal zs)
number_words [] h = tt
number_words (z ∷ zs) h = let parts = and_parts (is_small z) (list_all is_small zs) h in (number_word z parts.0, number_words zs parts.1)

numbers_read : (zs : List ℤ) → list_all is_small zs ≡ true → Says (map signed_decimal zs) zs
numbers_read [] h = refl
numbers_read (z ∷ zs) h =
    let parts = and_parts (is_small z) (list_all is_small zs) h in
    let first = number_read z parts.0 in
    let later = numbers_read zs parts.1 in
    (λ i. first i ∷ later i)

-- words, each after a space
abbrev behind_spaces : List (List ℕ) → List ℕ
behind_spaces words = flat_map (λ word. 32 ∷ word) words

joined_words : (word : List ℕ) (words : List (List ℕ)) → IsWord word → AreWords words → words_of (word ++ behind_spaces words) ≡ word ∷ words
joined_words word [] w ws = ap words_of (append-nil word) ∙ one_word word w.some w.no_blank
joined_words word (next ∷ words) w ws =
    word_ended word 32 (next ++ behind_spaces words) w.some w.no_blank refl ∙ ap (λ l. word ∷ l) (joined_words next words ws.0 ws.1)

no_feeds : (words : List (List ℕ)) → AreWords words → list_any is_line_feed (behind_spaces words) ≡ false
no_feeds [] ws = refl
no_feeds (word ∷ words) ws = list_any-append is_line_feed (32 ∷ word) (behind_spaces words) ∙ or_from _ _ ws.0.no_feed (no_feeds words ws.1)

no_feed_in : (word : List ℕ) (words : List (List ℕ)) → IsWord word → AreWords words → list_any is_line_feed (word ++ behind_spaces words) ≡ false
no_feed_in word words w ws = list_any-append is_line_feed word (behind_spaces words) ∙ or_from _ _ w.no_feed (no_feeds words ws)

spaces_append : (a b : List (List ℕ)) → behind_spaces (a ++ b) ≡ behind_spaces a ++ behind_spaces b
spaces_append a b = flat_map-append (λ word. 32 ∷ word) a b

-- a list as its words
list_words : (zs : List ℤ) → list_text zs ≡ behind_spaces (map signed_decimal (ended zs))
list_words zs =
    let zero : signed_decimal (pos 0) ≡ 48 ∷ [] = decimal_digit 0 (omega arith) in
    let last : codes " 0" ≡ behind_spaces (signed_decimal (pos 0) ∷ []) = ap (λ w. 32 ∷ w) (sym zero ∙ sym (append-nil (signed_decimal (pos 0)))) in
    let front : flat_map (λ z. 32 ∷ signed_decimal z) zs ≡ behind_spaces (map signed_decimal zs) = sym (flat_map-map (λ word. 32 ∷ word) signed_decimal zs) in
    (λ i. front i ++ last i)
    ∙ sym (spaces_append (map signed_decimal zs) (signed_decimal (pos 0) ∷ []))
    ∙ ap behind_spaces (sym (map-append signed_decimal zs (pos 0 ∷ [])))

-- small numbers
literal_small : (z : ℤ) → is_literal z ≡ true → is_small z ≡ true
literal_small z h =
    let low : nat_abs z ≤ most_variable = leb-true (nat_abs z) most_variable (and_parts (nat_lt 0 (nat_abs z)) (nat_le (nat_abs z) most_variable) h).1 in
    le-leb (nat_abs z) most_id (omega (arith, low))

literals_small : (zs : List ℤ) → is_clause zs ≡ true → list_all is_small zs ≡ true
literals_small [] h = refl
literals_small (z ∷ zs) h = let parts = and_parts (is_literal z) (is_clause zs) h in and_from _ _ (literal_small z parts.0) (literals_small zs parts.1)

ids_small : (ids : List ℕ) → list_all is_id ids ≡ true → list_all is_small (map pos ids) ≡ true
ids_small [] h = refl
ids_small (id ∷ ids) h =
    let parts = and_parts (is_id id) (list_all is_id ids) h in
    and_from _ _ (and_parts (nat_lt 0 id) (nat_le id most_id) parts.0).1 (ids_small ids parts.1)

hints_small : (hints : List ℤ) → list_all is_id_number hints ≡ true → list_all is_small hints ≡ true
hints_small [] h = refl
hints_small (z ∷ hints) h =
    let parts = and_parts (is_id_number z) (list_all is_id_number hints) h in
    and_from _ _ (and_parts (nat_lt 0 (nat_abs z)) (nat_le (nat_abs z) most_id) parts.0).1 (hints_small hints parts.1)

ended_small : (zs : List ℤ) → list_all is_small zs ≡ true → list_all is_small (ended zs) ≡ true
ended_small zs h = list_all-append is_small zs (pos 0 ∷ []) ∙ and_from _ _ h refl

-- the text of a line, without its line feed, as its words
record IsWritten (step : Step) : Type 0 where
  pub number : List ℕ
  pub words : List (List ℕ)
  pub line : step_line step ≡ (number ++ behind_spaces words) ++ 10 ∷ []
  pub number_is : IsWord number
  pub words_are : AreWords words
  pub step_is : IsStepLine (number ∷ words) step
  pub said : is_dimacs_skipped (number ∷ words) ≡ false

number_said : (n : ℕ) (words : List (List ℕ)) → n ≤ most_id → is_dimacs_skipped (decimal n ∷ words) ≡ false
number_said n words h = first_apart 99 refl refl (decimal n) (digits_of n h).all

addition_written : (id : ℕ) (literals hints : List ℤ) → is_lrat_step (Addition id literals hints) ≡ true → IsWritten (Addition id literals hints)
addition_written id literals hints h =
    let good = and_parts (is_id id) (is_clause literals && list_all is_id_number hints) h in
    let lists = and_parts (is_clause literals) (list_all is_id_number hints) good.1 in
    let size : nat_le id most_id ≡ true = (and_parts (nat_lt 0 id) (nat_le id most_id) good.0).1 in
    let a = ended literals in
    let b = ended hints in
    let small : list_all is_small (a ++ b) ≡ true = list_all-append is_small a b ∙ and_from _ _ (ended_small literals (literals_small literals lists.0)) (ended_small hints (hints_small hints lists.1)) in
    let both : list_text literals ++ list_text hints ≡ behind_spaces (map signed_decimal (a ++ b)) =
    (λ i. list_words literals i ++ list_words hints i) ∙ sym (spaces_append (map signed_decimal a) (map signed_decimal b)) ∙ ap behind_spaces (sym (map-append signed_decimal a b)) in
    record {
      number = decimal id;
      words = map signed_decimal (a ++ b);
      line = ap (λ l. decimal id ++ l) (sym (append_assoc (list_text literals) (list_text hints) (10 ∷ [])))
          ∙ sym (append_assoc (decimal id) (list_text literals ++ list_text hints) (10 ∷ []))
          ∙ ap (λ l. (decimal id ++ l) ++ 10 ∷ []) both;
      number_is = decimal_word id (leb-true id most_id size);
      words_are = number_words (a ++ b) small;
      step_is = numbers_read (pos id ∷ (a ++ b)) (and_from _ _ size small);
      said = number_said id (map signed_decimal (a ++ b)) (leb-true id most_id size);
    }

letter_word : IsWord (codes "d")
letter_word = record { some = omega arith; no_blank = refl; no_feed = refl }

deletion_written : (first : ℕ) (ids : List ℕ) → is_lrat_step (Deletion first ids) ≡ true → IsWritten (Deletion first ids)
deletion_written first ids h =
    let good = and_parts (nat_le first most_id) (list_all is_id ids) h in
    let a = ended (map pos ids) in
    let small : list_all is_small a ≡ true = ended_small (map pos ids) (ids_small ids good.1) in
    let both : codes " d" ++ list_text (map pos ids) ≡ behind_spaces (codes "d" ∷ map signed_decimal a) = ap (λ l. codes " d" ++ l) (list_words (map pos ids)) in
    record {
      number = decimal first;
      words = codes "d" ∷ map signed_decimal a;
      line = ap (λ l. decimal first ++ l) (sym (append_assoc (codes " d") (list_text (map pos ids)) (10 ∷ [])))
          ∙ sym (append_assoc (decimal first) (codes " d" ++ list_text (map pos ids)) (10 ∷ []))
          ∙ ap (λ l. (decimal first ++ l) ++ 10 ∷ []) both;
      number_is = decimal_word first (leb-true first most_id good.0);
      words_are = (letter_word, number_words a small);
      step_is = (decimal first, map signed_decimal a, refl, number_read (pos first) good.0, numbers_read a small);
      said = number_said first (codes "d" ∷ map signed_decimal a) (leb-true first most_id good.0);
    }

step_written : (step : Step) → is_lrat_step step ≡ true → IsWritten step
step_written (Addition id literals hints) h = addition_written id literals hints h
step_written (Deletion first ids) h = deletion_written first ids h

written_lines : (steps : List Step) → list_all is_lrat_step steps ≡ true → AllZip IsStepLine (dimacs_kept (lines_of (canonical_derivation steps))) steps
written_lines [] h = tt
written_lines (step ∷ steps) h =
    let parts = and_parts (is_lrat_step step) (list_all is_lrat_step steps) h in
    let w = step_written step parts.0 in
    let line = w.number ++ behind_spaces w.words in
    let words : words_of line ≡ w.number ∷ w.words = joined_words w.number w.words w.number_is w.words_are in
    let lines : lines_of (step_line step ++ canonical_derivation steps) ≡ line ∷ lines_of (canonical_derivation steps) =
    ap (λ l. lines_of (l ++ canonical_derivation steps)) w.line
    ∙ ap lines_of (append_assoc line (10 ∷ []) (canonical_derivation steps))
    ∙ line_ended line (canonical_derivation steps) (no_feed_in w.number w.words w.number_is w.words_are) in
    let all : dimacs_kept (lines_of (step_line step ++ canonical_derivation steps)) ≡ (w.number ∷ w.words) ∷ dimacs_kept (lines_of (canonical_derivation steps)) =
    ap dimacs_kept lines ∙ kept_more is_dimacs_skipped line (lines_of (canonical_derivation steps)) (ap is_dimacs_skipped words ∙ w.said) ∙ ap (λ l. l ∷ dimacs_kept (lines_of (canonical_derivation steps))) words in
    subst (λ (ls : List (List (List ℕ))). AllZip IsStepLine ls (step ∷ steps)) (sym all) (w.step_is, written_lines steps parts.1)

-- steps that can be written add clauses of literals
step_adds_clause : (step : Step) → is_lrat_step step ≡ true → is_step step ≡ true
step_adds_clause (Addition id literals hints) h =
    (and_parts (is_clause literals) (list_all is_id_number hints) (and_parts (is_id id) (is_clause literals && list_all is_id_number hints) h).1).0
step_adds_clause (Deletion first ids) h = refl

pub steps_add_clauses : (steps : List Step) → list_all is_lrat_step steps ≡ true → are_steps steps ≡ true
steps_add_clauses [] h = refl
steps_add_clauses (step ∷ steps) h =
    let parts = and_parts (is_lrat_step step) (list_all is_lrat_step steps) h in
    and_from (is_step step) (are_steps steps) (step_adds_clause step parts.0) (steps_add_clauses steps parts.1)

pub written_spells : (steps : List Step) → list_all is_lrat_step steps ≡ true → SpellsDerivation (canonical_derivation steps) steps
written_spells steps h = record { lines_are = written_lines steps h; written = h }
