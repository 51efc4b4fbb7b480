-- Short numbers at the front of a line.
use Rattle.std.proofs.Common.{◌≡◌, ◌≢◌, ℕ, zero, suc, ◌+◌, ◌-◌, ◌*◌, ◌%◌, ◌^◌, ◌<◌, ◌≤◌, List, [], ◌∷◌, ◌++◌, length, take, drop, get_or, Bool, true, false, cond, refl, ap, sym, ◌∙◌, subst, arith, take-append-drop, append-nil, length-drop}
use Rattle.std.specs.Prelude.{nat_le, ℤ, pos, neg_ℤ, Option, Some, None}
use Rattle.std.specs.Char.{is_ascii_digit, digit_value}
use Rattle.std.specs.List.{list_all, list_any}
use Rattle.std.specs.Str.Parse.{digits_value}
use Rattle.std.proofs.Math.Nat.{mod-eq_of_lt}
use Rattle.std.proofs.lemmas.Bool.{and_from, and_parts, leb-true, le-leb, lt-ltb, eqb-true, ne_eqb, not_from_false, false≢true}
use Rattle.std.proofs.lemmas.List.{length-take-le, get_or-drop, drop-drop}
use Rattle.std.proofs.lemmas.List.Folds.{list_all_more}
use Rattle.std.proofs.lemmas.Str.{digit_value_digit}
use Rattle.std.proofs.lemmas.Str.Parse.{digits_value_short}
use Rattle.dimacs.specs.Literal.{is_literal, most_variable}
use Rattle.text_lines.specs.Numbers.{is_digits, has_minus, digits_after_sign}
use Rattle.text_lines.specs.Words.{words_of, is_blank, is_empty}
use Rattle.text_lines.proofs.Decimals.DigitLemmas.{none_in_digits, digit_no_blank}
use Rattle.text_lines.proofs.Cutting.LineLemmas.{one_word, word_ended}
use Rattle.text_lines.proofs.Decimals.NumberLemmas.{value_more}
use Rattle.text_lines.proofs.Decimals.PlainLemmas.{own}
use Rattle.text_lines.proofs.Decimals.SolverLemmas.{chosen}
use Rattle.lrat_check.specs.LratFaults.{is_zero}
use Rattle.lrat_check.specs.LratRead.{BeginsWith, BeginsWithList}
use Rattle.lrat_check.specs.ShortNumbers.{AreLeadingDigits, IsShortNumber, IsFirstNumber, ReadsOn}
use Rattle.lrat_check.specs.declared.lrat_fault.LratCause.{LratCause}
use Rattle.lrat_check.proofs.DerivationText.ListLemmas.{at_front, one_number, list_ended}

-- one digit more
digit_range : (x : ℕ) → is_ascii_digit x ≡ true → (48 ≤ x) × (x ≤ 57)
digit_range x h = (let range = and_parts (nat_le 48 x) (nat_le x 57) h in (leb-true 48 x range.0, leb-true x 57 range.1))

-- digits below the bound of 64 bits wrap nowhere
no_wrap : (value digit : ℕ) → value < 10 ^ 17 → digit < 10 → (value * 10 % 2 ^ 64 + digit) % 2 ^ 64 ≡ value * 10 + digit
no_wrap value digit small low =
    let first : value * 10 % 2 ^ 64 ≡ value * 10 = mod-eq_of_lt (omega (arith, small)) in
    ap (λ n. (n + digit) % 2 ^ 64) first ∙ mod-eq_of_lt (omega (arith, small, low))

value_small : (text : List ℕ) (count most : ℕ) → list_all is_ascii_digit (take count text) ≡ true → count ≤ length text → count ≤ most → digits_value 10 (take count text) < 10 ^ most
value_small text count most digits inside few = digits_value_short own (take count text) most digits (omega (arith, length-take-le count text inside, few))

pub one_digit : (text : List ℕ) (value count digit : ℕ) → count < length text → AreLeadingDigits text value count → is_ascii_digit (get_or text count 0) ≡ true → digit ≡ get_or text count 0 - 48 →
    AreLeadingDigits text ((value * 10 % 2 ^ 64 + digit) % 2 ^ 64) (count + 1)
one_digit text value count digit l so_far h e = record {
  inside = omega (arith, l);
  digits = list_all_more is_ascii_digit text count 0 l ∙ and_from _ _ so_far.digits h;
  value_is = λ few.
      let is = so_far.value_is (omega (arith, few)) in
      let small : value < 10 ^ 17 = subst (λ (n : ℕ). n < 10 ^ 17) (sym is) (value_small text count 17 so_far.digits so_far.inside (omega (arith, few))) in
      let range : (48 ≤ get_or text count 0) × (get_or text count 0 ≤ 57) = digit_range (get_or text count 0) h in
      let same : digit ≡ digit_value (get_or text count 0) = omega (arith, e, range.0, digit_value_digit (get_or text count 0) range) in
      let low : digit < 10 = omega (arith, e, range.0, range.1) in
      no_wrap value digit small low ∙ ap (λ d. value * 10 + d) same ∙ value_more text count value l is;
}

pub few_digits_small : (text : List ℕ) (value count : ℕ) → AreLeadingDigits text value count → count ≤ 18 → value < 10 ^ 18
few_digits_small text value count so_far few = subst (λ (n : ℕ). n < 10 ^ 18) (sym (so_far.value_is few)) (value_small text count 18 so_far.digits so_far.inside few)

-- a word before a blank or the end is the first
word_cut : (word rest : List ℕ) → 0 < length word → list_any is_blank word ≡ false → is_blank (get_or rest 0 32) ≡ true → words_of (word ++ rest) ≡ word ∷ words_of (drop 1 rest)
word_cut word [] l h b = ap words_of (append-nil word) ∙ one_word word l h
word_cut word (x ∷ rest) l h b = word_ended word x rest l h b

-- digits as a solver number
digits_no_minus : (ds : List ℕ) → 0 < length ds → list_all is_ascii_digit ds ≡ true → has_minus ds ≡ false
digits_no_minus [] l h = absurd (omega (arith, l))
digits_no_minus (d ∷ ds) l h =
    let low : 48 ≤ d = (digit_range d (and_parts (is_ascii_digit d) (list_all is_ascii_digit ds) h).0).0 in
    ne_eqb d 45 (λ e. omega (arith, low, e))

are_digits : (ds : List ℕ) → 0 < length ds → list_all is_ascii_digit ds ≡ true → is_digits ds ≡ true
are_digits ds l h = and_from _ _ (not_from_false (is_empty ds) (ne_eqb (length ds) 0 (λ e. omega (arith, e, l)))) h

-- what the digits of a short number are
record HasDigits (text : List ℕ) (value count : ℕ) : Type 0 where
  some : 0 < length (take count text)
  no_blank : list_any is_blank (take count text) ≡ false
  end : is_blank (get_or (drop count text) 0 32) ≡ true
  behind : drop 1 (drop count text) ≡ drop (count + 1) text
  shorter : length (drop (count + 1) text) < length text

digits_of : (text : List ℕ) (value count : ℕ) → 0 < count → IsShortNumber text value count → HasDigits text value count
digits_of text value count more short = record {
  some = omega (arith, more, length-take-le count text short.inside);
  no_blank = none_in_digits is_blank digit_no_blank (take count text) short.digits;
  end = ap is_blank (get_or-drop count text 0 32 ∙ ap (λ k. get_or text k 32) (omega arith)) ∙ short.ended;
  behind = drop-drop 1 count text ∙ ap (λ k. drop k text) (omega arith);
  shorter = omega (arith, more, short.inside, length-drop (count + 1) text);
}

pub first_number : (text : List ℕ) (value count : ℕ) → 0 < count → IsShortNumber text value count → IsFirstNumber text (pos value) (drop (count + 1) text)
first_number text value count more short =
    let word = take count text in
    let has = digits_of text value count more short in
    let plus : has_minus word ≡ false = digits_no_minus word has.some short.digits in
    let same : digits_after_sign word ≡ word = ap (λ b. cond b (drop 1 word) word) plus in
    record {
      word = word;
      words = ap words_of (sym (take-append-drop count text)) ∙ word_cut word (drop count text) has.some has.no_blank has.end ∙ ap (λ r. word ∷ words_of r) has.behind;
      says = chosen word false plus (ap is_digits same ∙ are_digits word has.some short.digits) refl ∙ ap (λ n. Some (pos n)) (sym short.value_is);
      shorter = has.shorter;
    }

-- a minus before the digits
minus_number : (ds : List ℕ) (value count : ℕ) → 0 < count → value ≢ 0 → IsShortNumber ds value count → IsFirstNumber (45 ∷ ds) (neg_ℤ (pos value)) (drop (count + 1) ds)
minus_number ds value count more apart short =
    let has = digits_of ds value count more short in
    record {
      word = 45 ∷ take count ds;
      words = ap (λ t. words_of (45 ∷ t)) (sym (take-append-drop count ds)) ∙ word_cut (45 ∷ take count ds) (drop count ds) (omega arith) has.no_blank has.end ∙ ap (λ r. (45 ∷ take count ds) ∷ words_of r) has.behind;
      says = chosen (45 ∷ take count ds) true refl (are_digits (take count ds) has.some short.digits) (ne_eqb (digits_value 10 (take count ds)) 0 (λ e. apart (short.value_is ∙ e)))
          ∙ ap (λ n. Some (neg_ℤ (pos n))) (sym short.value_is);
      shorter = omega (arith, has.shorter);
    }

pub signed_number : (text : List ℕ) (minus : Bool) (value count : ℕ) → has_minus text ≡ minus → 0 < count → value ≢ 0 → IsShortNumber (digits_after_sign text) value count →
    IsFirstNumber text (cond minus (neg_ℤ (pos value)) (pos value)) (drop (count + 1) (digits_after_sign text))
signed_number text false value count e more apart short =
    let same : digits_after_sign text ≡ text = ap (λ b. cond b (drop 1 text) text) e in
    subst (λ t. IsFirstNumber text (pos value) (drop (count + 1) t)) (sym same) (first_number text value count more (subst (λ t. IsShortNumber t value count) same short))
signed_number [] true value count e more apart short = absurd (false≢true e)
signed_number (x ∷ ds) true value count e more apart short =
    let same : digits_after_sign (x ∷ ds) ≡ ds = ap (λ b. cond b ds (x ∷ ds)) e in
    let first : 45 ≡ x = sym (eqb-true x 45 e) in
    subst (λ t. IsFirstNumber (x ∷ ds) (neg_ℤ (pos value)) (drop (count + 1) t)) (sym same)
    (subst (λ y. IsFirstNumber (y ∷ ds) (neg_ℤ (pos value)) (drop (count + 1) ds)) first (minus_number ds value count more apart (subst (λ t. IsShortNumber t value count) same short)))

-- it is a literal if its variable is one
pub signed_literal : (minus : Bool) (variable : ℕ) → variable ≢ 0 → variable ≤ most_variable → is_literal (cond minus (neg_ℤ (pos variable)) (pos variable)) ≡ true
signed_literal false variable apart most = and_from _ _ (lt-ltb 0 variable (omega (arith, apart))) (le-leb variable most_variable most)
signed_literal true zero apart most = absurd (apart refl)
signed_literal true (suc k) apart most = and_from _ _ (lt-ltb 0 (suc k) (omega arith)) (le-leb (suc k) most_variable most)

-- what is read from the start of a line
pub reads_from_start : (fault : Option ℤ → Option LratCause) (passes : ℤ → Bool) (before : List ℤ) (line : List ℕ) (numbers : List ℤ) (rest : List ℕ) → before ≡ [] → ReadsOn fault passes before line numbers rest →
    BeginsWith fault passes (words_of line) numbers (words_of rest)
reads_from_start fault passes before line numbers rest none read =
    read.reads (words_of line) (subst (λ (ns : List ℤ). BeginsWith fault passes (words_of line) ns (words_of line)) (sym none) (at_front fault passes (words_of line)))

-- a 0 behind it ends the list
pub zero_ends : (fault : Option ℤ → Option LratCause) (passes : ℤ → Bool) (words : List (List ℕ)) (numbers : List ℤ) (rest after : List ℕ) → BeginsWith fault passes words numbers (words_of rest) →
    IsFirstNumber rest (pos 0) after → fault (Some (pos 0)) ≡ None → BeginsWithList fault passes words numbers (words_of after)
zero_ends fault passes words numbers rest after so_far first ok =
    list_ended fault passes words numbers (words_of rest) first.word (words_of after) so_far first.words first.says ok

-- one number more
pub reads_number : (fault : Option ℤ → Option LratCause) (passes : ℤ → Bool) (before : List ℤ) (line : List ℕ) (numbers : List ℤ) (rest after : List ℕ) (z : ℤ) →
    ReadsOn fault passes before line numbers rest → IsFirstNumber rest z after → fault (Some z) ≡ None → is_zero (Some z) ≡ false → passes z ≡ true →
    ReadsOn fault passes before line (numbers ++ z ∷ []) after
reads_number fault passes before line numbers rest after z so_far first ok more good = record {
  reads = λ words h. one_number fault passes words numbers (words_of rest) first.word (words_of after) z (so_far.reads words h) first.words first.says ok more good;
  shorter = omega (arith, so_far.shorter, first.shorter);
}
