-- Lists of numbers, word by word.
use Rattle.std.proofs.Common.{◌≡◌, ◌≢◌, ℕ, ◌≤◌, ◌<◌, Bool, true, false, cond, List, [], ◌∷◌, ◌++◌, refl, ap, sym, ◌∙◌, append_assoc, arith}
use Rattle.std.specs.Prelude.{ℤ, pos, nat_abs, Option, Some, None, nat_lt, nat_le}
use Rattle.std.specs.Option.{option_or}
use Rattle.std.proofs.lemmas.Bool.{and_from, and_parts, cond-true, cond-false, le-leb, lt-ltb, ltb-true, ne_eqb}
use Rattle.std.specs.Int.{is_negative}
use Rattle.std.proofs.lemmas.List.{map_push}
use Rattle.std.proofs.lemmas.List.Folds.{list_all-append}
use Rattle.dimacs.specs.Literal.{is_literal, most_variable}
use Rattle.text_lines.specs.Numbers.{solver_number}
use Rattle.text_lines.proofs.Decimals.IntegerLemmas.{not_negative}
use Rattle.lrat_check.specs.LratFaults.{list_fault, literal_fault, hint_fault, id_fault, is_zero}
use Rattle.lrat_check.specs.LratRead.{BeginsWith, BeginsWithList}
use Rattle.lrat_check.specs.LratText.{is_id, is_id_number, most_id}
use Rattle.lrat_check.specs.declared.lrat_fault.LratCause.{LratCause}
use Rattle.lrat_check.specs.declared.lrat_fault.LratCause.TheVariants.{BadNumber}

pub at_front : (fault : Option ℤ → Option LratCause) (passes : ℤ → Bool) (words : List (List ℕ)) → BeginsWith fault passes words [] words
at_front fault passes words = record { front = []; parts = refl; says = refl; good = refl; faultless = λ next. refl }

-- the next word says a number of the list
pub list_step : (fault : Option ℤ → Option LratCause) (next : List (List ℕ) → Option LratCause) (word : List ℕ) (words : List (List ℕ)) (z : ℤ) → solver_number word ≡ Some z → fault (Some z) ≡ None → is_zero (Some z) ≡ false →
    list_fault fault next (word ∷ words) ≡ list_fault fault next words
list_step fault next word words z e ok more =
    (λ i. option_or (fault (e i)) (cond (is_zero (e i)) (next words) (list_fault fault next words)))
    ∙ (λ i. option_or (ok i) (cond (more i) (next words) (list_fault fault next words)))

pub list_end : (fault : Option ℤ → Option LratCause) (next : List (List ℕ) → Option LratCause) (word : List ℕ) (words : List (List ℕ)) → solver_number word ≡ Some (pos 0) → fault (Some (pos 0)) ≡ None →
    list_fault fault next (word ∷ words) ≡ next words
list_end fault next word words e ok =
    (λ i. option_or (fault (e i)) (cond (is_zero (e i)) (next words) (list_fault fault next words)))
    ∙ (λ i. option_or (ok i) (next words))

pub one_number : (fault : Option ℤ → Option LratCause) (passes : ℤ → Bool) (words : List (List ℕ)) (numbers : List ℤ) (rest : List (List ℕ)) (word : List ℕ) (after : List (List ℕ)) (z : ℤ) →
    BeginsWith fault passes words numbers rest → rest ≡ word ∷ after → solver_number word ≡ Some z → fault (Some z) ≡ None → is_zero (Some z) ≡ false → passes z ≡ true →
    BeginsWith fault passes words (numbers ++ z ∷ []) after
one_number fault passes words numbers rest word after z h cut e ok more good = record {
  front = h.front ++ word ∷ [];
  parts = h.parts ∙ ap (λ r. h.front ++ r) cut ∙ sym (append_assoc h.front (word ∷ []) after);
  says = map_push solver_number h.front word ∙ (λ i. h.says i ++ e i ∷ []) ∙ sym (map_push Some numbers z);
  good = list_all-append passes numbers (z ∷ []) ∙ and_from _ _ h.good (and_from _ true good refl);
  faultless = λ next. h.faultless next ∙ ap (list_fault fault next) cut ∙ list_step fault next word after z e ok more;
}

pub list_ended : (fault : Option ℤ → Option LratCause) (passes : ℤ → Bool) (words : List (List ℕ)) (numbers : List ℤ) (rest : List (List ℕ)) (word : List ℕ) (after : List (List ℕ)) →
    BeginsWith fault passes words numbers rest → rest ≡ word ∷ after → solver_number word ≡ Some (pos 0) → fault (Some (pos 0)) ≡ None →
    BeginsWithList fault passes words numbers after
list_ended fault passes words numbers rest word after h cut e ok = record {
  front = h.front;
  zero_word = word;
  parts = h.parts ∙ ap (λ r. h.front ++ r) cut;
  says = h.says;
  says_zero = e;
  good = h.good;
  faultless = λ next. h.faultless next ∙ ap (list_fault fault next) cut ∙ list_end fault next word after e ok;
}

-- an id or 0 is right
pub id_right : (n : ℕ) → n ≤ most_id → id_fault (Some (pos n)) ≡ None
id_right n h = cond-false (is_negative (pos n)) (Some BadNumber) (cond (nat_le n most_id) None (Some BadNumber)) (not_negative n) ∙ cond-true (nat_le n most_id) None (Some BadNumber) (le-leb n most_id h)

pub id_not_zero : (n : ℕ) → n ≢ 0 → is_zero (Some (pos n)) ≡ false
id_not_zero n h = ne_eqb n 0 h

pub is_an_id : (n : ℕ) → n ≢ 0 → n ≤ most_id → is_id n ≡ true
is_an_id n h k = and_from _ _ (lt-ltb 0 n (omega (arith, h))) (le-leb n most_id k)

-- a hint or 0 is right
pub hint_right : (z : ℤ) → is_id_number z ≡ true → hint_fault (Some z) ≡ None
hint_right z h = cond-true (nat_le (nat_abs z) most_id) None (Some BadNumber) (and_parts (nat_lt 0 (nat_abs z)) (nat_le (nat_abs z) most_id) h).1

pub hint_not_zero : (z : ℤ) → is_id_number z ≡ true → is_zero (Some z) ≡ false
hint_not_zero z h = (let more : 0 < nat_abs z = ltb-true 0 (nat_abs z) (and_parts (nat_lt 0 (nat_abs z)) (nat_le (nat_abs z) most_id) h).0 in ne_eqb (nat_abs z) 0 (λ e. omega (arith, more, e)))

-- a literal is right
pub literal_right : (z : ℤ) → is_literal z ≡ true → literal_fault (Some z) ≡ None
literal_right z h = cond-true (nat_le (nat_abs z) most_variable) None (Some BadNumber) (and_parts (nat_lt 0 (nat_abs z)) (nat_le (nat_abs z) most_variable) h).1

pub literal_not_zero : (z : ℤ) → is_literal z ≡ true → is_zero (Some z) ≡ false
literal_not_zero z h = (let more : 0 < nat_abs z = ltb-true 0 (nat_abs z) (and_parts (nat_lt 0 (nat_abs z)) (nat_le (nat_abs z) most_variable) h).0 in ne_eqb (nat_abs z) 0 (λ e. omega (arith, more, e)))
