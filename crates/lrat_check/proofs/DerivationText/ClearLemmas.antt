-- A line that is a step has no fault.
use Rattle.std.proofs.Common.{◌≡◌, ℕ, ◌≤◌, ◌<◌, Bool, true, false, not, cond, List, [], ◌∷◌, ◌++◌, map, refl, ap, sym, ◌∙◌, append-nil, ◌&&◌, drop, arith}
use Rattle.std.specs.Prelude.{ℤ, pos, nat_abs, Option, Some, None, nat_lt, nat_le, codes}
use Rattle.std.specs.List.{list_all}
use Rattle.std.specs.Option.{option_or}
use Rattle.std.specs.Str.{bytes_eq}
use Rattle.std.proofs.lemmas.Bool.{and_from, and_parts, cond-true, cond-false, false_from_ne_true, ltb-true, leb-true, not-true, ne_eqb}
use Rattle.std.specs.Int.{is_negative}
use Rattle.std.proofs.lemmas.Option.{none-some}
use Rattle.std.proofs.lemmas.Slice.Eq.{bytes_eq-Decides}
use Rattle.dimacs.specs.Literal.{is_literal, is_clause}
use Rattle.text_lines.specs.Numbers.{solver_number}
use Rattle.text_lines.proofs.Decimals.IntegerLemmas.{not_negative}
use Rattle.lrat_check.specs.LratFaults.{list_fault, literal_fault, hint_fault, id_fault, first_fault, behind_fault, addition_fault, deletion_fault, is_deletion, is_zero, words_fault}
use Rattle.lrat_check.specs.LratRead.{IsWrittenStep}
use Rattle.lrat_check.specs.LratText.{is_id, is_id_number, most_id, Says, ended}
use Rattle.lrat_check.specs.declared.derivation.Step.{Step}
use Rattle.lrat_check.specs.declared.derivation.Step.TheVariants.{Addition, Deletion}
use Rattle.lrat_check.specs.declared.lrat_fault.LratCause.{LratCause}
use Rattle.lrat_check.specs.declared.lrat_fault.LratCause.TheVariants.{BadNumber}
use Rattle.lrat_check.proofs.DerivationText.ListLemmas.{list_step, list_end, literal_right, literal_not_zero, hint_not_zero, hint_right}
use Rattle.lrat_check.proofs.DerivationText.LratLineLemmas.{first_right}

-- the first of some words that are numbers
pub says_first : (word : List ℕ) (words : List (List ℕ)) (z : ℤ) (numbers : List ℤ) → Says (word ∷ words) (z ∷ numbers) → solver_number word ≡ Some z
says_first word words z numbers h = cc

pub says_rest : (word : List ℕ) (words : List (List ℕ)) (z : ℤ) (numbers : List ℤ) → Says (word ∷ words) (z ∷ numbers) → Says words numbers
says_rest word words z numbers h = cc

pub says_none : (words : List (List ℕ)) → Says words [] → words ≡ []
says_none [] h = refl
says_none (word ∷ words) h = absurd (cc)

-- the words after a list of numbers and 0
pub record IsBehind (fault : Option ℤ → Option LratCause) (words : List (List ℕ)) (more : List ℤ) : Type 0 where
  pub rest : List (List ℕ)
  pub says : Says rest more
  pub faultless : (next : List (List ℕ) → Option LratCause) → list_fault fault next words ≡ next rest

-- numbers that are right in a list
pub record AreRight (fault : Option ℤ → Option LratCause) (passes : ℤ → Bool) : Type 0 where
  pub right : (z : ℤ) → passes z ≡ true → fault (Some z) ≡ None
  pub more : (z : ℤ) → passes z ≡ true → is_zero (Some z) ≡ false
  pub zero_right : fault (Some (pos 0)) ≡ None

pub list_clear : (fault : Option ℤ → Option LratCause) (passes : ℤ → Bool) → AreRight fault passes → (numbers more : List ℤ) (words : List (List ℕ)) → list_all passes numbers ≡ true → Says words (ended numbers ++ more) → IsBehind fault words more
list_clear fault passes r [] more [] good h = absurd (cc)
list_clear fault passes r [] more (word ∷ words) good h = record {
  rest = words;
  says = says_rest word words (pos 0) more h;
  faultless = λ next. list_end fault next word words (says_first word words (pos 0) more h) r.zero_right;
}
list_clear fault passes r (z ∷ numbers) more [] good h = absurd (cc)
list_clear fault passes r (z ∷ numbers) more (word ∷ words) good h =
    let parts = and_parts (passes z) (list_all passes numbers) good in
    let later = list_clear fault passes r numbers more words parts.1 (says_rest word words z (ended numbers ++ more) h) in
    record {
      rest = later.rest;
      says = later.says;
      faultless = λ next. list_step fault next word words z (says_first word words z (ended numbers ++ more) h) (r.right z parts.0) (r.more z parts.0) ∙ later.faultless next;
    }

-- literals
pub literals_right : AreRight literal_fault is_literal
literals_right = record { right = literal_right; more = literal_not_zero; zero_right = refl }

-- an id, written as a number
abbrev pub is_plain_id : ℤ → Bool
is_plain_id z = not (is_negative z) && is_id (nat_abs z)

id_more : (z : ℤ) → is_plain_id z ≡ true → is_zero (Some z) ≡ false
id_more z h =
    let size = and_parts (nat_lt 0 (nat_abs z)) (nat_le (nat_abs z) most_id) (and_parts (not (is_negative z)) (is_id (nat_abs z)) h).1 in
    let above : 0 < nat_abs z = ltb-true 0 (nat_abs z) size.0 in
    ne_eqb (nat_abs z) 0 (λ e. omega (arith, above, e))

id_fits : (z : ℤ) → is_plain_id z ≡ true → id_fault (Some z) ≡ None
id_fits z h =
    let parts = and_parts (not (is_negative z)) (is_id (nat_abs z)) h in
    let size = and_parts (nat_lt 0 (nat_abs z)) (nat_le (nat_abs z) most_id) parts.1 in
    cond-false (is_negative z) (Some BadNumber) (cond (nat_le (nat_abs z) most_id) None (Some BadNumber)) (not-true (is_negative z) parts.0)
    ∙ cond-true (nat_le (nat_abs z) most_id) None (Some BadNumber) size.1

pub ids_right : AreRight id_fault is_plain_id
ids_right = record { right = id_fits; more = id_more; zero_right = refl }

pub ids_plain : (ids : List ℕ) → list_all is_id ids ≡ true → list_all is_plain_id (map pos ids) ≡ true
ids_plain [] h = refl
ids_plain (id ∷ ids) h =
    let parts = and_parts (is_id id) (list_all is_id ids) h in
    and_from _ _ (and_from _ _ (ap not (not_negative id)) parts.0) (ids_plain ids parts.1)

hints_right : AreRight hint_fault is_id_number
hints_right = record { right = hint_right; more = hint_not_zero; zero_right = refl }

hints_clear : (hints : List ℤ) (words : List (List ℕ)) → list_all is_id_number hints ≡ true → Says words (ended hints) → list_fault hint_fault behind_fault words ≡ None
hints_clear hints words good h =
    let behind = list_clear hint_fault is_id_number hints_right hints [] words good (h ∙ ap (map Some) (sym (append-nil (ended hints)))) in
    behind.faultless behind_fault ∙ ap behind_fault (says_none behind.rest behind.says)

-- a list at the end of a line
last_clear : (ids : List ℕ) (words : List (List ℕ)) → list_all is_id ids ≡ true → Says words (ended (map pos ids)) → list_fault id_fault behind_fault words ≡ None
last_clear ids words good h =
    let behind = list_clear id_fault is_plain_id ids_right (map pos ids) [] words (ids_plain ids good) (h ∙ ap (map Some) (sym (append-nil (ended (map pos ids))))) in
    behind.faultless behind_fault ∙ ap behind_fault (says_none behind.rest behind.says)

-- a number is not the word `d`
number_no_letter : (word : List ℕ) (z : ℤ) → solver_number word ≡ Some z → bytes_eq word (codes "d") ≡ false
number_no_letter word z h = false_from_ne_true (bytes_eq word (codes "d")) (λ same.
    none-some z (sym (ap solver_number ((bytes_eq-Decides word (codes "d")).0 same)) ∙ h))

no_deletion : (words : List (List ℕ)) (z : ℤ) (numbers : List ℤ) → Says words (z ∷ numbers) → is_deletion words ≡ false
no_deletion [] z numbers h = absurd (cc)
no_deletion (word ∷ words) z numbers h = number_no_letter word z (says_first word words z numbers h)

pub no_deletion_list : (words : List (List ℕ)) (numbers more : List ℤ) → Says words (ended numbers ++ more) → is_deletion words ≡ false
no_deletion_list words [] more h = no_deletion words (pos 0) more h
no_deletion_list words (z ∷ numbers) more h = no_deletion words z (ended numbers ++ more) h

addition_clear : (words : List (List ℕ)) (id : ℕ) (literals hints : List ℤ) → IsWrittenStep words (Addition id literals hints) → words_fault words ≡ None
addition_clear [] id literals hints h = refl
addition_clear (word ∷ words) id literals hints h =
    let good = and_parts (is_id id) (is_clause literals && list_all is_id_number hints) h.written in
    let lists = and_parts (is_clause literals) (list_all is_id_number hints) good.1 in
    let size = and_parts (nat_lt 0 id) (nat_le id most_id) good.0 in
    let first = says_first word words (pos id) (ended literals ++ ended hints) h.is in
    let says = says_rest word words (pos id) (ended literals ++ ended hints) h.is in
    let behind = list_clear literal_fault is_literal literals_right literals (ended hints) words lists.0 says in
    let least : 1 ≤ id = (let above : 0 < id = ltb-true 0 id size.0 in omega (arith, above)) in
    cond-false (is_deletion words) (option_or (first_fault 0 (solver_number word)) (deletion_fault (drop 1 words))) (option_or (first_fault 1 (solver_number word)) (addition_fault words)) (no_deletion_list words literals (ended hints) says)
    ∙ ap (λ o. option_or (first_fault 1 o) (addition_fault words)) first
    ∙ ap (λ o. option_or o (addition_fault words)) (first_right 1 id least (leb-true id most_id size.1))
    ∙ behind.faultless (list_fault hint_fault behind_fault)
    ∙ hints_clear hints behind.rest lists.1 behind.says

deletion_clear : (words : List (List ℕ)) (first : ℕ) (ids : List ℕ) → IsWrittenStep words (Deletion first ids) → words_fault words ≡ None
deletion_clear words first ids h =
    let good = and_parts (nat_le first most_id) (list_all is_id ids) h.written in
    let number = h.is.0 in
    let rest = h.is.1 in
    ap words_fault h.is.2
    ∙ ap (λ o. option_or (first_fault 0 o) (deletion_fault rest)) h.is.3
    ∙ ap (λ o. option_or o (deletion_fault rest)) (first_right 0 first (omega arith) (leb-true first most_id good.0))
    ∙ last_clear ids rest good.1 h.is.4

pub step_clear : (words : List (List ℕ)) (step : Step) → IsWrittenStep words step → words_fault words ≡ None
step_clear words (Addition id literals hints) h = addition_clear words id literals hints h
step_clear words (Deletion first ids) h = deletion_clear words first ids h
