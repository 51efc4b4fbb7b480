-- Words are one step at most, and words without a fault are a step.
use Rattle.std.proofs.Common.{◌≡◌, ◌≢◌, ℕ, ◌≤◌, Bool, true, false, not, List, [], ◌∷◌, ◌++◌, map, inl, inr, refl, ap, sym, ◌∙◌, append-nil, ◌&&◌, drop, arith}
use Rattle.std.specs.Prelude.{ℤ, pos, negsuc, ◌==◌, if◌then◌else◌, nat_abs, Option, Some, None, nat_lt, nat_le, codes, is_some}
use Rattle.std.specs.List.{list_all}
use Rattle.std.specs.Int.{is_negative}
use Rattle.std.specs.Option.{option_or}
use Rattle.std.proofs.lemmas.Bool.{cases_Bool, and_from, and_parts, cond-true, cond-false, false≢true, true≢false, not-true, lt-ltb, leb-true, eqb-true, eqb-false}
use Rattle.std.proofs.lemmas.Bool.Decides.{nat_tests}
use Rattle.std.proofs.lemmas.Int.{ints}
use Rattle.std.proofs.lemmas.Option.{none-some}
use Rattle.std.proofs.lemmas.Slice.Eq.{bytes_eq-Decides}
use Rattle.dimacs.specs.Literal.{is_literal, is_clause, most_variable}
use Rattle.text_lines.specs.Kept.{is_dimacs_skipped}
use Rattle.text_lines.specs.Numbers.{solver_number}
use Rattle.text_lines.proofs.ListLemmas.{same_somes}
use Rattle.lrat_check.specs.LratFaults.{list_fault, literal_fault, hint_fault, id_fault, first_fault, behind_fault, addition_fault, deletion_fault, is_deletion, is_zero, words_fault}
use Rattle.lrat_check.specs.LratRead.{IsWrittenStep}
use Rattle.lrat_check.specs.LratText.{is_id, is_id_number, most_id, Says, ended}
use Rattle.lrat_check.specs.declared.derivation.Step.{Step}
use Rattle.lrat_check.specs.declared.derivation.Step.TheVariants.{Addition, Deletion}
use Rattle.lrat_check.specs.declared.lrat_fault.LratCause.{LratCause}
use Rattle.lrat_check.specs.declared.lrat_fault.LratCause.TheVariants.{BadLine, BadNumber, Unended}
use Rattle.lrat_check.proofs.DerivationText.ClearLemmas.{is_plain_id, ids_plain, no_deletion_list, says_rest}

-- lists without 0, up to their 0
same_lists : (p : ℤ → Bool) → p (pos 0) ≡ false → (xs ys rs ss : List ℤ) → list_all p xs ≡ true → list_all p ys ≡ true → ended xs ++ rs ≡ ended ys ++ ss → (xs ≡ ys) × (rs ≡ ss)
same_lists p z [] [] rs ss h k e = (refl, cc)
same_lists p z [] (y ∷ ys) rs ss h k e =
    let first : pos 0 ≡ y = cc in
    absurd (false≢true (sym z ∙ ap p first ∙ (and_parts (p y) (list_all p ys) k).0))
same_lists p z (x ∷ xs) [] rs ss h k e =
    let first : x ≡ pos 0 = cc in
    absurd (false≢true (sym z ∙ ap p (sym first) ∙ (and_parts (p x) (list_all p xs) h).0))
same_lists p z (x ∷ xs) (y ∷ ys) rs ss h k e =
    let first : x ≡ y = cc in
    let rest : ended xs ++ rs ≡ ended ys ++ ss = cc in
    let later = same_lists p z xs ys rs ss (and_parts (p x) (list_all p xs) h).1 (and_parts (p y) (list_all p ys) k).1 rest in
    ((λ i. first i ∷ later.0 i), later.1)

same_ids : (xs ys : List ℕ) → map pos xs ≡ map pos ys → xs ≡ ys
same_ids [] [] h = refl
same_ids [] (y ∷ ys) h = absurd (cc)
same_ids (x ∷ xs) [] h = absurd (cc)
same_ids (x ∷ xs) (y ∷ ys) h =
    let first : x ≡ y = cc in
    let rest : map pos xs ≡ map pos ys = cc in
    let later = same_ids xs ys rest in
    (λ i. first i ∷ later i)

same_last : (xs ys : List ℕ) → list_all is_id xs ≡ true → list_all is_id ys ≡ true → ended (map pos xs) ≡ ended (map pos ys) → xs ≡ ys
same_last xs ys h k e =
    same_ids xs ys (same_lists is_plain_id refl (map pos xs) (map pos ys) [] [] (ids_plain xs h) (ids_plain ys k) (ap (λ l. l ++ []) e)).0

-- the word `d` is no number
never_both_kinds : (words : List (List ℕ)) (id : ℕ) (literals hints : List ℤ) (first : ℕ) (ids : List ℕ) → IsWrittenStep words (Addition id literals hints) → IsWrittenStep words (Deletion first ids) → ⊥
never_both_kinds words id literals hints first ids h k =
    let says : Says (k.is.0 ∷ (codes "d" ∷ k.is.1)) (pos id ∷ (ended literals ++ ended hints)) = ap (map solver_number) (sym k.is.2) ∙ h.is in
    let rest : Says (codes "d" ∷ k.is.1) (ended literals ++ ended hints) = says_rest k.is.0 (codes "d" ∷ k.is.1) (pos id) (ended literals ++ ended hints) says in
    true≢false (no_deletion_list (codes "d" ∷ k.is.1) literals (ended hints) rest)

pub one_step : (words : List (List ℕ)) (s t : Step) → IsWrittenStep words s → IsWrittenStep words t → s ≡ t
one_step words (Addition id literals hints) (Addition jd others fore) h k =
    let e = same_somes (pos id ∷ (ended literals ++ ended hints)) (pos jd ∷ (ended others ++ ended fore)) (sym h.is ∙ k.is) in
    let ids : id ≡ jd = cc in
    let rest : ended literals ++ ended hints ≡ ended others ++ ended fore = cc in
    let good = and_parts (is_clause literals) (list_all is_id_number hints) (and_parts (is_id id) (is_clause literals && list_all is_id_number hints) h.written).1 in
    let well = and_parts (is_clause others) (list_all is_id_number fore) (and_parts (is_id jd) (is_clause others && list_all is_id_number fore) k.written).1 in
    let lists = same_lists is_literal refl literals others (ended hints) (ended fore) good.0 well.0 rest in
    let last = (same_lists is_id_number refl hints fore [] [] good.1 well.1 (ap (λ l. l ++ []) lists.1)).0 in
    (λ i. Addition (ids i) (lists.0 i) (last i))
one_step words (Addition id literals hints) (Deletion first ids) h k = absurd (never_both_kinds words id literals hints first ids h k)
one_step words (Deletion first ids) (Addition id literals hints) h k = absurd (never_both_kinds words id literals hints first ids k h)
one_step words (Deletion first ids) (Deletion second others) h k =
    let e : h.is.0 ∷ (codes "d" ∷ h.is.1) ≡ k.is.0 ∷ (codes "d" ∷ k.is.1) = sym h.is.2 ∙ k.is.2 in
    let number : h.is.0 ≡ k.is.0 = cc in
    let rest : h.is.1 ≡ k.is.1 = cc in
    let firsts : Some (pos first) ≡ Some (pos second) = sym h.is.3 ∙ ap solver_number number ∙ k.is.3 in
    let same : first ≡ second = cc in
    let good = and_parts (nat_le first most_id) (list_all is_id ids) h.written in
    let well = and_parts (nat_le second most_id) (list_all is_id others) k.written in
    let last = same_last ids others good.1 well.1 (same_somes (ended (map pos ids)) (ended (map pos others)) (sym h.is.4 ∙ ap (map solver_number) rest ∙ k.is.4)) in
    (λ i. Deletion (same i) (last i))

-- neither of two is anything
or_none : {A : Type 0} (a b : Option A) → option_or a b ≡ None → (a ≡ None) × (b ≡ None)
or_none None b h = (refl, h)
or_none (Some x) b h = absurd (none-some x (sym h))

-- a list of numbers that has no fault
record IsFound (passes : ℤ → Bool) (next : List (List ℕ) → Option LratCause) (words : List (List ℕ)) : Type 0 where
  pub numbers : List ℤ
  pub rest : List (List ℕ)
  pub good : list_all passes numbers ≡ true
  pub says : (more : List ℤ) → Says rest more → Says words (ended numbers ++ more)
  pub clear : next rest ≡ None

-- what passes where nothing is wrong
record Tells (fault : Option ℤ → Option LratCause) (passes : ℤ → Bool) : Type 0 where
  pub number : fault None ≢ None
  pub tells : (z : ℤ) → fault (Some z) ≡ None → is_zero (Some z) ≡ false → passes z ≡ true

zero_is : (z : ℤ) → nat_abs z ≡ 0 → z ≡ pos 0
zero_is (pos n) e = ap pos e
zero_is (negsuc n) e = absurd (omega (arith, e))

found_here : (fault : Option ℤ → Option LratCause) (passes : ℤ → Bool) (next : List (List ℕ) → Option LratCause) → Tells fault passes → (word : List ℕ) (words : List (List ℕ)) (o : Option ℤ) → solver_number word ≡ o →
    fault o ≡ None → (if is_zero o then next words else list_fault fault next words) ≡ None → (list_fault fault next words ≡ None → IsFound passes next words) → IsFound passes next (word ∷ words)
found_here fault passes next t word words None e none clear later = absurd (t.number none)
found_here fault passes next t word words (Some z) e none clear later =
    elim (cases_Bool (is_zero (Some z))) [
      | inl zero ↦ (
          let is : z ≡ pos 0 = zero_is z (eqb-true (nat_abs z) 0 zero) in
          record {
            numbers = [];
            rest = words;
            good = refl;
            says = λ more h. (λ i. (e ∙ ap Some is) i ∷ h i);
            clear = sym (cond-true (is_zero (Some z)) (next words) (list_fault fault next words) zero) ∙ clear;
          })
      | inr apart ↦ (
          let f = later (sym (cond-false (is_zero (Some z)) (next words) (list_fault fault next words) apart) ∙ clear) in
          record {
            numbers = z ∷ f.numbers;
            rest = f.rest;
            good = and_from _ _ (t.tells z none apart) f.good;
            says = λ more h. (λ i. e i ∷ f.says more h i);
            clear = f.clear;
          })
    ]

list_found : (fault : Option ℤ → Option LratCause) (passes : ℤ → Bool) (next : List (List ℕ) → Option LratCause) → Tells fault passes → (words : List (List ℕ)) → list_fault fault next words ≡ None → IsFound passes next words
list_found fault passes next t [] h = absurd (none-some Unended (sym h))
list_found fault passes next t (word ∷ words) h =
    let parts = or_none (fault (solver_number word)) (if is_zero (solver_number word) then next words else list_fault fault next words) h in
    found_here fault passes next t word words (solver_number word) refl parts.0 parts.1 (list_found fault passes next t words)

-- a chosen fault that is none
chose_none : (b : Bool) (c : LratCause) → (if b then None else Some c) ≡ None → b ≡ true
chose_none true c h = refl
chose_none false c h = absurd (none-some c (sym h))

chose_second : (b : Bool) (c : LratCause) (o : Option LratCause) → (if b then Some c else o) ≡ None → (b ≡ false) × (o ≡ None)
chose_second true c o h = absurd (none-some c (sym h))
chose_second false c o h = (refl, h)

above_zero : (n : ℕ) → (n == 0) ≡ false → nat_lt 0 n ≡ true
above_zero n h = (let apart : n ≢ 0 = eqb-false n 0 h in lt-ltb 0 n (omega (arith, apart)))

literal_tells : Tells literal_fault is_literal
literal_tells = record {
  number = λ h. none-some BadNumber (sym h);
  tells = λ z none apart. and_from _ _ (above_zero (nat_abs z) apart) (chose_none (nat_le (nat_abs z) most_variable) BadNumber none);
}

hint_tells : Tells hint_fault is_id_number
hint_tells = record {
  number = λ h. none-some BadNumber (sym h);
  tells = λ z none apart. and_from _ _ (above_zero (nat_abs z) apart) (chose_none (nat_le (nat_abs z) most_id) BadNumber none);
}

id_tells : Tells id_fault is_plain_id
id_tells = record {
  number = λ h. none-some BadNumber (sym h);
  tells = λ z none apart.
      let parts = chose_second (is_negative z) BadNumber (if nat_le (nat_abs z) most_id then None else Some BadNumber) none in
      and_from _ _ (ap not parts.0) (and_from _ _ (above_zero (nat_abs z) apart) (chose_none (nat_le (nat_abs z) most_id) BadNumber parts.1));
}

-- numbers that are ids
sign_none : (z : ℤ) → is_negative z ≡ false → z ≡ pos (nat_abs z)
sign_none z h = grind (arith, ints, nat_tests)

plain_ids : (numbers : List ℤ) → list_all is_plain_id numbers ≡ true → (ids : List ℕ) × (numbers ≡ map pos ids) × (list_all is_id ids ≡ true)
plain_ids [] h = ([], refl, refl)
plain_ids (z ∷ numbers) h =
    let parts = and_parts (is_plain_id z) (list_all is_plain_id numbers) h in
    let id = and_parts (not (is_negative z)) (is_id (nat_abs z)) parts.0 in
    let later = plain_ids numbers parts.1 in
    (nat_abs z ∷ later.0, (λ i. sign_none z (not-true (is_negative z) id.0) i ∷ later.1 i), and_from _ _ id.1 later.2)

never_none : (b : Bool) → (if b then Some BadLine else Some BadNumber) ≡ None → ⊥
never_none true h = none-some BadLine (sym h)
never_none false h = none-some BadNumber (sym h)

behind_none : (words : List (List ℕ)) → behind_fault words ≡ None → words ≡ []
behind_none [] h = refl
behind_none (word ∷ words) h = absurd (never_none (is_some (solver_number word)) h)

-- ids at the end of a line
hints_found : (words : List (List ℕ)) → list_fault hint_fault behind_fault words ≡ None → (hints : List ℤ) × (list_all is_id_number hints ≡ true) × Says words (ended hints)
hints_found words h =
    let f = list_found hint_fault is_id_number behind_fault hint_tells words h in
    let says = f.says [] (ap (map solver_number) (behind_none f.rest f.clear)) in
    (f.numbers, f.good, says ∙ ap (map Some) (append-nil (ended f.numbers)))

ids_found : (words : List (List ℕ)) → list_fault id_fault behind_fault words ≡ None → (ids : List ℕ) × (list_all is_id ids ≡ true) × Says words (ended (map pos ids))
ids_found words h =
    let f = list_found id_fault is_plain_id behind_fault id_tells words h in
    let plain = plain_ids f.numbers f.good in
    let says = f.says [] (ap (map solver_number) (behind_none f.rest f.clear)) in
    (plain.0, plain.2, says ∙ ap (map Some) (append-nil (ended f.numbers)) ∙ ap (λ ns. map Some (ended ns)) plain.1)

-- the first number of a line
first_found : (least : ℕ) (word : List ℕ) (o : Option ℤ) → solver_number word ≡ o → first_fault least o ≡ None → (n : ℕ) × (solver_number word ≡ Some (pos n)) × (nat_le least n ≡ true) × (nat_le n most_id ≡ true)
first_found least word None e h = absurd (none-some BadNumber (sym h))
first_found least word (Some z) e h =
    let parts = and_parts (not (is_negative z)) (nat_le least (nat_abs z) && nat_le (nat_abs z) most_id) (chose_none _ BadNumber h) in
    let size = and_parts (nat_le least (nat_abs z)) (nat_le (nat_abs z) most_id) parts.1 in
    (nat_abs z, e ∙ ap Some (sign_none z (not-true (is_negative z) parts.0)), size.0, size.1)

-- an addition without a fault
addition_found : (word : List ℕ) (words : List (List ℕ)) → option_or (first_fault 1 (solver_number word)) (addition_fault words) ≡ None → (step : Step) × IsWrittenStep (word ∷ words) step
addition_found word words h =
    let parts = or_none (first_fault 1 (solver_number word)) (addition_fault words) h in
    let first = first_found 1 word (solver_number word) refl parts.0 in
    let f = list_found literal_fault is_literal (list_fault hint_fault behind_fault) literal_tells words parts.1 in
    let hints = hints_found f.rest f.clear in
    let least : 1 ≤ first.0 = leb-true 1 first.0 first.2 in (
      Addition first.0 f.numbers hints.0,
      record {
        is = λ i. first.1 i ∷ f.says (ended hints.0) hints.2 i;
        written = and_from _ _ (and_from _ _ (lt-ltb 0 first.0 (omega (arith, least))) first.3) (and_from _ _ f.good hints.1);
      },
    )

-- a deletion without a fault
deletion_found : (word : List ℕ) (words : List (List ℕ)) → is_deletion words ≡ true → option_or (first_fault 0 (solver_number word)) (deletion_fault (drop 1 words)) ≡ None → (step : Step) × IsWrittenStep (word ∷ words) step
deletion_found word [] d h = absurd (false≢true d)
deletion_found word (letter ∷ words) d h =
    let parts = or_none (first_fault 0 (solver_number word)) (deletion_fault words) h in
    let first = first_found 0 word (solver_number word) refl parts.0 in
    let ids = ids_found words parts.1 in
    let is : letter ≡ codes "d" = (bytes_eq-Decides letter (codes "d")).0 d in
    (Deletion first.0 ids.0, record { is = (word, words, (λ i. word ∷ (is i ∷ words)), first.1, ids.2); written = and_from _ _ first.3 ids.1 })

-- words without a fault are a step
pub step_found : (words : List (List ℕ)) → is_dimacs_skipped words ≡ false → words_fault words ≡ None → (step : Step) × IsWrittenStep words step
step_found [] said h = absurd (true≢false said)
step_found (word ∷ words) said h =
    elim (cases_Bool (is_deletion words)) [
      | inl d ↦ deletion_found word words d (sym (cond-true (is_deletion words) (option_or (first_fault 0 (solver_number word)) (deletion_fault (drop 1 words))) (option_or (first_fault 1 (solver_number word)) (addition_fault words)) d) ∙ h)
      | inr a ↦ addition_found word words (sym (cond-false (is_deletion words) (option_or (first_fault 0 (solver_number word)) (deletion_fault (drop 1 words))) (option_or (first_fault 1 (solver_number word)) (addition_fault words)) a) ∙ h)
    ]
