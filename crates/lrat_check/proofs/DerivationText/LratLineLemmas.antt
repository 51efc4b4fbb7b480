-- The words of a line.
use Rattle.std.proofs.Common.{◌≡◌, ℕ, ◌≤◌, Bool, true, not, List, [], ◌∷◌, ◌++◌, map, refl, ap, sym, ◌∙◌, subst, append_assoc, append-nil, ◌&&◌, arith}
use Rattle.std.specs.Prelude.{ℤ, pos, Option, Some, None, Result, Ok, Err, nat_le, MatchResult, codes}
use Rattle.std.specs.Int.{is_negative}
use Rattle.std.specs.List.{list_all}
use Rattle.std.specs.Option.{option_or}
use Rattle.std.specs.Result.{IsErrAnd}
use Rattle.std.proofs.lemmas.Bool.{and_from, cond-true, le-leb, lt-ltb}
use Rattle.std.proofs.lemmas.List.{map-append}
use Rattle.std.proofs.lemmas.List.Folds.{list_all-map}
use Rattle.dimacs.specs.Literal.{is_literal}
use Rattle.text_lines.specs.Numbers.{solver_number}
use Rattle.lrat_check.specs.LratFaults.{literal_fault, hint_fault, id_fault, first_fault}
use Rattle.lrat_check.specs.LratRead.{BeginsWithList, IsWrittenStep}
use Rattle.lrat_check.specs.LratText.{is_id, is_id_number, most_id, Says, ended}
use Rattle.lrat_check.specs.declared.derivation.Step.TheVariants.{Addition, Deletion}
use Rattle.lrat_check.specs.declared.lrat_fault.LratCause.{LratCause}
use Rattle.lrat_check.specs.declared.lrat_fault.LratCause.TheVariants.{BadNumber}
use Rattle.text_lines.specs.declared.fault.PlacedFault.{PlacedFault}
use Rattle.text_lines.specs.declared.fault.PlacedFault.TheVariants.{OutOfMemory, At}
use Rattle.text_lines.specs.Fault.{IsRefusalAt}
use Rattle.text_lines.proofs.Decimals.IntegerLemmas.{not_negative}

-- a refusal that says more
pub refusal_weaker : (P Q : LratCause → Type 0) (number : ℕ) (fault : PlacedFault LratCause) → ((cause : LratCause) → P cause → Q cause) → IsRefusalAt P number fault → IsRefusalAt Q number fault
refusal_weaker P Q number OutOfMemory h k = tt
refusal_weaker P Q number (At cause place) h k = (h cause k.0, k.1)

-- a refusal that is handed on
pub handed : {A : Type 0} (P : A → Type 0) (Q : PlacedFault LratCause → Type 0) (r : Result A (PlacedFault LratCause)) (fault : PlacedFault LratCause) → IsErrAnd r (λ other. other ≡ fault) → Q fault → MatchResult r P Q
handed P Q (Ok x) fault e h = absurd e
handed P Q (Err other) fault e h = subst Q (sym e) h

-- a first number is right
pub first_right : (least n : ℕ) → least ≤ n → n ≤ most_id → first_fault least (Some (pos n)) ≡ None
first_right least n h k = cond-true (not (is_negative (pos n)) && (nat_le least n && nat_le n most_id)) None (Some BadNumber)
    (and_from _ _ (ap not (not_negative n)) (and_from _ _ (le-leb least n h) (le-leb n most_id k)))

-- a list, and what is after it
pub says_list : (fault : Option ℤ → Option LratCause) (passes : ℤ → Bool) (words : List (List ℕ)) (numbers : List ℤ) (rest : List (List ℕ)) (more : List ℤ) →
    BeginsWithList fault passes words numbers rest → Says rest more → Says words (ended numbers ++ more)
says_list fault passes words numbers rest more h k =
    ap (map solver_number) h.parts ∙ map-append solver_number h.front (h.zero_word ∷ rest)
    ∙ (λ i. h.says i ++ (h.says_zero i ∷ k i))
    ∙ sym (map-append Some numbers (pos 0 ∷ more)) ∙ ap (map Some) (sym (append_assoc numbers (pos 0 ∷ []) more))

pub says_last : (fault : Option ℤ → Option LratCause) (passes : ℤ → Bool) (words : List (List ℕ)) (numbers : List ℤ) (rest : List (List ℕ)) →
    BeginsWithList fault passes words numbers rest → rest ≡ [] → Says words (ended numbers)
says_last fault passes words numbers rest h none =
    says_list fault passes words numbers rest [] h (ap (map solver_number) none) ∙ ap (map Some) (append-nil (ended numbers))

pub all_ids : (ids : List ℕ) → list_all is_id_number (map pos ids) ≡ true → list_all is_id ids ≡ true
all_ids ids h = sym (list_all-map is_id_number pos ids) ∙ h

-- an addition
pub addition_read : (word : List ℕ) (words after behind : List (List ℕ)) (id : ℕ) (literals hints : List ℤ) → solver_number word ≡ Some (pos id) → 1 ≤ id → id ≤ most_id →
    BeginsWithList literal_fault is_literal words literals after → BeginsWithList hint_fault is_id_number after hints behind → behind ≡ [] →
    IsWrittenStep (word ∷ words) (Addition id literals hints)
addition_read word words after behind id literals hints e least most first second none = record {
  is = λ i. e i ∷ says_list literal_fault is_literal words literals after (ended hints) first (says_last hint_fault is_id_number after hints behind second none) i;
  written = and_from _ _ (and_from _ _ (lt-ltb 0 id (omega (arith, least))) (le-leb id most_id most)) (and_from _ _ first.good second.good);
}

-- a deletion
pub deletion_read : (word : List ℕ) (words behind : List (List ℕ)) (number : ℕ) (ids : List ℕ) → solver_number word ≡ Some (pos number) → number ≤ most_id →
    BeginsWithList id_fault is_id_number words (map pos ids) behind → behind ≡ [] → IsWrittenStep (word ∷ (codes "d" ∷ words)) (Deletion number ids)
deletion_read word words behind number ids e most list none = record {
  is = (word, words, refl, e, says_last id_fault is_id_number words (map pos ids) behind list none);
  written = and_from _ _ (le-leb number most_id most) (all_ids ids list.good);
}

-- if the first number is right, the fault is one of the other words
pub first_passes : (least n : ℕ) (word : List ℕ) (other : Option LratCause) (cause : LratCause) → solver_number word ≡ Some (pos n) → least ≤ n → n ≤ most_id → other ≡ Some cause →
    option_or (first_fault least (solver_number word)) other ≡ Some cause
first_passes least n word other cause e h k faulty = ap (λ o. option_or (first_fault least o) other) e ∙ ap (λ o. option_or o other) (first_right least n h k) ∙ faulty
