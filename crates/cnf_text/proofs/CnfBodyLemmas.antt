-- The clauses of a formula's text, word by word.
use Rattle.std.proofs.Common.{◌≡◌, ℕ, ◌+◌, ◌-◌, ◌<◌, List, [], ◌∷◌, ◌++◌, length, map, drop, true, false, cond, refl, ap, sym, ◌∙◌, subst, arith, inl, inr, append_assoc, append-nil, length-append}
use Rattle.std.specs.Prelude.{Option, Some, ℤ, pos, nat_le}
use Rattle.std.specs.List.{filter, flat_map, list_all}
use Rattle.std.proofs.lemmas.Bool.{and_from, cond-false, and_left}
use Rattle.std.proofs.lemmas.Bool.Decides.{nat_tests}
use Rattle.std.proofs.lemmas.List.{map_push, map-append, length_push, flat_map_more}
use Rattle.std.proofs.lemmas.List.Elements.{filter-append}
use Rattle.std.proofs.lemmas.List.Folds.{list_all-append}
use Rattle.text_lines.specs.Numbers.{solver_number}
use Rattle.text_lines.specs.Words.{is_empty}
use Rattle.text_lines.proofs.FaultLemmas.{faultless_nil, faultless_push}
use Rattle.text_lines.specs.Words.{words_of}
use Rattle.cnf_text.specs.declared.cnf_fault.CnfCause.{CnfCause}
use Rattle.cnf_text.specs.CnfLines.{words_of_line}
use Rattle.cnf_text.specs.CnfProgress.{AreClauses, TakesWord, IsWordRefusal, IsLineRefusal}
use Rattle.text_lines.specs.declared.fault.PlacedFault.{PlacedFault}
use Rattle.text_lines.specs.declared.fault.PlacedFault.TheVariants.{OutOfMemory, At}
use Rattle.cnf_text.specs.CnfReading.{Header, ended, is_zero, ends_of, fault_after, number_fault, word_fault}
use Rattle.dimacs.specs.Literal.{is_literal_up_to, is_clause_up_to}
use Rattle.cnf_text.specs.declared.cnf_fault.CnfCause.TheVariants.{Trailing}
use Rattle.cnf_text.proofs.CnfNumberLemmas.{zero_is_zero, small_clear, literal_size, literal_is_no_zero}

abbrev pub Words : Type 0
Words = List (ℕ × List ℕ)

abbrev pub number_of : ℕ × List ℕ → Option ℤ
number_of word = solver_number word.1

pub no_clauses : (h : Header) → AreClauses h [] [] []
no_clauses h = record { numbers = refl; within = refl; literals = refl; few = omega arith; counted = refl; last = refl; clear = faultless_nil (word_fault h) }

not_at_least : (n m : ℕ) → m < n → nat_le n m ≡ false
not_at_least n m l = grind (arith, nat_tests)

-- where there is room, only the number may be wrong
pub fault_with_room : (h : Header) (complete : ℕ) (word : List ℕ) → complete < h.clauses → fault_after h complete word ≡ number_fault h.variables word
fault_with_room h complete word room = cond-false (nat_le h.clauses complete) (Some Trailing) (number_fault h.variables word) (not_at_least h.clauses complete room)

pub fault_here : (h : Header) (words : Words) (clauses : List (List ℤ)) (begun : List ℤ) (word : ℕ × List ℕ) → AreClauses h words clauses begun → word_fault h words word ≡ fault_after h (length clauses) word.1
fault_here h words clauses begun word so_far = ap (λ k. fault_after h k word.1) so_far.counted

drop_seam : (xs ys : Words) → drop (length xs) (xs ++ ys) ≡ ys
drop_seam [] ys = refl
drop_seam (x ∷ xs) ys = drop_seam xs ys

last_word : (words : Words) (word : ℕ × List ℕ) → drop (length (words ++ word ∷ []) - 1) (words ++ word ∷ []) ≡ word ∷ []
last_word words word =
    let k : length (words ++ word ∷ []) - 1 ≡ length words = omega (arith, length_push words word) in
    ap (λ n. drop n (words ++ word ∷ [])) k ∙ drop_seam words (word ∷ [])

last_is : (words : Words) (word : ℕ × List ℕ) → list_all is_zero (drop (length (words ++ word ∷ []) - 1) (words ++ word ∷ [])) ≡ list_all is_zero (word ∷ [])
last_is words word = ap (list_all is_zero) (last_word words word)

one_counted : (words : Words) (word : ℕ × List ℕ) → ends_of (words ++ word ∷ []) ≡ ends_of words + length (filter is_zero (word ∷ []))
one_counted words word = ap length (filter-append is_zero words (word ∷ [])) ∙ length-append (filter is_zero words) (filter is_zero (word ∷ []))

empty_push : {X : Type 0} (xs : List X) (x : X) → is_empty (xs ++ x ∷ []) ≡ false
empty_push xs x = let more : 0 < length (xs ++ x ∷ []) = omega (arith, length_push xs x) in grind (arith, nat_tests)

pub push_end : (h : Header) (words : Words) (clauses : List (List ℤ)) (begun : List ℤ) (word : ℕ × List ℕ) → AreClauses h words clauses begun → length clauses < h.clauses → solver_number word.1 ≡ Some (pos 0) →
    AreClauses h (words ++ word ∷ []) (clauses ++ begun ∷ []) []
push_end h words clauses begun word so_far room number =
    let is_end : is_zero word ≡ true = zero_is_zero word.0 word.1 number in
    let one : length (filter is_zero (word ∷ [])) ≡ 1 = ap (λ b. length (cond b (word ∷ []) [])) is_end in
    let joined : (flat_map ended clauses ++ begun) ++ pos 0 ∷ [] ≡ flat_map ended (clauses ++ begun ∷ []) = append_assoc (flat_map ended clauses) begun (pos 0 ∷ []) ∙ flat_map_more ended [] clauses begun in
    record {
      numbers =
          map_push number_of words word
          ∙ (λ i. so_far.numbers i ++ number i ∷ [])
          ∙ sym (map_push Some (flat_map ended clauses ++ begun) (pos 0))
          ∙ ap (map Some) (joined ∙ sym (append-nil (flat_map ended (clauses ++ begun ∷ []))));
      within = list_all-append (is_clause_up_to h.variables) clauses (begun ∷ []) ∙ and_from _ _ so_far.within (and_from _ true so_far.literals refl);
      literals = refl;
      few = omega (arith, room, length_push clauses begun);
      counted = one_counted words word ∙ omega (arith, so_far.counted, one, length_push clauses begun);
      last = last_is words word ∙ and_from _ true is_end refl;
      clear = faultless_push (word_fault h) words word so_far.clear (fault_here h words clauses begun word so_far ∙ fault_with_room h (length clauses) word.1 room ∙ small_clear h.variables word.1 (pos 0) number (omega arith));
    }

pub push_literal : (h : Header) (words : Words) (clauses : List (List ℤ)) (begun : List ℤ) (word : ℕ × List ℕ) (z : ℤ) → AreClauses h words clauses begun → length clauses < h.clauses → solver_number word.1 ≡ Some z →
    is_literal_up_to h.variables z ≡ true → AreClauses h (words ++ word ∷ []) clauses (begun ++ z ∷ [])
push_literal h words clauses begun word z so_far room number literal =
    let no_end : is_zero word ≡ false = literal_is_no_zero h.variables word.0 word.1 z number literal in
    let none : length (filter is_zero (word ∷ [])) ≡ 0 = ap (λ b. length (cond b (word ∷ []) [])) no_end in
    record {
      numbers =
          map_push number_of words word
          ∙ (λ i. so_far.numbers i ++ number i ∷ [])
          ∙ sym (map_push Some (flat_map ended clauses ++ begun) z)
          ∙ ap (map Some) (append_assoc (flat_map ended clauses) begun (z ∷ []));
      within = so_far.within;
      literals = list_all-append (is_literal_up_to h.variables) begun (z ∷ []) ∙ and_from _ _ so_far.literals (and_from _ true literal refl);
      few = so_far.few;
      counted = one_counted words word ∙ omega (arith, so_far.counted, none);
      last = last_is words word ∙ and_left (is_zero word) true no_end ∙ sym (empty_push begun z);
      clear = faultless_push (word_fault h) words word so_far.clear (fault_here h words clauses begun word so_far ∙ fault_with_room h (length clauses) word.1 room ∙ small_clear h.variables word.1 z number (literal_size h.variables z literal).1);
    }

-- one more word that is taken
pub take_more : (h : Header) (words : Words) (clauses : List (List ℤ)) (begun : List ℤ) (line : ℕ) (word : List ℕ) (new_clauses : List (List ℤ)) (new_begun : List ℤ) → AreClauses h words clauses begun →
    TakesWord h word clauses begun new_clauses new_begun → AreClauses h (words ++ (line, word) ∷ []) new_clauses new_begun
take_more h words clauses begun line word new_clauses new_begun so_far taken =
    elim taken.taken [
      | inl e ↦ subst (λ (all : List (List ℤ)). AreClauses h (words ++ (line, word) ∷ []) all new_begun) (sym e.clause)
          (subst (λ (literals : List ℤ). AreClauses h (words ++ (line, word) ∷ []) (clauses ++ begun ∷ []) literals) (sym e.none) (push_end h words clauses begun (line, word) so_far taken.room e.number))
      | inr a ↦ subst (λ (all : List (List ℤ)). AreClauses h (words ++ (line, word) ∷ []) all new_begun) (sym a.kept)
          (subst (λ (literals : List ℤ). AreClauses h (words ++ (line, word) ∷ []) clauses literals) (sym a.added) (push_literal h words clauses begun (line, word) a.literal so_far taken.room a.number a.small))
    ]

-- the words of a line that have been taken
pub record IsWithinLine (h : Header) (number : ℕ) (line : List (List ℕ)) (clauses : List (List ℤ)) (begun : List ℤ) (rest : List (List ℕ)) (new_clauses : List (List ℤ)) (new_begun : List ℤ) : Type 0 where
  pub done : List (List ℕ)
  pub parts : line ≡ done ++ rest
  pub taken : (words : Words) → AreClauses h words clauses begun → AreClauses h (words ++ words_of_line (number, done)) new_clauses new_begun

place_more : (number : ℕ) (done : List (List ℕ)) (word : List ℕ) (words : Words) → (words ++ words_of_line (number, done)) ++ (number, word) ∷ [] ≡ words ++ words_of_line (number, done ++ word ∷ [])
place_more number done word words = append_assoc words (words_of_line (number, done)) ((number, word) ∷ []) ∙ ap (λ w. words ++ w) (sym (map_push (λ (w : List ℕ). (number, w)) done word))

pub next_in_line : (h : Header) (number : ℕ) (line : List (List ℕ)) (clauses : List (List ℤ)) (begun : List ℤ) (rest : List (List ℕ)) (between : List (List ℤ)) (between_begun : List ℤ) (word : List ℕ) (after : List (List ℕ)) (new_clauses : List (List ℤ)) (new_begun : List ℤ) →
    IsWithinLine h number line clauses begun rest between between_begun → rest ≡ word ∷ after → TakesWord h word between between_begun new_clauses new_begun → IsWithinLine h number line clauses begun after new_clauses new_begun
next_in_line h number line clauses begun rest between between_begun word after new_clauses new_begun within cut takes = record {
  done = within.done ++ word ∷ [];
  parts = within.parts ∙ ap (λ r. within.done ++ r) cut ∙ sym (append_assoc within.done (word ∷ []) after);
  taken = λ words so_far. subst (λ (w : Words). AreClauses h w new_clauses new_begun) (place_more number within.done word words)
      (take_more h (words ++ words_of_line (number, within.done)) between between_begun number word new_clauses new_begun (within.taken words so_far) takes);
}

-- a refusal of the next word is one of the line
pub line_refused : (h : Header) (number : ℕ) (line : List ℕ) (clauses : List (List ℤ)) (begun : List ℤ) (rest : List (List ℕ)) (between : List (List ℤ)) (between_begun : List ℤ) (word : List ℕ) (after : List (List ℕ)) (fault : PlacedFault CnfCause) →
    IsWithinLine h number (words_of line) clauses begun rest between between_begun → rest ≡ word ∷ after → IsWordRefusal h (length between) number word fault → IsLineRefusal h number line clauses begun fault
line_refused h number line clauses begun rest between between_begun word after OutOfMemory within cut refusal = tt
line_refused h number line clauses begun rest between between_begun word after (At cause place) within cut refusal = λ words later so_far.
    let before = words ++ words_of_line (number, within.done) in
    let here = within.taken words so_far in
    let split : words_of_line (number, words_of line) ≡ words_of_line (number, within.done) ++ (number, word) ∷ words_of_line (number, after) =
    ap (map (λ (w : List ℕ). (number, w))) (within.parts ∙ ap (λ r. within.done ++ r) cut) ∙ map-append (λ (w : List ℕ). (number, w)) within.done (word ∷ after) in
    record {
      place = length before + 1;
      first = record {
        before = before;
        item = (number, word);
        after = words_of_line (number, after) ++ later;
        parts = ap (λ l. words ++ (l ++ later)) split ∙ ap (λ l. words ++ l) (append_assoc (words_of_line (number, within.done)) ((number, word) ∷ words_of_line (number, after)) later) ∙ sym (append_assoc words (words_of_line (number, within.done)) ((number, word) ∷ (words_of_line (number, after) ++ later)));
        counted = refl;
        faulty = fault_here h before between between_begun (number, word) here ∙ refusal.0;
        first = here.clear;
      };
      stands = refusal.1;
    }
