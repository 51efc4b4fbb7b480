-- The words after a header write one list of clauses or have one first fault.
use Rattle.std.proofs.Common.{◌≡◌, ◌⊎◌, ℕ, ◌+◌, ◌<◌, ◌≤◌, List, [], ◌∷◌, ◌++◌, length, map, Bool, true, false, cond, refl, ap, sym, ◌∙◌, subst, arith, inl, inr, append_assoc, append-nil, length-append}
use Rattle.std.specs.Prelude.{Option, Some, None, ℤ, pos, nat_le, nat_lt}
use Rattle.std.specs.List.{flat_map, list_all}
use Rattle.std.proofs.lemmas.Bool.{and_parts, cond-false}
use Rattle.std.proofs.lemmas.Bool.Decides.{nat_tests}
use Rattle.std.proofs.lemmas.Option.{none-some}
use Rattle.std.proofs.lemmas.List.{length_push}
use Rattle.std.proofs.lemmas.List.Concat.{flat_map-cons}
use Rattle.text_lines.specs.FirstFault.{IsFaultless, IsFirstFault}
use Rattle.text_lines.proofs.FaultLemmas.{compared, none_is_some, one_first, either}
use Rattle.cnf_text.specs.CnfProgress.{AreClauses, AreBody}
use Rattle.cnf_text.specs.CnfReading.{Header, ended, number_fault, word_fault, whole_fault, HasBodyFault}
use Rattle.dimacs.specs.Literal.{is_literal_up_to, is_clause_up_to}
use Rattle.cnf_text.specs.declared.cnf_fault.CnfCause.{CnfCause}
use Rattle.cnf_text.specs.declared.cnf_fault.CnfCause.TheVariants.{Trailing, CountMismatch}
use Rattle.cnf_text.proofs.CnfNumberLemmas.{clear_says}
use Rattle.cnf_text.proofs.CnfBodyLemmas.{Words, number_of, no_clauses, fault_here, push_end, push_literal}
use Rattle.cnf_text.proofs.CnfReaderLemmas.{whole_here, whole_read}

-- the words of clauses, one after another
run : (h : Header) (done : Words) (clauses : List (List ℤ)) (begun : List ℤ) (rest : Words) (tail : List ℤ) (later : List (List ℤ)) → AreClauses h done clauses begun →
    map number_of rest ≡ map Some (tail ++ pos 0 ∷ flat_map ended later) → is_clause_up_to h.variables tail ≡ true → list_all (is_clause_up_to h.variables) later ≡ true →
    length clauses + length later < h.clauses → AreClauses h (done ++ rest) (clauses ++ (begun ++ tail) ∷ later) []
run h done clauses begun [] [] later so_far e small all room = absurd (cc)
run h done clauses begun [] (z ∷ tail) later so_far e small all room = absurd (cc)
run h done clauses begun (w ∷ rest) (z ∷ tail) later so_far e small all room =
    let parts = and_parts (is_literal_up_to h.variables z) (is_clause_up_to h.variables tail) small in
    let number : number_of w ≡ Some z = cc in
    let others : map number_of rest ≡ map Some (tail ++ pos 0 ∷ flat_map ended later) = cc in
    let pushed = push_literal h done clauses begun w z so_far (omega (arith, room)) number parts.0 in
    let ran = run h (done ++ w ∷ []) clauses (begun ++ z ∷ []) rest tail later pushed others parts.1 all room in
    subst (λ (words : Words). AreClauses h words (clauses ++ (begun ++ z ∷ tail) ∷ later) []) (append_assoc done (w ∷ []) rest)
    (subst (λ (clause : List ℤ). AreClauses h ((done ++ w ∷ []) ++ rest) (clauses ++ clause ∷ later) []) (append_assoc begun (z ∷ []) tail) ran)
run h done clauses begun (w ∷ []) [] [] so_far e small all room =
    let number : number_of w ≡ Some (pos 0) = cc in
    subst (λ (clause : List ℤ). AreClauses h (done ++ w ∷ []) (clauses ++ clause ∷ []) []) (sym (append-nil begun)) (push_end h done clauses begun w so_far (omega (arith, room)) number)
run h done clauses begun (w ∷ (v ∷ rest)) [] [] so_far e small all room = absurd (cc)
run h done clauses begun (w ∷ rest) [] (c ∷ later) so_far e small all room =
    let parts = and_parts (is_clause_up_to h.variables c) (list_all (is_clause_up_to h.variables) later) all in
    let number : number_of w ≡ Some (pos 0) = cc in
    let next : map number_of rest ≡ map Some (flat_map ended (c ∷ later)) = cc in
    let split : flat_map ended (c ∷ later) ≡ c ++ pos 0 ∷ flat_map ended later = flat_map-cons ended c later ∙ append_assoc c (pos 0 ∷ []) (flat_map ended later) in
    let pushed = push_end h done clauses begun w so_far (omega (arith, room)) number in
    let ran = run h (done ++ w ∷ []) (clauses ++ begun ∷ []) [] rest c later pushed (next ∙ ap (map Some) split) parts.0 parts.1 (omega (arith, room, length_push clauses begun)) in
    subst (λ (words : Words). AreClauses h words (clauses ++ (begun ++ []) ∷ (c ∷ later)) []) (append_assoc done (w ∷ []) rest)
    (subst (λ (clause : List ℤ). AreClauses h ((done ++ w ∷ []) ++ rest) (clauses ++ clause ∷ (c ∷ later)) []) (sym (append-nil begun))
    (subst (λ (l : List (List ℤ)). AreClauses h ((done ++ w ∷ []) ++ rest) l []) (append_assoc clauses (begun ∷ []) (c ∷ later)) ran))

arrange : (h : Header) (words : Words) (clauses : List (List ℤ)) → map number_of words ≡ map Some (flat_map ended clauses) → list_all (is_clause_up_to h.variables) clauses ≡ true → length clauses ≤ h.clauses → AreClauses h words clauses []
arrange h [] [] e all few = no_clauses h
arrange h (w ∷ words) [] e all few = absurd (cc)
arrange h words (c ∷ later) e all few =
    let parts = and_parts (is_clause_up_to h.variables c) (list_all (is_clause_up_to h.variables) later) all in
    let split : flat_map ended (c ∷ later) ≡ c ++ pos 0 ∷ flat_map ended later = flat_map-cons ended c later ∙ append_assoc c (pos 0 ∷ []) (flat_map ended later) in
    run h [] [] [] words c later (no_clauses h) (e ∙ ap (map Some) split) parts.0 parts.1 (omega (arith, few))

pub arranged : (h : Header) (words : Words) (clauses : List (List ℤ)) → AreBody h words clauses → AreClauses h words clauses []
arranged h words clauses body = arrange h words clauses body.numbers body.within (omega (arith, body.count))

not_below : (n m : ℕ) → n ≡ m → nat_lt n m ≡ false
not_below n m e = grind (arith, nat_tests)

pub whole_clear : (h : Header) (words : Words) (clauses : List (List ℤ)) → AreBody h words clauses → whole_fault h words ≡ None
whole_clear h words clauses body =
    whole_here h words clauses [] (arranged h words clauses body) ∙ cond-false (nat_lt (length clauses) h.clauses) (Some CountMismatch) None (not_below (length clauses) h.clauses body.count)

-- words that write clauses have no fault
pub never_body_fault : (h : Header) (words : Words) (clauses : List (List ℤ)) (end line : ℕ) (cause : CnfCause) → AreBody h words clauses → HasBodyFault h words end cause line → ⊥
never_body_fault h words clauses end line cause body (inl fault) =
    let first = fault.first in
    none_is_some cause (sym ((arranged h words clauses body).clear first.before first.item first.after first.parts) ∙ first.faulty)
never_body_fault h words clauses end line cause body (inr fault) = none_is_some cause (sym (whole_clear h words clauses body) ∙ fault.faulty)

-- two first faults stand at the same item
same_item : {A F : Type 0} (fault : List A → A → Option F) (items : List A) (p q : ℕ) (f g : F) (a : IsFirstFault fault items p f) (b : IsFirstFault fault items q g) → p ≡ q → a.item ≡ b.item
same_item fault items p q f g a b e =
    elim (compared a.before b.before a.item b.item a.after b.after (sym a.parts ∙ b.parts)) [
      | inl same ↦ same.1
      | inr (inl (m, s)) ↦ absurd (omega (arith, e, a.counted, b.counted, ap length s, length-append a.before (a.item ∷ m)))
      | inr (inr (m, s)) ↦ absurd (omega (arith, e, a.counted, b.counted, ap length s, length-append b.before (b.item ∷ m)))
    ]

pub one_body_fault : (h : Header) (words : Words) (end : ℕ) (c d : CnfCause) (p q : ℕ) → HasBodyFault h words end c p → HasBodyFault h words end d q → (c ≡ d) × (p ≡ q)
one_body_fault h words end c d p q (inl a) (inl b) =
    let same = one_first (word_fault h) words a.place b.place c d a.first b.first in
    (same.1, a.stands ∙ ap (λ (w : ℕ × List ℕ). w.0) (same_item (word_fault h) words a.place b.place c d a.first b.first same.0) ∙ sym b.stands)
one_body_fault h words end c d p q (inl a) (inr b) = absurd (none_is_some c (sym (b.clear a.first.before a.first.item a.first.after a.first.parts) ∙ a.first.faulty))
one_body_fault h words end c d p q (inr a) (inl b) = absurd (none_is_some d (sym (a.clear b.first.before b.first.item b.first.after b.first.parts) ∙ b.first.faulty))
one_body_fault h words end c d p q (inr a) (inr b) =
    let same : Some c ≡ Some d = sym a.faulty ∙ b.faulty in
    (cc, a.stands ∙ sym b.stands)

-- a word without a fault goes on
has_room : (n m : ℕ) (o : Option CnfCause) (b : Bool) → nat_le n m ≡ b → cond b (Some Trailing) o ≡ None → (m < n) × (o ≡ None)
has_room n m o true e h = absurd (none-some Trailing (sym h))
has_room n m o false e h = (grind (arith, nat_tests), h)

abbrev IsGathered : Header → Words → Type 0
IsGathered h words = (clauses : List (List ℤ)) × (begun : List ℤ) × AreClauses h words clauses begun

go_on : (h : Header) (done : Words) (clauses : List (List ℤ)) (begun : List ℤ) (word : ℕ × List ℕ) → AreClauses h done clauses begun → word_fault h done word ≡ None → IsGathered h (done ++ word ∷ [])
go_on h done clauses begun word so_far clear =
    let free = has_room h.clauses (length clauses) (number_fault h.variables word.1) (nat_le h.clauses (length clauses)) refl (sym (fault_here h done clauses begun word so_far) ∙ clear) in
    elim (clear_says h.variables word.1 free.1) [
      | inl number ↦ (clauses ++ begun ∷ [], [], push_end h done clauses begun word so_far free.0 number)
      | inr (z, number, literal) ↦ (clauses, begun ++ z ∷ [], push_literal h done clauses begun word z so_far free.0 number literal)
    ]

gather : (h : Header) (rest done : Words) (clauses : List (List ℤ)) (begun : List ℤ) → AreClauses h done clauses begun → IsFaultless (word_fault h) (done ++ rest) → IsGathered h (done ++ rest)
gather h [] done clauses begun so_far clear = (clauses, begun, subst (λ (w : Words). AreClauses h w clauses begun) (sym (append-nil done)) so_far)
gather h (word ∷ rest) done clauses begun so_far clear =
    let joined : (done ++ word ∷ []) ++ rest ≡ done ++ word ∷ rest = append_assoc done (word ∷ []) rest in
    let next = go_on h done clauses begun word so_far (clear done word rest refl) in
    subst (λ (w : Words). IsGathered h w) joined
    (gather h rest (done ++ word ∷ []) next.0 next.1 next.2 (subst (λ (w : Words). IsFaultless (word_fault h) w) (sym joined) clear))

abbrev pub IsJudged : Header → Words → ℕ → Type 0
IsJudged h words end = ((clauses : List (List ℤ)) × AreBody h words clauses) ⊎ ((cause : CnfCause) × (line : ℕ) × HasBodyFault h words end cause line)

judge_whole : (h : Header) (words : Words) (end : ℕ) (o : Option CnfCause) → whole_fault h words ≡ o → IsFaultless (word_fault h) words → IsGathered h words → IsJudged h words end
judge_whole h words end None e clear gathered =
    inl (gathered.0, whole_read h words gathered.0 gathered.1 gathered.2 (sym e ∙ whole_here h words gathered.0 gathered.1 gathered.2))
judge_whole h words end (Some cause) e clear gathered = inr (cause, end, inr (record { clear = clear; faulty = e; stands = refl }))

pub judge_body : (h : Header) (words : Words) (end : ℕ) → IsJudged h words end
judge_body h words end =
    elim (either (word_fault h) words) [
      | inl clear ↦ judge_whole h words end (whole_fault h words) refl clear (gather h words [] [] [] (no_clauses h) clear)
      | inr (place, found, first) ↦ inr (found, first.item.0, inl (record { place = place; first = first; stands = refl }))
    ]
