-- What the reader of a solver's answer keeps.
use Rattle.std.proofs.Common.{◌≡◌, ◌<◌, length, ℕ, zero, suc, ◌+◌, ◌≤◌, ℤ, pos, negsuc, neg_ℤ, nat_abs, Bool, true, false, ◌||◌, Some, None, List, [], ◌∷◌, ◌++◌, map, refl, sym, ◌∙◌, ap, subst, cond, eqb, arith, append_assoc, append-nil}
use Rattle.std.specs.List.{list_any}
use Rattle.std.specs.Int.{is_positive}
use Rattle.std.specs.Ordering.{int_eq}
use Rattle.std.proofs.lemmas.Bool.{true≢false}
use Rattle.std.proofs.lemmas.Int.{ints}
use Rattle.std.proofs.lemmas.Bool.Decides.{nat_tests, Decides-int_eq, Decides-eqb, Decides-like, same_from_decides}
use Rattle.std.specs.Option.{option_eq, option_map}
use Rattle.std.proofs.lemmas.List.{map_push, map-append}
use Rattle.std.proofs.lemmas.List.Folds.{list_any-append}
use Rattle.text_lines.specs.Fault.{IsRefusal}
use Rattle.text_lines.specs.FirstFault.{IsFaultless}
use Rattle.text_lines.specs.Lines.{lines_of}
use Rattle.text_lines.specs.Words.{words_of}
use Rattle.text_lines.proofs.FaultLemmas.{faultless_nil, faultless_push}
use Rattle.text_lines.proofs.Decimals.IntegerLemmas.{other_integer}
use Rattle.text_lines.proofs.BoolLemmas.{or_last}
use Rattle.model_text.specs.declared.model_reader.ModelReader.{ModelReader}
use Rattle.model_text.specs.declared.model_fault.ModelCause.{ModelCause}
use Rattle.model_text.specs.declared.model_fault.ModelCause.TheVariants.{BadLine, BadNumber, Clash, Unended}
use Rattle.text_lines.specs.declared.fault.PlacedFault.{PlacedFault}
use Rattle.text_lines.specs.declared.fault.PlacedFault.TheVariants.{OutOfMemory, At}
use Rattle.dimacs.specs.Assignment.{value_of}
use Rattle.model_text.specs.ModelText.{Said, Word, End, said, model_number, SpellsModel}
use Rattle.model_text.proofs.ModelTextLemmas.{spelled_by_model}
use Rattle.model_text.specs.ModelFirstFault.{at_line, said_from, writes, number_fault, said_fault, model_fault, HasModelFault}
use Rattle.model_text.specs.ModelProgress.{has_number, HasNumberMore, IsClash, TakesNumber, IsModelProgress, IsNextFault, TakesThings, RefusesThings}

-- equal numbers of variables
same_positive : (a b : ℕ) → int_eq (pos a) (pos b) ≡ eqb b a
same_positive a b = same_from_decides _ _ (Decides-like _ (λ e. sym (ap nat_abs e)) (λ e. sym (ap pos e)) (Decides-int_eq (pos a) (pos b))) (Decides-eqb b a)

same_negative : (a b : ℕ) → int_eq (negsuc a) (negsuc b) ≡ eqb (suc b) (suc a)
same_negative a b = same_from_decides _ _ (Decides-like _ (λ e. sym (ap nat_abs e)) (λ e. cc) (Decides-int_eq (negsuc a) (negsuc b))) (Decides-eqb (suc b) (suc a))

above_zero : (k : ℕ) → is_positive (pos (suc k)) ≡ true
above_zero k = grind (arith, ints, nat_tests)

-- a variable of which the positive literal comes
pub positive_added : (old new : ModelReader) (y : ℤ) → is_positive y ≡ true → new.ended ≡ old.ended → new.negative ≡ old.negative →
    ((n : ℕ) → value_of new.positive.items n ≡ (eqb (nat_abs y) n || value_of old.positive.items n)) → HasNumberMore y old new
positive_added old new (pos zero) h e n p z = absurd (cc)
positive_added old new (pos (suc k)) h e n p (pos zero) = e ∙ ap (λ b. b || old.ended) (sym (other_integer (pos 0) (pos (suc k)) (λ same. absurd (cc))))
positive_added old new (pos (suc k)) h e n p (pos (suc j)) = p (suc j) ∙ ap (λ b. b || value_of old.positive.items (suc j)) (sym (same_positive (suc j) (suc k)))
positive_added old new (pos (suc k)) h e n p (negsuc j) = ap (λ v. value_of v.items (suc j)) n ∙ ap (λ b. b || value_of old.negative.items (suc j)) (sym (other_integer (negsuc j) (pos (suc k)) (λ same. absurd (cc))))
positive_added old new (negsuc k) h e n p z = absurd (cc)

-- a variable of which the negative literal comes
pub negative_added : (old new : ModelReader) (y : ℤ) → is_positive y ≡ false → 1 ≤ nat_abs y → new.ended ≡ old.ended → new.positive ≡ old.positive →
    ((n : ℕ) → value_of new.negative.items n ≡ (eqb (nat_abs y) n || value_of old.negative.items n)) → HasNumberMore y old new
negative_added old new (pos zero) h l e n p z = absurd (omega (arith, l))
negative_added old new (pos (suc k)) h l e n p z = absurd (true≢false (sym (above_zero k) ∙ h))
negative_added old new (negsuc k) h l e n p (pos zero) = e ∙ ap (λ b. b || old.ended) (sym (other_integer (pos 0) (negsuc k) (λ same. absurd (cc))))
negative_added old new (negsuc k) h l e n p (pos (suc j)) = ap (λ v. value_of v.items (suc j)) n ∙ ap (λ b. b || value_of old.positive.items (suc j)) (sym (other_integer (pos (suc j)) (negsuc k) (λ same. absurd (cc))))
negative_added old new (negsuc k) h l e n p (negsuc j) = p (suc j) ∙ ap (λ b. b || value_of old.negative.items (suc j)) (sym (same_negative j k))

-- nothing has come
pub nothing_read : (reader : ModelReader) → reader.positive.items ≡ [] → reader.negative.items ≡ [] → reader.ended ≡ false → IsModelProgress [] reader
nothing_read reader p n e = record { clear = faultless_nil model_fault; numbers = none }
  where
    none : (z : ℤ) → has_number reader z ≡ false
    none (pos zero) = e
    none (pos (suc k)) = ap (λ v. value_of v (suc k)) p
    none (negsuc k) = ap (λ v. value_of v (suc k)) n

-- a word is taken
pub word_taken : (old new : ModelReader) (before : List (ℕ × Said)) (number : ℕ) (word : List ℕ) (z : ℤ) → old.ended ≡ false → model_number word ≡ Some z → TakesNumber z old new →
    IsModelProgress before old → IsModelProgress (before ++ (number, Word word) ∷ []) new
word_taken old new before number word z still m t h =
    record {
      clear = faultless_push model_fault before (number, Word word) h.clear (
          (λ i. option_map (λ cause. (cause, number)) (cond ((sym (h.numbers (pos 0)) ∙ still) i) (Some BadLine) (number_fault before (m i))))
          ∙ ap (λ b. option_map (λ cause. (cause, number)) (cond b (Some Clash) None)) (sym (h.numbers (neg_ℤ z)) ∙ t.apart));
      numbers = λ y. t.more y ∙ (λ i. int_eq y z || h.numbers y i) ∙ or_last (int_eq y z) (list_any (writes y) before)
          ∙ (λ i. list_any (writes y) before || (option_eq int_eq (Some y) (sym m i) || false))
          ∙ sym (list_any-append (writes y) before ((number, Word word) ∷ []));
    }

-- one thing is refused
thing_refused : (before : List (ℕ × Said)) (line : ℕ) (thing : Said) (cause : ModelCause) (reader : ModelReader) → said_fault before thing ≡ Some cause → IsModelProgress before reader → IsNextFault before ((line, thing) ∷ []) cause line
thing_refused before line thing cause reader refused h = record {
  front = [];
  thing = (line, thing);
  back = [];
  parts = refl;
  faulty = ap (λ items. model_fault items (line, thing)) (append-nil before) ∙ ap (option_map (λ found. (found, line))) refused;
  first = subst (λ (items : List (ℕ × Said)). IsFaultless model_fault items) (sym (append-nil before)) h.clear;
}

-- a word after the zero, a word that is no number, and a literal whose negation has come
pub late_word : (line : ℕ) (word : List ℕ) (reader : ModelReader) → reader.ended ≡ true → RefusesThings ((line, Word word) ∷ []) reader (At BadLine line)
late_word line word reader closed before h =
    thing_refused before line (Word word) BadLine reader (ap (λ b. cond b (Some BadLine) (number_fault before (model_number word))) (sym (h.numbers (pos 0)) ∙ closed)) h

pub no_number : (line : ℕ) (word : List ℕ) (reader : ModelReader) → reader.ended ≡ false → model_number word ≡ None → RefusesThings ((line, Word word) ∷ []) reader (At BadNumber line)
no_number line word reader still m before h =
    thing_refused before line (Word word) BadNumber reader (λ i. cond ((sym (h.numbers (pos 0)) ∙ still) i) (Some BadLine) (number_fault before (m i))) h

pub clashing : (line : ℕ) (word : List ℕ) (z : ℤ) (reader : ModelReader) (fault : PlacedFault ModelCause) → reader.ended ≡ false → model_number word ≡ Some z → IsClash (has_number reader (neg_ℤ z)) line fault → RefusesThings ((line, Word word) ∷ []) reader fault
clashing line word z reader OutOfMemory still m clash before h = tt
clashing line word z reader (At cause place) still m clash before h =
    subst (λ (f : ModelCause × ℕ). IsNextFault before ((line, Word word) ∷ []) f.0 f.1) (λ i. (sym clash.1 i, sym clash.2 i))
    (thing_refused before line (Word word) Clash reader (
    (λ i. cond ((sym (h.numbers (pos 0)) ∙ still) i) (Some BadLine) (number_fault before (m i)))
    ∙ ap (λ b. cond b (Some Clash) None) (sym (h.numbers (neg_ℤ z)) ∙ clash.0)) h)

-- the words of a line that are taken so far
pub record AreTaken (number : ℕ) (words rest : List ℕ) (first now : ModelReader) : Type 0 where
  pub done : List (List ℕ)
  pub parts : words_of words ≡ done ++ words_of rest
  pub taken : TakesThings (at_line number (map Word done)) first now

at_line_push : (number : ℕ) (words : List (List ℕ)) (word : List ℕ) → at_line number (map Word (words ++ word ∷ [])) ≡ at_line number (map Word words) ++ (number, Word word) ∷ []
at_line_push number words word = ap (at_line number) (map_push Word words word) ∙ map_push (λ thing. (number, thing)) (map Word words) (Word word)

pub one_more_taken : (number : ℕ) (words rest : List ℕ) (first now next : ModelReader) (word after : List ℕ) → AreTaken number words rest first now → words_of rest ≡ word ∷ words_of after →
    TakesThings ((number, Word word) ∷ []) now next → AreTaken number words after first next
one_more_taken number words rest first now next word after h cut more = record {
  done = h.done ++ word ∷ [];
  parts = h.parts ∙ ap (λ l. h.done ++ l) cut ∙ sym (append_assoc h.done (word ∷ []) (words_of after));
  taken = λ before p. subst (λ (items : List (ℕ × Said)). IsModelProgress items next)
      (append_assoc before (at_line number (map Word h.done)) ((number, Word word) ∷ []) ∙ ap (λ l. before ++ l) (sym (at_line_push number h.done word)))
      (more (before ++ at_line number (map Word h.done)) (h.taken before p));
}

pub all_taken : (number : ℕ) (words rest : List ℕ) (first now : ModelReader) → AreTaken number words rest first now → words_of rest ≡ [] →
    TakesThings (at_line number (map Word (words_of words))) first now
all_taken number words rest first now h none before p =
    subst (λ (l : List (List ℕ)). IsModelProgress (before ++ at_line number (map Word l)) now) (sym (h.parts ∙ ap (λ l. h.done ++ l) none ∙ append-nil h.done)) (h.taken before p)

pub word_refused : (number : ℕ) (words rest : List ℕ) (first now : ModelReader) (word after : List ℕ) (fault : PlacedFault ModelCause) → AreTaken number words rest first now → words_of rest ≡ word ∷ words_of after →
    RefusesThings ((number, Word word) ∷ []) now fault → RefusesThings (at_line number (map Word (words_of words))) first fault
word_refused number words rest first now word after OutOfMemory h cut refused before p = tt
word_refused number words rest first now word after (At cause line) h cut refused before p =
    let done = at_line number (map Word h.done) in
    let later = at_line number (map Word (words_of after)) in
    let r = refused (before ++ done) (h.taken before p) in
    record {
      front = done ++ r.front;
      thing = r.thing;
      back = r.back ++ later;
      parts = ap (λ l. at_line number (map Word l)) (h.parts ∙ ap (λ l. h.done ++ l) cut)
          ∙ ap (at_line number) (map-append Word h.done (word ∷ words_of after))
          ∙ map-append (λ thing. (number, thing)) (map Word h.done) (map Word (word ∷ words_of after))
          ∙ (λ i. done ++ (r.parts i ++ later))
          ∙ ap (λ l. done ++ l) (append_assoc r.front (r.thing ∷ r.back) later)
          ∙ sym (append_assoc done r.front (r.thing ∷ (r.back ++ later)));
      faulty = ap (λ l. model_fault l r.thing) (sym (append_assoc before done r.front)) ∙ r.faulty;
      first = subst (λ (items : List (ℕ × Said)). IsFaultless model_fault items) (append_assoc before done r.front) r.first;
    }

-- a line that says one thing, which is refused anywhere
pub line_refused : (line : ℕ) (things : List Said) (thing : Said) (cause : ModelCause) (reader : ModelReader) → things ≡ thing ∷ [] → ((items : List (ℕ × Said)) → said_fault items thing ≡ Some cause) →
    RefusesThings (at_line line things) reader (At cause line)
line_refused line things thing cause reader one refused before h =
    subst (λ (all : List Said). IsNextFault before (at_line line all) cause line) (sym one) (thing_refused before line thing cause reader (refused before) h)

-- what is read of the text so far
pub record IsModelSoFar (text : List ℕ) (number : ℕ) (rest : List ℕ) (reader : ModelReader) : Type 0 where
  pub before : List (ℕ × Said)
  pub parts : said_from 1 (lines_of text) ≡ before ++ said_from number (lines_of rest)
  pub progress : IsModelProgress before reader
  pub behind : number + length rest ≤ length text + 1

line_parts : (text : List ℕ) (number : ℕ) (rest : List ℕ) (reader : ModelReader) (line after : List ℕ) → (h : IsModelSoFar text number rest reader) → lines_of rest ≡ line ∷ lines_of after →
    said_from 1 (lines_of text) ≡ h.before ++ (at_line number (said (words_of line)) ++ said_from (number + 1) (lines_of after))
line_parts text number rest reader line after h cut = h.parts ∙ ap (λ l. h.before ++ said_from number l) cut

pub line_taken : (text : List ℕ) (number : ℕ) (rest : List ℕ) (reader next : ModelReader) (line after : List ℕ) → IsModelSoFar text number rest reader →
    lines_of rest ≡ line ∷ lines_of after → length after < length rest →
    TakesThings (at_line number (said (words_of line))) reader next →
    IsModelSoFar text (number + 1) after next
line_taken text number rest reader next line after h cut shorter more = record {
  before = h.before ++ at_line number (said (words_of line));
  parts = line_parts text number rest reader line after h cut ∙ sym (append_assoc h.before (at_line number (said (words_of line))) (said_from (number + 1) (lines_of after)));
  progress = more h.before h.progress;
  behind = omega (arith, h.behind, shorter);
}

pub text_refused : (text : List ℕ) (number : ℕ) (rest : List ℕ) (reader : ModelReader) (line after : List ℕ) (fault : PlacedFault ModelCause) → IsModelSoFar text number rest reader →
    lines_of rest ≡ line ∷ lines_of after →
    RefusesThings (at_line number (said (words_of line))) reader fault →
    IsRefusal (HasModelFault text) fault
text_refused text number rest reader line after OutOfMemory h cut refused = tt
text_refused text number rest reader line after (At cause place) h cut refused =
    let r = refused h.before h.progress in
    let later = said_from (number + 1) (lines_of after) in (
      length (h.before ++ r.front) + 1,
      record {
        before = h.before ++ r.front;
        item = r.thing;
        after = r.back ++ later;
        parts = line_parts text number rest reader line after h cut
            ∙ (λ i. h.before ++ (r.parts i ++ later))
            ∙ ap (λ l. h.before ++ l) (append_assoc r.front (r.thing ∷ r.back) later)
            ∙ sym (append_assoc h.before r.front (r.thing ∷ (r.back ++ later)));
        counted = refl;
        faulty = r.faulty;
        first = r.first;
      },
    )

-- all lines are read
lines_read : (text : List ℕ) (number : ℕ) (rest : List ℕ) (reader : ModelReader) → (h : IsModelSoFar text number rest reader) → lines_of rest ≡ [] → said_from 1 (lines_of text) ≡ h.before ++ (number, End) ∷ []
lines_read text number rest reader h none = h.parts ∙ ap (λ l. h.before ++ said_from number l) none

-- what is reported of the end of the text
end_fault : (number : ℕ) (before : List (ℕ × Said)) (reader : ModelReader) → IsModelProgress before reader → model_fault before (number, End) ≡ option_map (λ cause. (cause, number)) (cond reader.ended None (Some Unended))
end_fault number before reader h = ap (λ b. option_map (λ cause. (cause, number)) (cond b None (Some Unended))) (sym (h.numbers (pos 0)))

-- the text ends without a zero
pub unended : (text : List ℕ) (number : ℕ) (rest : List ℕ) (reader : ModelReader) → IsModelSoFar text number rest reader → lines_of rest ≡ [] → reader.ended ≡ false → IsRefusal (HasModelFault text) (At Unended number)
unended text number rest reader h none still = (
  length h.before + 1,
  record {
    before = h.before;
    item = (number, End);
    after = [];
    parts = lines_read text number rest reader h none;
    counted = refl;
    faulty = end_fault number h.before reader h.progress ∙ ap (λ b. option_map (λ cause. (cause, number)) (cond b None (Some Unended))) still;
    first = h.progress.clear;
  },
)

or_end : (b : Bool) → b ≡ (b || false)
or_end true = refl
or_end false = refl

-- the text ends after the zero
pub ended : (text : List ℕ) (number : ℕ) (rest : List ℕ) (reader : ModelReader) → IsModelSoFar text number rest reader → lines_of rest ≡ [] → reader.ended ≡ true → SpellsModel text reader.positive.items
ended text number rest reader h none closed =
    let all = lines_read text number rest reader h none in
    spelled_by_model text reader.positive.items
    (subst (λ (items : List (ℕ × Said)). IsFaultless model_fault items) (sym all) (faultless_push model_fault h.before (number, End) h.progress.clear
    (end_fault number h.before reader h.progress ∙ ap (λ b. option_map (λ cause. (cause, number)) (cond b None (Some Unended))) closed)))
    (λ k. h.progress.numbers (pos (suc k)) ∙ or_end (list_any (writes (pos (suc k))) h.before)
    ∙ sym (list_any-append (writes (pos (suc k))) h.before ((number, End) ∷ [])) ∙ ap (list_any (writes (pos (suc k)))) (sym all))
