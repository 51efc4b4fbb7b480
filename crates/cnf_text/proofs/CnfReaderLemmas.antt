-- The clauses of a formula's text, line by line.
use Rattle.std.proofs.Common.{◌≡◌, ℕ, ◌+◌, ◌≤◌, List, [], ◌∷◌, ◌++◌, length, map, Bool, true, false, not, cond, refl, ap, sym, ◌∙◌, arith, append_assoc, append-nil}
use Rattle.std.specs.Prelude.{Option, Some, None, ℤ, nat_lt, if◌then◌else◌}
use Rattle.std.specs.List.{flat_map}
use Rattle.std.proofs.lemmas.Bool.Decides.{nat_tests}
use Rattle.std.proofs.lemmas.Option.{none-some}
use Rattle.std.proofs.lemmas.List.Concat.{flat_map-cons}
use Rattle.text_lines.specs.Words.{words_of, is_empty}
use Rattle.cnf_text.specs.CnfLines.{words_of_line, placed_words, said_from, end_from}
use Rattle.cnf_text.specs.CnfProgress.{AreClauses, TakesLine, fault_at_end, AreBody}
use Rattle.cnf_text.specs.CnfReading.{Header, ended, whole_fault}
use Rattle.cnf_text.specs.declared.cnf_fault.CnfCause.{CnfCause}
use Rattle.cnf_text.specs.declared.cnf_fault.CnfCause.TheVariants.{Unended, CountMismatch}
use Rattle.cnf_text.proofs.CnfBodyLemmas.{Words, no_clauses}

-- what has been read, where `all` are the lines from `first` on and `lines` those from `number` on
pub record IsReadSoFar (h : Header) (first : ℕ) (all : List (List ℕ)) (number : ℕ) (lines : List (List ℕ)) (clauses : List (List ℤ)) (begun : List ℤ) : Type 0 where
  pub words : Words
  pub parts : placed_words (said_from first all) ≡ words ++ placed_words (said_from number lines)
  pub ends : end_from first all ≡ end_from number lines
  pub so_far : AreClauses h words clauses begun

pub at_start : (h : Header) (first : ℕ) (all : List (List ℕ)) → IsReadSoFar h first all first all [] []
at_start h first all = record { words = []; parts = refl; ends = refl; so_far = no_clauses h }

module _ (h : Header) (first : ℕ) (all : List (List ℕ)) (number : ℕ) (lines : List (List ℕ)) (clauses : List (List ℤ)) (begun : List ℤ) (read : IsReadSoFar h first all number lines clauses begun) where
  -- at the next line that says something
  module _ (at : ℕ) (line : List ℕ) (rest : List (List ℕ)) (next : said_from number lines ≡ (at, words_of line) ∷ said_from (at + 1) rest) where
    here : placed_words (said_from first all) ≡ read.words ++ (words_of_line (at, words_of line) ++ placed_words (said_from (at + 1) rest))
    here = read.parts ∙ ap (λ l. read.words ++ placed_words l) next ∙ ap (λ l. read.words ++ l) (flat_map-cons words_of_line (at, words_of line) (said_from (at + 1) rest))

    pub read_on : (new_clauses : List (List ℤ)) (new_begun : List ℤ) → end_from number lines ≡ end_from (at + 1) rest → TakesLine h at line clauses begun new_clauses new_begun → IsReadSoFar h first all (at + 1) rest new_clauses new_begun
    read_on new_clauses new_begun later takes = record {
      words = read.words ++ words_of_line (at, words_of line);
      parts = here ∙ sym (append_assoc read.words (words_of_line (at, words_of line)) (placed_words (said_from (at + 1) rest)));
      ends = read.ends ∙ later;
      so_far = takes read.words read.so_far;
    }

-- what is wrong with the whole
pub whole_here : (h : Header) (words : Words) (clauses : List (List ℤ)) (begun : List ℤ) → AreClauses h words clauses begun → whole_fault h words ≡ fault_at_end h clauses begun
whole_here h words clauses begun so_far = λ i. if not (so_far.last i) then Some Unended else if nat_lt (so_far.counted i) h.clauses then Some CountMismatch else None

nothing_begun : (begun : List ℤ) → is_empty begun ≡ true → begun ≡ []
nothing_begun [] e = refl
nothing_begun (x ∷ begun) e = absurd (grind (arith, nat_tests))

not_unended : (b : Bool) (o : Option CnfCause) → cond (not b) (Some Unended) o ≡ None → (b ≡ true) × (o ≡ None)
not_unended true o e = (refl, e)
not_unended false o e = absurd (none-some Unended (sym e))

not_too_few : (b : Bool) → cond b (Some CountMismatch) None ≡ None → b ≡ false
not_too_few true e = absurd (none-some CountMismatch (sym e))
not_too_few false e = refl

enough : (n m : ℕ) → n ≤ m → nat_lt n m ≡ false → n ≡ m
enough n m few e = grind (arith, nat_tests)

pub whole_read : (h : Header) (words : Words) (clauses : List (List ℤ)) (begun : List ℤ) → AreClauses h words clauses begun → None ≡ fault_at_end h clauses begun → AreBody h words clauses
whole_read h words clauses begun so_far e =
    let first = not_unended (is_empty begun) (cond (nat_lt (length clauses) h.clauses) (Some CountMismatch) None) (sym e) in
    record {
      numbers = so_far.numbers ∙ ap (λ l. map Some (flat_map ended clauses ++ l)) (nothing_begun begun first.0) ∙ ap (map Some) (append-nil (flat_map ended clauses));
      within = so_far.within;
      count = enough (length clauses) h.clauses so_far.few (not_too_few (nat_lt (length clauses) h.clauses) first.1);
    }
