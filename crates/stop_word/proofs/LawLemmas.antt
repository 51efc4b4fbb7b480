-- What the word rule says of the word.
use Rattle.std.proofs.Common.{◌≡◌, ◌≢◌, ◌⊎◌, ℕ, ◌<◌, ◌≤◌, List, [], ◌∷◌, Option, Some, None, IfSome, IfNone, sym, ◌∙◌, ap, subst, inl, inr, ⊎_elim, arith}
use Rattle.std.specs.List.{All, Contains}
use Rattle.std.proofs.lemmas.Bool.{cases_eq}
use Rattle.std.proofs.lemmas.List.Elements.{All-nil, All-append, All-weaker, All-contains}
use Rattle.stop_word.specs.declared.views.View.{View}
use Rattle.stop_word.specs.WordRule.{nothing, least_of, marks_in, Fits, MeetsRule, IsStopWord, or_nothing}
use Rattle.stop_word.specs.Seats.{KnowsNothing}
use Rattle.stop_word.proofs.LeastLemmas.{least_small, least_below, least_among, none_in}
use Rattle.stop_word.proofs.ViewLemmas.{Each, each_head, each_tail}

small_marks : (word : ℕ) (views : List View) → Each (Fits word) views → All (λ k. k < 4294967296) (marks_in views)
small_marks word [] each = All-nil _
small_marks word (v ∷ views) each =
    All-append (λ k. k < 4294967296) v.marks (marks_in views) (each_head (Fits word) v views each).small (small_marks word views (each_tail (Fits word) v views each))

pub word_is_a_mark : (word : ℕ) (views : List View) → MeetsRule word views → IsStopWord word views
word_is_a_mark word views meets =
    record {
      none = (
        λ (e : word ≡ nothing). none_in (marks_in views) (small_marks word views meets.each) (sym meets.word_is ∙ e),
        λ (e : marks_in views ≡ []). meets.word_is ∙ ap least_of e,
      );
      some_mark = λ some. subst (λ n. Contains (marks_in views) n) (sym meets.word_is) (least_among (marks_in views) (λ none. some (meets.word_is ∙ none)));
      at_most = λ id v at.
          let f = meets.each id v at in
          (f.at_most, All-weaker (λ k. least_of v.marks ≤ k) (λ k. word ≤ k) (λ k h. omega (arith, f.at_most, f.marked, h)) v.marks (least_below v.marks));
    }

-- a word that is not nothing is a number of 32 bits
pub word_small : (word : ℕ) (views : List View) → MeetsRule word views → (word ≡ nothing) ⊎ (word < 4294967296)
word_small word views meets =
    ⊎_elim
    (λ (none : word ≡ nothing). inl none)
    (λ (some : word ≢ nothing). inr (All-contains (λ k. k < 4294967296) (marks_in views) word (small_marks word views meets.each) ((word_is_a_mark word views meets).some_mark some)))
    (cases_eq word nothing)

pub shown_below : (r : Option ℕ) (n : ℕ) → or_nothing r ≤ n → IfSome r (λ k. k ≤ n)
shown_below None n below = tt
shown_below (Some k) n below = below

pub shown_none : (r : Option ℕ) (v : View) → Fits (or_nothing r) v → IfNone r (KnowsNothing v)
shown_none None v f = let small = least_small v.marks in (none_in v.marks f.small (omega (arith, f.at_most, f.marked, small)), omega (arith, f.at_most, f.marked, small))
shown_none (Some k) v f = tt
