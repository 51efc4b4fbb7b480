-- The stop word: the least of all marks. What each seat knows of it, and what a step on it says.
use Rattle.std.specs.Prelude.{◌≡◌, ◌≢◌, ℕ, ◌+◌, ◌<◌, ◌≤◌, ◌↔◌, List, [], ◌∷◌, ◌++◌, min, Option, Some, None}
use Rattle.std.specs.List.{All, Contains, flat_map}
use mathlib.Core.Option.{some}
use lib.ListN.{get_elem?}
use Rattle.stop_word.specs.declared.views.View.{View}

-- the word where there is no mark: the largest number of 64 bits, which is above every mark
abbrev pub nothing : ℕ
nothing = 18446744073709551615

-- what a seat knows: its marks, in order; the least number that it has marked or been shown; its parts, of eight for all seats
abbrev pub view_of : List ℕ → ℕ → ℕ → View
view_of marks least parts = record { marks = marks; least = least; parts = parts }

-- the least of these numbers, or nothing
abbrev pub least_of : List ℕ → ℕ
least_of [] = nothing
least_of (k ∷ ks) = min k (least_of ks)

-- the marks of all these seats
abbrev pub marks_in : List View → List ℕ
marks_in views = flat_map (λ (v : View). v.marks) views

-- the parts of all these seats
abbrev pub parts_in : List View → ℕ
parts_in [] = 0
parts_in (v ∷ views) = v.parts + parts_in views

-- A seat's least number is the word or above it, and none of its marks is below its least number. Marks are numbers of 32 bits. A seat
-- with no part has marked nothing.
pub record Fits (word : ℕ) (v : View) : Type 0 where
  pub at_most : word ≤ v.least
  pub marked : v.least ≤ least_of v.marks
  pub small : All (λ k. k < 4294967296) v.marks
  pub idle : v.parts ≡ 0 → v.marks ≡ []

-- The word rule, where these are the views of all seats: the word is the least of all marks, or nothing. The parts of all seats are eight,
-- so that all of them together are all seats that have marked.
pub record MeetsRule (word : ℕ) (views : List View) : Type 0 where
  pub word_is : word ≡ least_of (marks_in views)
  pub each : (id : ℕ) (v : View) → get_elem? views id ≡ some v → Fits word v
  pub parts : parts_in views ≡ 8

-- What the rule says of the word: it is nothing if and only if no seat has marked; else it is the mark of some seat; and no seat has
-- marked or been shown a lower number.
pub record IsStopWord (word : ℕ) (views : List View) : Type 0 where
  pub none : word ≡ nothing ↔ marks_in views ≡ []
  pub some_mark : word ≢ nothing → Contains (marks_in views) word
  pub at_most : (id : ℕ) (v : View) → get_elem? views id ≡ some v → (word ≤ v.least) × All (λ k. word ≤ k) v.marks

-- the one word of the table meets the rule
abbrev pub Keeps : List ℕ → List View → Type 0
Keeps words views = (word : ℕ) × (words ≡ word ∷ []) × MeetsRule word views

-- a look shows the word of a state that meets the rule and in which the seat is as it was; after it, the number shown is the seat's
-- least
abbrev pub Looks : View → ℕ → View → Type 0
Looks v shown w = (views : List View) × (id : ℕ) × MeetsRule shown views × (get_elem? views id ≡ some v) × (w ≡ view_of v.marks shown v.parts)

-- a mark joins the seat's marks
abbrev pub Marks : View → ℕ → View → Type 0
Marks v k w = w ≡ view_of (v.marks ++ k ∷ []) (min v.least k) v.parts

-- a number that was shown, or nothing
abbrev pub or_nothing : Option ℕ → ℕ
or_nothing None = nothing
or_nothing (Some k) = k
