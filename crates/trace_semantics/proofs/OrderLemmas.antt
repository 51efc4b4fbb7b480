-- Which name stands before which, and what a list of locations and values gives a location.
use Rattle.std.proofs.Common.{◌≡◌, ℕ, List, ◌∷◌, ◌++◌, true, refl, ap, sym, ◌∙◌, append_assoc}
use Rattle.std.specs.Prelude.{Option, Some, None}
use Rattle.std.specs.List.{Contains, find}
use Rattle.std.specs.Option.{option_map}
use Rattle.std.specs.Str.{bytes_eq}
use Rattle.trace_semantics.specs.declared.operation.OpName.{OpName}
use Rattle.trace_semantics.specs.Interleaving.{StandsBefore}
use Rattle.trace_semantics.specs.Trace.{IsOneEach, value_of}
use Rattle.trace_semantics.proofs.ElementLemmas.{placed, in_middle, found, finds, same_from_key}
use Rattle.trace_semantics.proofs.NameLemmas.{same_bytes, bytes_same}

pub stands_behind : (names before : List OpName) (n : OpName) (after : List OpName) (m : OpName) → names ≡ before ++ n ∷ after → Contains before m → StandsBefore names m n
stands_behind names before n after m e c =
    let at = placed before m c in
    (at.front, at.back, after, e ∙ ap (λ l. l ++ n ∷ after) at.parts ∙ append_assoc at.front (m ∷ at.back) (n ∷ after))

pub stands_ahead : (names before : List OpName) (n : OpName) (after : List OpName) (m : OpName) → names ≡ before ++ n ∷ after → Contains after m → StandsBefore names n m
stands_ahead names before n after m e c =
    let at = placed after m c in
    (before, at.front, at.back, e ∙ ap (λ l. before ++ n ∷ l) at.parts)

-- the second of two names, with the first among the names before it
pub record Follows (names : List OpName) (m n : OpName) : Type 0 where
  pub before : List OpName
  pub after : List OpName
  pub parts : names ≡ before ++ n ∷ after
  pub come : Contains before m

pub follows : (names : List OpName) (m n : OpName) → StandsBefore names m n → Follows names m n
follows names m n (front, middle, back, e) = record {
  before = front ++ m ∷ middle;
  after = back;
  parts = e ∙ sym (append_assoc front (m ∷ middle) (n ∷ back));
  come = in_middle front m middle;
}

-- an entry of this location and this value
pub record Entry (values : List (List ℕ × ℕ)) (location : List ℕ) (d : ℕ) : Type 0 where
  pub entry : List ℕ × ℕ
  pub listed : Contains values entry
  pub location_is : entry.0 ≡ location
  pub value_is : entry.1 ≡ d

entry_of : (values : List (List ℕ × ℕ)) (location : List ℕ) (d : ℕ) (o : Option (List ℕ × ℕ)) → find (λ (entry : List ℕ × ℕ). bytes_eq entry.0 location) values ≡ o →
    option_map (λ (entry : List ℕ × ℕ). entry.1) o ≡ Some d → Entry values location d
entry_of values location d None h e = absurd (cc)
entry_of values location d (Some entry) h e =
    let at = found (λ (x : List ℕ × ℕ). bytes_eq x.0 location) values entry h in
    record { entry = entry; listed = at.0; location_is = same_bytes entry.0 location at.1; value_is = cc }

pub given_entry : (values : List (List ℕ × ℕ)) (location : List ℕ) (d : ℕ) → value_of values location ≡ Some d → Entry values location d
given_entry values location d e = entry_of values location d (find (λ (entry : List ℕ × ℕ). bytes_eq entry.0 location) values) refl e

pub entry_given : (values : List (List ℕ × ℕ)) (entry : List ℕ × ℕ) → IsOneEach values → Contains values entry → value_of values entry.0 ≡ Some entry.1
entry_given values entry one c =
    let only : (x : List ℕ × ℕ) → Contains values x → bytes_eq x.0 entry.0 ≡ true → x ≡ entry = λ x d same.
    same_from_key (λ (y : List ℕ × ℕ). y.0) values one x entry d c (same_bytes x.0 entry.0 same) in
    ap (option_map (λ (x : List ℕ × ℕ). x.1)) (finds (λ (x : List ℕ × ℕ). bytes_eq x.0 entry.0) values entry (bytes_same entry.0 entry.0 refl) only c)
