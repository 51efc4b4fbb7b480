-- Which name stands before which in a list that is made of others.
use Rattle.std.proofs.Common.{◌≡◌, ◌⊎◌, List, [], ◌∷◌, ◌++◌, map, Bool, true, false, cond, refl, ap, sym, ◌∙◌, inl, inr, subst, append_assoc}
use Rattle.std.specs.List.{Contains, filter}
use Rattle.std.proofs.lemmas.List.Elements.{Contains-append_right, Contains-append_cases}
use Rattle.trace_semantics.specs.declared.operation.OpName.{OpName}
use Rattle.trace_semantics.specs.Interleaving.{StandsBefore}
use Rattle.trace_semantics.proofs.OrderLemmas.{stands_behind, stands_ahead}
use Rattle.trace_semantics.proofs.ElementLemmas.{placed, in_middle, none_in, cases_in, head_in, tail_in, to_map, from_map, to_filter, from_filter}

pub none_stands : (a b : OpName) → StandsBefore [] a b → ⊥
none_stands a b ([], middle, back, e) = absurd (cc)
none_stands a b (x ∷ front, middle, back, e) = absurd (cc)

pub stands_here : (a : OpName) (names : List OpName) (b : OpName) → Contains names b → StandsBefore (a ∷ names) a b
stands_here a names b c = let at = placed names b c in ([], at.front, at.back, ap (λ l. a ∷ l) at.parts)

pub stands_there : (x : OpName) (names : List OpName) (a b : OpName) → StandsBefore names a b → StandsBefore (x ∷ names) a b
stands_there x names a b (front, middle, back, e) = (x ∷ front, middle, back, ap (λ l. x ∷ l) e)

pub stands_cases : (x : OpName) (names : List OpName) (a b : OpName) → StandsBefore (x ∷ names) a b → ((x ≡ a) × Contains names b) ⊎ StandsBefore names a b
stands_cases x names a b ([], middle, back, e) =
    let first : x ≡ a = cc in
    let rest : names ≡ middle ++ b ∷ back = cc in
    inl (first, subst (λ l. Contains l b) (sym rest) (in_middle middle b back))
stands_cases x names a b (y ∷ front, middle, back, e) =
    let rest : names ≡ front ++ a ∷ (middle ++ b ∷ back) = cc in
    inr (front, middle, back, rest)

pub stands_in : (names : List OpName) (a b : OpName) → StandsBefore names a b → Contains names a × Contains names b
stands_in names a b (front, middle, back, e) = (
  subst (λ l. Contains l a) (sym e) (in_middle front a (middle ++ b ∷ back)),
  subst (λ l. Contains l b) (sym (e ∙ sym (append_assoc front (a ∷ middle) (b ∷ back)))) (in_middle (front ++ a ∷ middle) b back),
)

-- in a joined list: both in the first, both in the second, or one in each
pub stands_left : (xs ys : List OpName) (a b : OpName) → StandsBefore xs a b → StandsBefore (xs ++ ys) a b
stands_left xs ys a b (front, middle, back, e) = (
  front,
  middle,
  back ++ ys,
  ap (λ l. l ++ ys) e ∙ append_assoc front (a ∷ (middle ++ b ∷ back)) ys ∙ ap (λ l. front ++ a ∷ l) (append_assoc middle (b ∷ back) ys),
)

pub stands_right : (xs ys : List OpName) (a b : OpName) → StandsBefore ys a b → StandsBefore (xs ++ ys) a b
stands_right [] ys a b s = s
stands_right (x ∷ xs) ys a b s = stands_there x (xs ++ ys) a b (stands_right xs ys a b s)

pub stands_across : (xs ys : List OpName) (a b : OpName) → Contains xs a → Contains ys b → StandsBefore (xs ++ ys) a b
stands_across [] ys a b c d = absurd (none_in a c)
stands_across (x ∷ xs) ys a b c d =
    elim (cases_in x xs a c) [
      | inl e ↦ subst (λ w. StandsBefore (x ∷ (xs ++ ys)) w b) e (stands_here x (xs ++ ys) b (Contains-append_right xs ys b d))
      | inr rest ↦ stands_there x (xs ++ ys) a b (stands_across xs ys a b rest d)
    ]

pub data InJoined (xs ys : List OpName) (a b : OpName) : Type 0 where
  Left : StandsBefore xs a b → InJoined xs ys a b
  Right : StandsBefore ys a b → InJoined xs ys a b
  Across : Contains xs a → Contains ys b → InJoined xs ys a b

joined_more : (x : OpName) (xs ys : List OpName) (a b : OpName) → InJoined xs ys a b → InJoined (x ∷ xs) ys a b
joined_more x xs ys a b (Left s) = Left (stands_there x xs a b s)
joined_more x xs ys a b (Right s) = Right s
joined_more x xs ys a b (Across c d) = Across (tail_in x xs a c) d

pub stands_joined : (xs ys : List OpName) (a b : OpName) → StandsBefore (xs ++ ys) a b → InJoined xs ys a b
stands_joined [] ys a b s = Right s
stands_joined (x ∷ xs) ys a b s =
    elim (stands_cases x (xs ++ ys) a b s) [
      | inl here ↦ elim (Contains-append_cases xs ys b here.1) [
        | inl c ↦ Left (subst (λ w. StandsBefore (x ∷ xs) w b) here.0 (stands_here x xs b c))
        | inr c ↦ Across (subst (λ w. Contains (x ∷ xs) w) here.0 (head_in x xs)) c
      ]
      | inr there ↦ joined_more x xs ys a b (stands_joined xs ys a b there)
    ]

-- what a filter drops changes nothing
out_of_filter_at : (p : OpName → Bool) (x : OpName) (xs : List OpName) (a b : OpName) (h : Bool) → (StandsBefore (filter p xs) a b → StandsBefore xs a b) → StandsBefore (cond h (x ∷ filter p xs) (filter p xs)) a b → StandsBefore (x ∷ xs) a b
out_of_filter_at p x xs a b true more s =
    elim (stands_cases x (filter p xs) a b s) [
      | inl here ↦ subst (λ w. StandsBefore (x ∷ xs) w b) here.0 (stands_here x xs b (from_filter p xs b here.1).0)
      | inr there ↦ stands_there x xs a b (more there)
    ]
out_of_filter_at p x xs a b false more s = stands_there x xs a b (more s)

pub out_of_filter : (p : OpName → Bool) (xs : List OpName) (a b : OpName) → StandsBefore (filter p xs) a b → StandsBefore xs a b
out_of_filter p [] a b s = s
out_of_filter p (x ∷ xs) a b s = out_of_filter_at p x xs a b (p x) (out_of_filter p xs a b) s

into_filter_at : (p : OpName → Bool) (x : OpName) (xs : List OpName) (a b : OpName) (h : Bool) → p x ≡ h → p a ≡ true → p b ≡ true → (StandsBefore xs a b → StandsBefore (filter p xs) a b) → StandsBefore (x ∷ xs) a b → StandsBefore (cond h (x ∷ filter p xs) (filter p xs)) a b
into_filter_at p x xs a b true e k l more s =
    elim (stands_cases x xs a b s) [
      | inl here ↦ subst (λ w. StandsBefore (x ∷ filter p xs) w b) here.0 (stands_here x (filter p xs) b (to_filter p xs b l here.1))
      | inr there ↦ stands_there x (filter p xs) a b (more there)
    ]
into_filter_at p x xs a b false e k l more s =
    elim (stands_cases x xs a b s) [
      | inl here ↦ absurd (let clash : true ≡ false = sym k ∙ ap p (sym here.0) ∙ e in cc)
      | inr there ↦ more there
    ]

pub into_filter : (p : OpName → Bool) (xs : List OpName) (a b : OpName) → p a ≡ true → p b ≡ true → StandsBefore xs a b → StandsBefore (filter p xs) a b
into_filter p [] a b k l s = s
into_filter p (x ∷ xs) a b k l s = into_filter_at p x xs a b (p x) refl k l (into_filter p xs a b k l) s

-- names that are mapped
pub record Mapped (g : OpName → OpName) (xs : List OpName) (x y : OpName) : Type 0 where
  pub first : OpName
  pub second : OpName
  pub stand : StandsBefore xs first second
  pub first_is : g first ≡ x
  pub second_is : g second ≡ y

pub out_of_map : (g : OpName → OpName) (xs : List OpName) (x y : OpName) → StandsBefore (map g xs) x y → Mapped g xs x y
out_of_map g [] x y s = absurd (none_stands x y s)
out_of_map g (z ∷ zs) x y s =
    elim (stands_cases (g z) (map g zs) x y s) [
      | inl here ↦ (let at = from_map g zs y here.1 in record { first = z; second = at.0; stand = stands_here z zs at.0 at.1; first_is = here.0; second_is = at.2 })
      | inr there ↦ (let more = out_of_map g zs x y there in record { first = more.first; second = more.second; stand = stands_there z zs more.first more.second more.stand; first_is = more.first_is; second_is = more.second_is })
    ]

pub into_map : (g : OpName → OpName) (xs : List OpName) (a b : OpName) → StandsBefore xs a b → StandsBefore (map g xs) (g a) (g b)
into_map g [] a b s = absurd (none_stands a b s)
into_map g (z ∷ zs) a b s =
    elim (stands_cases z zs a b s) [
      | inl here ↦ subst (λ w. StandsBefore (g z ∷ map g zs) (g w) (g b)) here.0 (stands_here (g z) (map g zs) (g b) (to_map g zs b here.1))
      | inr there ↦ stands_there (g z) (map g zs) (g a) (g b) (into_map g zs a b there)
    ]

-- in a list in which each name stands once
module _ (names : List OpName) (once : (n : OpName) → StandsBefore names n n → ⊥) where
  -- what stands before a name is among the names before it, and what stands after it among those after it
  pub stands_front : (front : List OpName) (n : OpName) (back : List OpName) (x : OpName) → names ≡ front ++ n ∷ back → StandsBefore names x n → Contains front x
  stands_front front n back x e s = at (stands_joined front (n ∷ back) x n (subst (λ l. StandsBefore l x n) e s))
    where
      at : InJoined front (n ∷ back) x n → Contains front x
      at (Left both) = absurd (once n (stands_behind names front n back n e (stands_in front x n both).1))
      at (Right both) =
          elim (stands_cases n back x n both) [
            | inl here ↦ absurd (once n (stands_ahead names front n back n e here.1))
            | inr there ↦ absurd (once n (stands_ahead names front n back n e (stands_in back x n there).1))
          ]
      at (Across c d) = c

  pub stands_back : (front : List OpName) (n : OpName) (back : List OpName) (x : OpName) → names ≡ front ++ n ∷ back → StandsBefore names n x → Contains back x
  stands_back front n back x e s = at (stands_joined front (n ∷ back) n x (subst (λ l. StandsBefore l n x) e s))
    where
      at : InJoined front (n ∷ back) n x → Contains back x
      at (Left both) = absurd (once n (stands_behind names front n back n e (stands_in front n x both).0))
      at (Right both) =
          elim (stands_cases n back n x both) [
            | inl here ↦ here.1
            | inr there ↦ absurd (once n (stands_ahead names front n back n e (stands_in back n x there).0))
          ]
      at (Across c d) = absurd (once n (stands_behind names front n back n e c))

  pub stands_over : (m x n : OpName) → StandsBefore names m x → StandsBefore names x n → StandsBefore names m n
  stands_over m x n first second =
      let at = placed names x (stands_in names m x first).1 in
      let before = stands_front at.front x at.back m at.parts first in
      let behind = stands_back at.front x at.back n at.parts second in
      subst (λ l. StandsBefore l m n) (sym at.parts) (stands_across at.front (x ∷ at.back) m n before (tail_in x at.back n behind))

  pub never_both : (m n : OpName) → StandsBefore names m n → StandsBefore names n m → ⊥
  never_both m n first second = once m (stands_over m n m first second)

-- two names of a list are the same, or one stands before the other
pub stands_either : (names : List OpName) (m n : OpName) → Contains names m → Contains names n → (m ≡ n) ⊎ (StandsBefore names m n ⊎ StandsBefore names n m)
stands_either [] m n c d = absurd (none_in m c)
stands_either (x ∷ xs) m n c d =
    elim (cases_in x xs m c) [
      | inl here ↦ elim (cases_in x xs n d) [
        | inl there ↦ inl (sym here ∙ there)
        | inr behind ↦ inr (inl (subst (λ w. StandsBefore (x ∷ xs) w n) here (stands_here x xs n behind)))
      ]
      | inr later ↦ elim (cases_in x xs n d) [
        | inl there ↦ inr (inr (subst (λ w. StandsBefore (x ∷ xs) w m) there (stands_here x xs m later)))
        | inr behind ↦ elim (stands_either xs m n later behind) [
          | inl same ↦ inl same
          | inr (inl s) ↦ inr (inl (stands_there x xs m n s))
          | inr (inr s) ↦ inr (inr (stands_there x xs n m s))
        ]
      ]
    ]
