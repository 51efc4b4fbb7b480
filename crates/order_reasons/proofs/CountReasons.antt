-- Different updates have different sources, so there are no more of them than sources.
use Rattle.std.proofs.Common.{◌≡◌, ◌⊎◌, ◌≤◌, ℕ, suc, List, [], ◌∷◌, ◌++◌, length, Bool, true, false, cond, refl, ap, sym, ◌∙◌, arith, inl, inr, subst}
use Rattle.std.specs.Prelude.{◌≢◌, Option, Some, None, IsSome, is_some}
use Rattle.std.specs.List.{AllPairs, Contains}
use Rattle.std.proofs.lemmas.List.{length-append}
use Rattle.std.proofs.lemmas.List.Elements.{Contains-append_left, Contains-append_right, Contains-append_cases}
use Rattle.trace_semantics.specs.declared.operation.OpName.{OpName}
use Rattle.trace_semantics.specs.Interleaving.{StandsBefore}
use Rattle.trace_semantics.specs.declared.operation.Op.{Op}
use Rattle.trace_semantics.specs.Legal.{IsLegal}
use Rattle.trace_semantics.specs.Operation.{location_of, written_value}
use Rattle.trace_semantics.specs.Trace.{TraceValue, operation_at}
use Rattle.trace_semantics.specs.ValueAfter.{value_left_at}
use Rattle.trace_semantics.proofs.ElementLemmas.{in_middle, placed, head_in, tail_in, none_in, cases_in}
use Rattle.order_reasons.specs.Orders.{HoldsIn}
use Rattle.order_reasons.specs.Counting.{NeedsSource, Update, End, IsCountingClause}
use Rattle.order_reasons.specs.Counting.{BarsAllBut}
use Rattle.order_reasons.specs.Sources.{ValueSource, LeftBy, InitialAt}
use Rattle.order_reasons.proofs.SourceReasons.{ReadsFrom, last_before, outside, not_silent, sources_barred, last_writers_barred}
use Rattle.trace_semantics.proofs.NameLemmas.{same_bytes}
use Rattle.restriction.specs.LastWriter.{IsLast}
use Rattle.restriction.specs.Restriction.{left_by}
use Rattle.restriction.proofs.StandLemmas.{stands_front, stands_back, stands_either, never_both}
use Rattle.std.specs.Option.{option_and_then}
use Rattle.std.specs.Str.{bytes_eq}
use Rattle.restriction.proofs.OrderedPairLemmas.{above_first, behind_first}

-- where each element of a list without repetition has one of its own among others, these are not fewer
module _ {X Y : Type 0} (owns : X → Y → Type 0) (one : (x z : X) (y : Y) → owns x y → owns z y → x ≢ z → ⊥) where
  rest_length : (front : List Y) (y : Y) (back : List Y) (n : ℕ) → n ≤ length (front ++ back) → suc n ≤ length (front ++ y ∷ back)
  rest_length front y back n h = let short = length-append front back in let long = length-append front (y ∷ back) in omega (arith, h, short, long)

  pub no_fewer : (xs : List X) (ys : List Y) → AllPairs (λ (x z : X). x ≢ z) xs → ((x : X) → Contains xs x → (y : Y) × Contains ys y × owns x y) → length xs ≤ length ys
  no_fewer [] ys distinct h = omega arith
  no_fewer (x ∷ xs) ys distinct h =
      let own = h x (head_in x xs) in
      let at = placed ys own.0 own.1 in
      subst (λ l. suc (length xs) ≤ length l) (sym at.parts)
      (rest_length at.front own.0 at.back (length xs)
      (no_fewer xs (at.front ++ at.back) (behind_first (λ (u v : X). u ≢ v) x xs distinct) (λ z c. others own.0 own.2 at.front at.back z (above_first (λ (u v : X). u ≢ v) x xs distinct z c) (moved (at.front ++ own.0 ∷ at.back) at.parts z (h z (tail_in x xs z c))))))
    where
      moved : (l : List Y) → ys ≡ l → (z : X) → (y : Y) × Contains ys y × owns z y → (y : Y) × Contains l y × owns z y
      moved l e z (y, c, o) = (y, subst (λ k. Contains k y) e c, o)

      others : (y : Y) → owns x y → (front back : List Y) (z : X) → x ≢ z → (w : Y) × Contains (front ++ y ∷ back) w × owns z w → (w : Y) × Contains (front ++ back) w × owns z w
      others y mine front back z apart (w, c, its) =
          elim (Contains-append_cases front (y ∷ back) w c) [
            | inl d ↦ (w, Contains-append_left front back w d, its)
            | inr d ↦ elim (cases_in y back w d) [
              | inl e ↦ absurd (one x z y mine (subst (λ v. owns z v) (sym e) its) apart)
              | inr k ↦ (w, Contains-append_right front back w k, its)
            ]
          ]

-- an operation writes one location
written_there : (op : Op) (location : List ℕ) (b : Bool) → bytes_eq (location_of op) location ≡ b → is_some (cond b (written_value op) None) ≡ true → location_of op ≡ location
written_there op location true e h = same_bytes (location_of op) location e
written_there op location false e h = absurd (cc)

pub one_location : (t : TraceValue) (w : OpName) (a b : List ℕ) → IsSome (value_left_at t a w) → IsSome (value_left_at t b w) → a ≡ b
one_location t w a b h k = at (operation_at t w) h k
  where
    at : (o : Option Op) → is_some (option_and_then (left_by a) o) ≡ true → is_some (option_and_then (left_by b) o) ≡ true → a ≡ b
    at None h k = absurd (cc)
    at (Some op) h k = sym (written_there op a (bytes_eq (location_of op) a) refl h) ∙ written_there op b (bytes_eq (location_of op) b) refl k

pub written_location : (t : TraceValue) (w : OpName) (op : Op) (a : List ℕ) → operation_at t w ≡ Some op → IsSome (value_left_at t a w) → location_of op ≡ a
written_location t w op a e h = written_there op a (bytes_eq (location_of op) a) refl (ap (λ o. is_some (option_and_then (left_by a) o)) (sym e) ∙ h)

module _ (t : TraceValue) (names : List OpName) (legal : IsLegal t names) (clause : List (OpName × OpName)) where
  abbrev once : (n : OpName) → StandsBefore names n n → ⊥
  once = legal.interleaving.once

  -- the source of an update, or of the end of the schedule for a location
  abbrev HasSource : NeedsSource → ValueSource → Type 0
  HasSource (Update r) s = (location : List ℕ) × IsSome (value_left_at t location r) × ReadsFrom t names legal clause r location s
  HasSource (End location) (LeftBy w) = (d : ℕ) × IsLast t location names w d
  HasSource (End location) (InitialAt a) = ⊥

  -- two updates with one source
  two_updates : (r q : OpName) (a : List ℕ) (s : ValueSource) → r ≢ q → IsSome (value_left_at t a r) → IsSome (value_left_at t a q) → ReadsFrom t names legal clause r a s → ReadsFrom t names legal clause q a s → ⊥
  two_updates r q a (LeftBy w) other writes also (front, back, d, parts, last) (before, after, e, placed_at, final) =
      let first = last_before t names legal clause r front back parts a d w last in
      let second = last_before t names legal clause q before after placed_at a e w final in
      elim (outside t names legal clause q before after placed_at a e w r final (inl writes) other (λ same. once r (subst (λ y. StandsBefore names y r) (sym same) first))) [
        | inl s ↦ never_both names once r w s first
        | inr s ↦ elim (outside t names legal clause r front back parts a d w q last (inl also) (λ same. other (sym same)) (λ same. once q (subst (λ y. StandsBefore names y q) (sym same) second))) [
          | inl u ↦ never_both names once q w u second
          | inr u ↦ never_both names once r q u s
        ]
      ]
  two_updates r q a (InitialAt b) other writes also (front, back, same, parts, silent) (before, after, alike, placed_at, quiet) =
      elim (stands_either names r q (subst (λ l. Contains l r) (sym parts) (in_middle front r back)) (subst (λ l. Contains l q) (sym placed_at) (in_middle before q after))) [
        | inl e ↦ other e
        | inr (inl s) ↦ not_silent t names legal clause a r writes (quiet r (stands_front names once before q after r placed_at s))
        | inr (inr s) ↦ not_silent t names legal clause a q also (silent q (stands_front names once front r back q parts s))
      ]

  same_place : (r q : OpName) (a b : List ℕ) (s : ValueSource) → ReadsFrom t names legal clause r a s → ReadsFrom t names legal clause q b s → b ≡ a
  same_place r q a b (LeftBy w) (front, back, d, parts, last) (before, after, e, placed_at, final) = one_location t w b a (ap is_some final.leaves) (ap is_some last.leaves)
  same_place r q a b (InitialAt c) (front, back, same, parts, silent) (before, after, alike, placed_at, quiet) = sym alike ∙ same

  update_and_end : (r : OpName) (a b : List ℕ) (s : ValueSource) → IsSome (value_left_at t a r) → ReadsFrom t names legal clause r a s → HasSource (End b) s → ⊥
  update_and_end r a b (LeftBy w) writes (front, back, d, parts, last) (e, final) =
      let same : a ≡ b = one_location t w a b (ap is_some last.leaves) (ap is_some final.leaves) in
      not_silent t names legal clause b r (subst (λ l. IsSome (value_left_at t l r)) same writes) (final.silent r (stands_back names once final.front w final.back r final.parts (last_before t names legal clause r front back parts a d w last)))
  update_and_end r a b (InitialAt c) writes reads none = none

  two_ends : (a b : List ℕ) (s : ValueSource) → End a ≢ End b → HasSource (End a) s → HasSource (End b) s → ⊥
  two_ends a b (LeftBy w) other (d, last) (e, final) = other (ap End (one_location t w a b (ap is_some last.leaves) (ap is_some final.leaves)))
  two_ends a b (InitialAt c) other none more = none

  own : (x z : NeedsSource) (s : ValueSource) → HasSource x s → HasSource z s → x ≢ z → ⊥
  own (Update r) (Update q) s (a, writes, reads) (b, also, more) other =
      let same = same_place r q a b s reads more in
      two_updates r q a s (λ e. other (ap Update e)) writes (subst (λ l. IsSome (value_left_at t l q)) same also) reads (subst (λ l. ReadsFrom t names legal clause q l s) same more)
  own (Update r) (End b) s (a, writes, reads) final other = update_and_end r a b s writes reads final
  own (End b) (Update r) s final (a, writes, reads) other = update_and_end r a b s writes reads final
  own (End a) (End b) s first second other = two_ends a b s other first second

  has_source : (left : List ValueSource) (x : NeedsSource) → BarsAllBut t clause left x → HoldsIn names clause ⊎ ((s : ValueSource) × Contains left s × HasSource x s)
  has_source left (Update r) ((location, writes), bars) =
      elim (sources_barred t names legal clause r (Contains left) bars) [
        | inl holds ↦ inl holds
        | inr (s, c, reads) ↦ inr (s, c, (location, writes, subst (λ l. ReadsFrom t names legal clause r l s) (written_location t r bars.op location bars.known writes) reads))
      ]
  has_source left (End location) bars =
      elim (last_writers_barred t names legal clause location (Contains left) bars) [
        | inl holds ↦ inl holds
        | inr (w, d, c, last) ↦ inr (LeftBy w, c, (d, last))
      ]

  each_has : (left : List ValueSource) (xs : List NeedsSource) → ((x : NeedsSource) → Contains xs x → BarsAllBut t clause left x) → HoldsIn names clause ⊎ ((x : NeedsSource) → Contains xs x → (s : ValueSource) × Contains left s × HasSource x s)
  each_has left [] bars = inr (λ x c. absurd (none_in x c))
  each_has left (z ∷ zs) bars =
      elim (has_source left z (bars z (head_in z zs))) [
        | inl holds ↦ inl holds
        | inr first ↦ elim (each_has left zs (λ x c. bars x (tail_in z zs x c))) [
          | inl holds ↦ inl holds
          | inr rest ↦ inr (λ x c. elim (cases_in z zs x c) [
            | inl e ↦ subst (λ y. (s : ValueSource) × Contains left s × HasSource y s) e first
            | inr d ↦ rest x d
          ])
        ]
      ]

  pub counted : (members : List NeedsSource) (left : List ValueSource) → IsCountingClause t clause members left → HoldsIn names clause
  counted members left h =
      elim (each_has left members h.bars) [
        | inl holds ↦ holds
        | inr all ↦ absurd (let most = no_fewer HasSource own members left h.distinct all in let more = h.more in omega arith)
      ]
