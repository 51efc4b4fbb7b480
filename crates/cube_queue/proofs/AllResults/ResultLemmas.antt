-- The results of leaves that are settled one after the other.
use Rattle.std.proofs.Common.{◌≡◌, ◌≢◌, ◌⊎◌, ℕ, zero, suc, ◌+◌, ◌<◌, ◌≤◌, ℤ, List, [], ◌∷◌, ◌++◌, Some, Bool, true, map, length, take, get_or, sym, ◌∙◌, ap, subst, inl, inr, arith}
use Rattle.std.specs.Prelude.{IsTrue}
use Rattle.std.specs.List.{AllPairs, Contains, slice_get}
use Rattle.std.proofs.Math.Seq.{take-suc}
use Rattle.std.proofs.lemmas.List.{map-append, take_all}
use Rattle.std.proofs.lemmas.List.Elements.{Contains-append_cases, Contains-append_left}
use Rattle.trace_semantics.proofs.ElementLemmas.{cases_in, none_in, to_map}
use Rattle.cube_jobs.specs.declared.job.Settled.{Settled}
use Rattle.cube_jobs.specs.declared.outcome.Outcome.TheVariants.{Skipped}
use Rattle.cube_jobs.specs.Results.{AreLeaves, AreResultsOf, HasModel, HasModelBelow}

-- The results have these tickets in this order, and their leaves' cubes. A leaf is skipped only where a lower one has a model,
-- and where it is said that there is a model, there is one.
pub record AreUpTo (clauses cubes : List (List ℤ)) (tickets : List ℕ) (results : List Settled) (has_model : Bool) : Type 0 where
  pub tickets_are : map (λ (settled : Settled). settled.ticket) results ≡ tickets
  pub cubes_are : (settled : Settled) → Contains results settled → slice_get cubes settled.ticket ≡ Some settled.cube
  pub skipped : (settled : Settled) → Contains results settled → settled.outcome ≡ Skipped → HasModelBelow clauses results settled.ticket
  pub known : has_model ≡ true → HasModel clauses results

-- more is known of the same results
known_on : (clauses : List (List ℤ)) (results : List Settled) (has_model now : Bool) → (has_model ≡ true → HasModel clauses results) →
    (IsTrue now → IsTrue has_model ⊎ HasModel clauses results) → now ≡ true → HasModel clauses results
known_on clauses results has_model now known right e = elim (right e) [
  | inl before ↦ known before
  | inr seen ↦ seen
]

pub looked_at : (clauses cubes : List (List ℤ)) (tickets : List ℕ) (results : List Settled) (has_model now : Bool) →
    AreUpTo clauses cubes tickets results has_model → (IsTrue now → IsTrue has_model ⊎ HasModel clauses results) → AreUpTo clauses cubes tickets results now
looked_at clauses cubes tickets results has_model now so right = record {
  tickets_are = so.tickets_are;
  cubes_are = so.cubes_are;
  skipped = so.skipped;
  known = known_on clauses results has_model now so.known right;
}

-- elements of a prefix of a rising list are below the next one
in_front : (xs : List ℕ) (k : ℕ) (x : ℕ) → Contains (take k xs) x → (i : ℕ) × (i < k) × (i < length xs) × (get_or xs i 0 ≡ x)
in_front xs zero x c = absurd (none_in x c)
in_front [] (suc k) x c = absurd (none_in x c)
in_front (y ∷ xs) (suc k) x c = elim (cases_in y (take k xs) x c) [
  | inl same ↦ (zero, omega arith, omega arith, same)
  | inr rest ↦ let (i, below, within, is) = in_front xs k x rest in (suc i, omega (arith, below), omega (arith, within), is)
]

below_next : (xs : List ℕ) (k x : ℕ) → AllPairs (λ x y. x < y) xs → k < length xs → Contains (take k xs) x → x < get_or xs k 0
below_next xs k x rising within c =
    let (i, below, inside, is) = in_front xs k x c in
    let less = rising i k 0 below within in
    omega (arith, less, is)

-- a lower leaf's model is there among more results
still_below : (clauses : List (List ℤ)) (results more : List Settled) (leaf : ℕ) → HasModelBelow clauses results leaf → HasModelBelow clauses (results ++ more) leaf
still_below clauses results more leaf h = record { lower = h.lower; among = Contains-append_left results more h.lower h.among; below = h.below; model = h.model }

-- one more
module _
    (clauses cubes : List (List ℤ)) (which : List ℕ) (k : ℕ) (results : List Settled) (has_model : Bool)
    (asked : AreLeaves cubes which) (so : AreUpTo clauses cubes (take k which) results has_model) (below : k < length which)
    (new : Settled) (cube : List ℤ) (ticket : new.ticket ≡ get_or which k 0) (there : slice_get cubes (get_or which k 0) ≡ Some cube)
    (cube_is : new.cube ≡ cube) (skips : new.outcome ≡ Skipped → IsTrue has_model)
  where
    found_below : IsTrue has_model → HasModelBelow clauses (results ++ new ∷ []) new.ticket
    found_below e =
        let h = so.known e in
        let before : Contains (take k which) h.found.ticket = subst (λ (ts : List ℕ). Contains ts h.found.ticket) so.tickets_are (to_map (λ (x : Settled). x.ticket) results h.found h.among) in
        let less : h.found.ticket < get_or which k 0 = below_next which k h.found.ticket asked.rising below before in
        record { lower = h.found; among = Contains-append_left results (new ∷ []) h.found h.among; below = omega (arith, less, ticket); model = h.model }

    its_cube : slice_get cubes new.ticket ≡ Some new.cube
    its_cube = ap (slice_get cubes) ticket ∙ there ∙ ap Some (sym cube_is)

    still_known : has_model ≡ true → HasModel clauses (results ++ new ∷ [])
    still_known e = let before = so.known e in record { found = before.found; among = Contains-append_left results (new ∷ []) before.found before.among; model = before.model }

    pub one_more : AreUpTo clauses cubes (take (k + 1) which) (results ++ new ∷ []) has_model
    one_more =
        let one : k + 1 ≡ suc k = omega arith in
        record {
          tickets_are =
              map-append (λ (settled : Settled). settled.ticket) results (new ∷ [])
              ∙ ap (λ (ts : List ℕ). ts ++ new.ticket ∷ []) so.tickets_are
              ∙ ap (λ (t : ℕ). take k which ++ t ∷ []) ticket
              ∙ sym (take-suc which k 0 below)
              ∙ ap (λ (n : ℕ). take n which) (sym one);
          cubes_are = λ settled c. elim (Contains-append_cases results (new ∷ []) settled c) [
            | inl before ↦ so.cubes_are settled before
            | inr last ↦ elim (cases_in new [] settled last) [
              | inl same ↦ subst (λ (x : Settled). slice_get cubes x.ticket ≡ Some x.cube) same its_cube
              | inr none ↦ absurd (none_in settled none)
            ]
          ];
          skipped = λ settled c s. elim (Contains-append_cases results (new ∷ []) settled c) [
            | inl before ↦ still_below clauses results (new ∷ []) settled.ticket (so.skipped settled before s)
            | inr last ↦ elim (cases_in new [] settled last) [
              | inl same ↦ subst (λ (x : Settled). HasModelBelow clauses (results ++ new ∷ []) x.ticket) same (found_below (skips (ap (λ (x : Settled). x.outcome) same ∙ s)))
              | inr none ↦ absurd (none_in settled none)
            ]
          ];
          known = still_known;
        }

-- all are settled
pub all_settled : (clauses cubes : List (List ℤ)) (which : List ℕ) (k : ℕ) (results : List Settled) (has_model : Bool) →
    AreLeaves cubes which → length which ≤ k → AreUpTo clauses cubes (take k which) results has_model → AreResultsOf clauses cubes which results
all_settled clauses cubes which k results has_model asked whole so =
    let tickets : map (λ (settled : Settled). settled.ticket) results ≡ which = so.tickets_are ∙ take_all k which whole in
    record {
      each = λ settled c. (subst (λ (ts : List ℕ). Contains ts settled.ticket) tickets (to_map (λ (x : Settled). x.ticket) results settled c), so.cubes_are settled c);
      every = λ leaf c. subst (λ (ts : List ℕ). Contains ts leaf) (sym tickets) c;
      once = subst (λ (ts : List ℕ). AllPairs (λ x y. x ≢ y) ts) (sym tickets) (λ i j d below within same. absurd (let less = asked.rising i j d below within in omega (arith, same, less)));
      skipped = so.skipped;
    }
