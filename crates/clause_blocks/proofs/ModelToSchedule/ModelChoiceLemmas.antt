-- What a model of the clause list says of what is read, and of final values.
use Rattle.std.proofs.Common.{◌≡◌, ◌⊎◌, ℕ, ◌+◌, ◌<◌, pos, neg_ℤ, List, [], ◌∷◌, length, map, Bool, true, false, cond, not, refl, ap, sym, ◌∙◌, arith, inl, inr, Some}
use Rattle.std.specs.Prelude.{◌==◌}
use Rattle.std.specs.List.{Contains, enumerate_from, flat_map, slice_get}
use Rattle.dimacs.specs.Assignment.{makes_true, makes_some}
use Rattle.dimacs.specs.Models.{IsModel}
use Rattle.trace_semantics.specs.Trace.{TraceValue}
use Rattle.trace_semantics.proofs.ElementLemmas.{some_passes, from_map, to_map, to_flat_map}
use Rattle.var_layout.specs.declared.candidate.Candidate.{Candidate}
use Rattle.var_layout.specs.declared.candidate.Candidate.TheVariants.{InitialValue, Writer}
use Rattle.var_layout.specs.declared.candidate.ReadsFromChoice.{ReadsFromChoice}
use Rattle.var_layout.specs.declared.candidate.FinalChoice.{FinalChoice}
use Rattle.var_layout.specs.Candidates.{candidates}
use Rattle.var_layout.specs.ChoiceVariables.{choices, first_choice}
use Rattle.var_layout.specs.FinalVariables.{final_candidates, is_untouched, first_final, final_choices}
use Rattle.var_layout.specs.Numbers.{readers, writers, others, other_writers}
use Rattle.var_layout.proofs.NumberingLemmas.{at_enumerated}
use Rattle.clause_blocks.specs.Blocks.{stands_before, implies, void_clauses, reads_from, clauses_of_read, writes_last, clauses_of_final}
use Rattle.clause_blocks.specs.Clauses.{clauses_of}
use Rattle.clause_blocks.proofs.NumbersOfNames.OperationNumberLemmas.{get_listed, listed_get}
use Rattle.clause_blocks.proofs.NumbersOfNames.OrderLiteralLemmas.{negation}
use Rattle.clause_blocks.proofs.ModelToSchedule.ModelClauseLemmas.{one_true, two_true, implied, AreTrue, first_true, rest_true, to_enumerate, Meets, order_by, in_reads, in_finals}

-- a void variable is true and false
void_false : (value : ℕ → Bool) (v : ℕ) → 0 < v → AreTrue value (void_clauses v) → ⊥
void_false value v h all =
    let up : value v ≡ true = one_true value (pos v) (first_true all) in
    let down : makes_true value (neg_ℤ (pos v)) ≡ true = one_true value (neg_ℤ (pos v)) (first_true (rest_true all)) in
    let clash : true ≡ false = sym down ∙ negation value v h ∙ ap not up in
    cc

-- one of some variables is true
pub some_variable : {A : Type 0} (value : ℕ → Bool) (variable : A → ℕ) (xs : List A) → makes_some value (map (λ x. pos (variable x)) xs) ≡ true → (x : A) × Contains xs x × (value (variable x) ≡ true)
some_variable value variable xs h =
    let found = some_passes (makes_true value) (map (λ x. pos (variable x)) xs) h in
    let at = from_map (λ x. pos (variable x)) xs found.0 found.1 in
    (at.0, at.1, ap (makes_true value) at.2 ∙ found.2)

-- the candidate that is read
pub record IsRead (ahead : ℕ → ℕ → Bool) (t : TraceValue) (r : ℕ) (c : Candidate) : Type 0 where
  pub listed : Contains (candidates t r) c
  pub meets : Meets ahead t r c

meets_from : (value : ℕ → Bool) (t : TraceValue) (r v : ℕ) (c : Candidate) → 0 < v → value v ≡ true → AreTrue value (reads_from t r v c) → Meets (order_by value t) t r c
meets_from value t r v InitialValue h e all = λ u d.
    one_true value (stands_before t r u) (implied value v (stands_before t r u ∷ []) h e (all.each _ (to_map (λ (w : ℕ). implies v (stands_before t r w ∷ [])) (other_writers t r) u d)))
meets_from value t r v (Writer w) h e all = (
  one_true value (stands_before t w r) (implied value v (stands_before t w r ∷ []) h e (first_true all)),
  (λ u d. two_true value (stands_before t u w) (stands_before t r u) (implied value v (stands_before t u w ∷ stands_before t r u ∷ []) h e
      ((rest_true all).each _ (to_map (λ (x : ℕ). implies v (stands_before t x w ∷ stands_before t r x ∷ [])) (others w (other_writers t r)) u d)))),
)

-- a choice is one of the candidates, and its variable is at its place
pub from_choices : (t : TraceValue) (r : ℕ) (c : ReadsFromChoice) → Contains (choices t r) c → (k : ℕ) × (c.variable ≡ first_choice t r + k) × (slice_get (candidates t r) k ≡ Some c.candidate)
from_choices t r c d =
    let at = from_map (λ (numbered : ℕ × Candidate). record { candidate = numbered.1; variable = numbered.0 }) (enumerate_from (first_choice t r) (candidates t r)) c d in
    let from = at_enumerated (first_choice t r) (candidates t r) at.0 at.1 in
    (from.0, sym (ap (λ (x : ReadsFromChoice). x.variable) at.2) ∙ from.1, from.2 ∙ ap (λ (x : ReadsFromChoice). Some x.candidate) at.2)

read_by : (value : ℕ → Bool) (t : TraceValue) (r : ℕ) (b : Bool) →
    AreTrue value (cond b (void_clauses (first_choice t r)) (map (λ (c : ReadsFromChoice). pos c.variable) (choices t r) ∷ flat_map (λ (c : ReadsFromChoice). reads_from t r c.variable c.candidate) (choices t r))) →
    (c : Candidate) × IsRead (order_by value t) t r c
read_by value t r true all = absurd (void_false value (first_choice t r) (omega arith) all)
read_by value t r false all =
    let chosen = some_variable value (λ (c : ReadsFromChoice). c.variable) (choices t r) (first_true all) in
    let from = from_choices t r chosen.0 chosen.1 in (
      chosen.0.candidate,
      record {
        listed = get_listed (candidates t r) from.0 chosen.0.candidate from.2;
        meets = meets_from value t r chosen.0.variable chosen.0.candidate (omega (arith, from.1)) chosen.2
            (record { each = λ k d. (rest_true all).each k (to_flat_map (λ (c : ReadsFromChoice). reads_from t r c.variable c.candidate) (choices t r) chosen.0 k chosen.1 d) });
      },
    )

pub model_read : (value : ℕ → Bool) (t : TraceValue) → IsModel value (clauses_of t) → (r : ℕ) → Contains (readers t) r → (c : Candidate) × IsRead (order_by value t) t r c
model_read value t model r d =
    read_by value t r (length (candidates t r) == 0) (record { each = λ k e. in_reads value t model k (to_flat_map (clauses_of_read t) (readers t) r k d e) })

-- the writer that is the last one
pub record IsLastWriter (ahead : ℕ → ℕ → Bool) (t : TraceValue) (entry : List ℕ × ℕ) (w : ℕ) : Type 0 where
  pub listed : Contains (final_candidates t entry) w
  pub last : (v : ℕ) → Contains (others w (writers t entry.0)) v → ahead v w ≡ true

-- it is there from the start, or some writer is the last one
abbrev pub IsFinal : (ℕ → ℕ → Bool) → TraceValue → List ℕ × ℕ → Type 0
IsFinal ahead t entry = (is_untouched t entry ≡ true) ⊎ ((w : ℕ) × IsLastWriter ahead t entry w)

pub from_final_choices : (t : TraceValue) (k : ℕ) (entry : List ℕ × ℕ) (c : FinalChoice) → Contains (final_choices t k entry) c →
    (i : ℕ) × (c.variable ≡ first_final t k + i) × (slice_get (final_candidates t entry) i ≡ Some c.writer)
from_final_choices t k entry c d =
    let at = from_map (λ (numbered : ℕ × ℕ). record { writer = numbered.1; variable = numbered.0 }) (enumerate_from (first_final t k) (final_candidates t entry)) c d in
    let from = at_enumerated (first_final t k) (final_candidates t entry) at.0 at.1 in
    (from.0, sym (ap (λ (x : FinalChoice). x.variable) at.2) ∙ from.1, from.2 ∙ ap (λ (x : FinalChoice). Some x.writer) at.2)

final_by : (value : ℕ → Bool) (t : TraceValue) (k : ℕ) (entry : List ℕ × ℕ) (b g : Bool) → is_untouched t entry ≡ b →
    AreTrue value (cond b [] (cond g (void_clauses (first_final t k)) (map (λ (c : FinalChoice). pos c.variable) (final_choices t k entry) ∷ flat_map (writes_last t entry.0) (final_choices t k entry)))) →
    IsFinal (order_by value t) t entry
final_by value t k entry true g e all = inl e
final_by value t k entry false true e all = absurd (void_false value (first_final t k) (omega arith) all)
final_by value t k entry false false e all =
    let chosen = some_variable value (λ (c : FinalChoice). c.variable) (final_choices t k entry) (first_true all) in
    let from = from_final_choices t k entry chosen.0 chosen.1 in
    inr (
      chosen.0.writer,
      record {
        listed = get_listed (final_candidates t entry) from.0 chosen.0.writer from.2;
        last = λ v d.
            let in_block = to_map (λ (u : ℕ). implies chosen.0.variable (stands_before t u chosen.0.writer ∷ [])) (others chosen.0.writer (writers t entry.0)) v d in
            one_true value (stands_before t v chosen.0.writer) (implied value chosen.0.variable (stands_before t v chosen.0.writer ∷ []) (omega (arith, from.1)) chosen.2
            ((rest_true all).each _ (to_flat_map (writes_last t entry.0) (final_choices t k entry) chosen.0 _ chosen.1 in_block)));
      },
    )

pub model_final : (value : ℕ → Bool) (t : TraceValue) → IsModel value (clauses_of t) → (entry : List ℕ × ℕ) → Contains t.final_values entry → IsFinal (order_by value t) t entry
model_final value t model entry c =
    let at = listed_get t.final_values entry c in
    final_by value t (0 + at.0) entry (is_untouched t entry) (length (final_candidates t entry) == 0) refl (record {
      each = λ k d. in_finals value t model k
          (to_flat_map (λ (numbered : ℕ × (List ℕ × ℕ)). clauses_of_final t numbered.0 numbered.1) (enumerate_from 0 t.final_values) (0 + at.0, entry) k (to_enumerate 0 t.final_values at.0 entry at.1) d);
    })
