use Rattle.std.proofs.Common.{◌≡◌, ℕ, ◌<◌, ◌≤◌, ℤ, List, [], ◌∷◌, length, get_or, map, take, ap, ◌∙◌, subst}
use Rattle.std.specs.List.{Contains}
use Rattle.std.proofs.lemmas.List.{take_all}
use Rattle.std.proofs.lemmas.List.Elements.{Contains-get_or}
use Rattle.trace_semantics.specs.Trace.{TraceValue, IsTrace}
use Rattle.var_layout.specs.KnownPairs.{known_pairs}
use Rattle.var_layout.proofs.KnownPairs.SaidLemmas.{pair_apart}
use Rattle.clause_blocks.specs.Blocks.{stands_before, before_clauses}
use Rattle.clause_blocks.specs.Ranges.{AreTwo}
use Rattle.clause_blocks.proofs.unit_clauses.clauses_of_before.Goals as goal

listed_apart : (t : TraceValue) → IsTrace t → (pairs : List (ℕ × ℕ)) → pairs ≡ known_pairs t → (k : ℕ) (d : ℕ × ℕ) → k < length pairs → AreTwo t (get_or pairs k d).0 (get_or pairs k d).1
listed_apart t ok pairs e k d within = pair_apart t ok (get_or pairs k d) (subst (λ (l : List (ℕ × ℕ)). Contains l (get_or pairs k d)) e (Contains-get_or pairs k d within))

abbrev clause_of : TraceValue → ℕ × ℕ → List ℤ
clause_of t pair = stands_before t pair.0 pair.1 ∷ []

all_clauses : (t : TraceValue) (pairs : List (ℕ × ℕ)) → pairs ≡ known_pairs t → (new : List (List ℤ)) (k : ℕ) →
    new ≡ map (λ (pair : ℕ × ℕ). stands_before t pair.0 pair.1 ∷ []) (take k pairs) → length pairs ≤ k → new ≡ before_clauses t
all_clauses t pairs e new k made all = made ∙ ap (map (clause_of t)) (take_all k pairs all ∙ e)

pub order_lit-requires : goal.order_lit-requires
order_lit-requires c =
    let two = listed_apart c.args.layout.now c.recall_limits.ensures.trace c.before-pair-items.result.now c.before-pair-items.ensures c.loop-pair.pair-index (0, 0) c.loop-pair-test.true in
    record { apart = two.2; first = two.0; second = two.1 }

pub returns : goal.returns
returns c = all_clauses c.args.layout.now c.before-pair-items.result.now c.before-pair-items.ensures c.loop-pair.clauses.items c.loop-pair.pair-index c.loop-pair.invariant c.loop-pair-test.false
