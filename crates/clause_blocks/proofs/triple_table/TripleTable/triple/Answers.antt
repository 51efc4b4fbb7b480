use Rattle.std.proofs.Common.{◌≡◌, ◌<◌, ◌+◌, ◌-◌, ◌/◌, ◌∙◌, [], length, map, get_or, sym, subst, arith}
use Rattle.std.specs.List.{range_with_len}
use Rattle.clause_blocks.specs.Blocks.{transitivity_from}
use Rattle.clause_blocks.specs.Triples.{below_middle, clause_of_triple}
use Rattle.clause_blocks.proofs.InPieces.PieceLemmas.{long}
use Rattle.clause_blocks.proofs.TransitivityClauses.TripleLemmas.{row_small, rises, row_within, highest_within, clause_is, triple_of}
use Rattle.clause_blocks.proofs.triple_table.TripleTable.triple.Goals as goal

pub overflow_cast-row : goal.overflow_cast-row
overflow_cast-row c =
    let n = c.self.inside.operations in
    let middle = c.as_slice-middle.result.now in
    let table : middle ≡ map (below_middle n) (range_with_len 0 (n + 1)) = c.as_slice-middle.ensures.value ∙ c.self.invariant.1 in
    let inside : c.args.place < length (transitivity_from n c.args.i) = subst (λ m. c.args.place < length (transitivity_from m c.args.i)) (sym c.self.view_is) c.requires in
    omega (arith, row_small n middle table c.args.i c.args.place inside c.self.invariant.0)

pub bounds-middle-i : goal.bounds-middle-i
bounds-middle-i c =
    let n = c.self.inside.operations in
    let middle = c.as_slice-middle.result.now in
    let table : middle ≡ map (below_middle n) (range_with_len 0 (n + 1)) = c.as_slice-middle.ensures.value ∙ c.self.invariant.1 in
    let inside : c.args.place < length (transitivity_from n c.args.i) = subst (λ m. c.args.place < length (transitivity_from m c.args.i)) (sym c.self.view_is) c.requires in
    omega (arith, long (below_middle n) n middle table, rises n c.args.i c.args.place inside)

pub overflow_add-row-2 : goal.overflow_add-row-2
overflow_add-row-2 c =
    let n = c.self.inside.operations in
    let middle = c.as_slice-middle.result.now in
    let table : middle ≡ map (below_middle n) (range_with_len 0 (n + 1)) = c.as_slice-middle.ensures.value ∙ c.self.invariant.1 in
    let inside : c.args.place < length (transitivity_from n c.args.i) = subst (λ m. c.args.place < length (transitivity_from m c.args.i)) (sym c.self.view_is) c.requires in
    omega (arith, row_small n middle table c.args.i c.args.place inside c.self.invariant.0)

pub reached-j-requires-clause-rising : goal.reached-j-requires-clause-rising
reached-j-requires-clause-rising c =
    let n = c.self.inside.operations in
    let middle = c.as_slice-middle.result.now in
    let table : middle ≡ map (below_middle n) (range_with_len 0 (n + 1)) = c.as_slice-middle.ensures.value ∙ c.self.invariant.1 in
    let inside : c.args.place < length (transitivity_from n c.args.i) = subst (λ m. c.args.place < length (transitivity_from m c.args.i)) (sym c.self.view_is) c.requires in
    rises n c.args.i c.args.place inside

pub reached-j-requires-clause-within : goal.reached-j-requires-clause-within
reached-j-requires-clause-within c =
    let n = c.self.inside.operations in
    let middle = c.as_slice-middle.result.now in
    let table : middle ≡ map (below_middle n) (range_with_len 0 (n + 1)) = c.as_slice-middle.ensures.value ∙ c.self.invariant.1 in
    long (below_middle n) n middle table

pub reached-j-requires-clause-below : goal.reached-j-requires-clause-below
reached-j-requires-clause-below c =
    let n = c.self.inside.operations in
    let middle = c.as_slice-middle.result.now in
    let table : middle ≡ map (below_middle n) (range_with_len 0 (n + 1)) = c.as_slice-middle.ensures.value ∙ c.self.invariant.1 in
    let inside : c.args.place < length (transitivity_from n c.args.i) = subst (λ m. c.args.place < length (transitivity_from m c.args.i)) (sym c.self.view_is) c.requires in
    row_within n middle table c.args.i c.args.place inside

pub returns-clause-within : goal.returns-clause-within
returns-clause-within c =
    let n = c.self.inside.operations in
    let middle = c.as_slice-middle.result.now in
    let table : middle ≡ map (below_middle n) (range_with_len 0 (n + 1)) = c.as_slice-middle.ensures.value ∙ c.self.invariant.1 in
    let inside : c.args.place < length (transitivity_from n c.args.i) = subst (λ m. c.args.place < length (transitivity_from m c.args.i)) (sym c.self.view_is) c.requires in
    subst (λ m. c.reached-j.result + 1 + (c.args.place + get_or middle (c.args.i + 1) 0 - get_or middle c.reached-j.result 0) / 2 < m) c.self.view_is
    (highest_within n middle table c.args.i c.args.place inside c.reached-j.result c.reached-j.ensures.first c.reached-j.ensures.last c.reached-j.ensures.above c.reached-j.ensures.below)

pub returns-clause-clause : goal.returns-clause-clause
returns-clause-clause c =
    let n = c.self.inside.operations in
    let middle = c.as_slice-middle.result.now in
    let table : middle ≡ map (below_middle n) (range_with_len 0 (n + 1)) = c.as_slice-middle.ensures.value ∙ c.self.invariant.1 in
    let inside : c.args.place < length (transitivity_from n c.args.i) = subst (λ m. c.args.place < length (transitivity_from m c.args.i)) (sym c.self.view_is) c.requires in
    subst (λ m. get_or (transitivity_from m c.args.i) c.args.place [] ≡ clause_of_triple m (triple_of c.args.i c.reached-j.result (c.args.place + get_or middle (c.args.i + 1) 0 - get_or middle c.reached-j.result 0))) c.self.view_is
    (clause_is n middle table c.args.i c.args.place inside c.reached-j.result c.reached-j.ensures.first c.reached-j.ensures.last c.reached-j.ensures.above c.reached-j.ensures.below)
