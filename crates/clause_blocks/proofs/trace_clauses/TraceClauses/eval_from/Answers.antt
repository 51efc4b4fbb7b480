use Rattle.std.proofs.Common.{rules, ◌≡◌, ◌<◌, ◌∙◌, sym, ap, length, slice_index_or, [], false}
use Rattle.dimacs.specs.Assignment.{value_of, makes_some}
use Rattle.dimacs.proofs.ModelLemmas.{first_here}
use Rattle.trace_semantics.specs.Trace.{operation_count}
use Rattle.clause_blocks.specs.Blocks.{transitivity_from}
use Rattle.clause_blocks.proofs.trace_clauses.TraceClauses.eval_from.Goals as goal

pub returns-then-not-satisfies-clause-first : goal.returns-then-not-satisfies-clause-first
returns-then-not-satisfies-clause-first c =
    let clauses = transitivity_from (operation_count c.args.self.now) c.args.i in
    let value = value_of c.args.assignment.now in
    let within : c.loop-place.place < length clauses = search rules in
    let untrue : makes_some value (slice_index_or clauses c.loop-place.place []) ≡ false =
    ap (makes_some value) (sym (c.as_slice.ensures.literals ∙ c.clause_from.ensures)) ∙ sym c.satisfies.ensures ∙ c.if-not-satisfies.true in
    first_here value clauses c.loop-place.place within c.loop-place.invariant untrue
