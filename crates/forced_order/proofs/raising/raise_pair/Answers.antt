use Rattle.std.proofs.Common.{◌≡◌, arith}
use Rattle.std.specs.Prelude.{Some}
use Rattle.std.specs.List.{slice_get}
use Rattle.std.proofs.lemmas.Option.{slice_get_within}
use Rattle.trace_semantics.specs.Trace.{TraceValue}
use Rattle.forced_order.specs.declared.numbered.OperationNumber.{OperationNumber}
use Rattle.forced_order.specs.Closed.{IsClosedStep}
use Rattle.forced_order.proofs.RiseLemmas.{no_pass}
use Rattle.forced_order.proofs.RowLemmas.{pair_forced_at, pair_closed}
use Rattle.forced_order.proofs.raising.raise_pair.Goals as goal

pub returns-then-k-pairs : goal.returns-then-k-pairs
returns-then-k-pairs c =
    let t : TraceValue = c.args.trace.now in
    record {
      forced = λ given. c.raise_from.ensures.forced t (pair_forced_at t c.requires.trace c.args.pairs.now c.args.k _ c.requires.pairs c.if-k-pairs.true) given;
      rise = c.raise_from.ensures.rise;
      closed = λ e rows. pair_closed t c.requires.trace c.args.pairs.now c.args.k _ c.args.rows.now c.raise_from.new.self c.requires.pairs rows (c.raise_from.ensures.closed e);
    }

pub returns-else-k-pairs : goal.returns-else-k-pairs
returns-else-k-pairs c =
    no_pass c.args.trace.now c.args.rows.now (λ order. (pair : OperationNumber × OperationNumber) → slice_get c.args.pairs.now c.args.k ≡ Some pair → IsClosedStep order pair.0 pair.1)
    (λ pair at. let within = slice_get_within c.args.pairs.now c.args.k pair at in absurd (omega (arith, within)))
