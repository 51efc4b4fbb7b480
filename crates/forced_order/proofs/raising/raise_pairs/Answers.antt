use Rattle.std.proofs.Common.{◌≡◌, ◌<◌, ◌+◌, ℕ, below_more, arith}
use Rattle.std.specs.Prelude.{Some}
use Rattle.std.specs.List.{slice_get}
use Rattle.std.proofs.lemmas.Option.{slice_get_within}
use Rattle.trace_semantics.specs.Trace.{TraceValue}
use Rattle.forced_order.specs.declared.numbered.OperationNumber.{OperationNumber}
use Rattle.forced_order.specs.Closed.{ArePairsClosed, IsClosedStep}
use Rattle.forced_order.proofs.RiseLemmas.{no_pass, pass_joined, pass_as}
use Rattle.forced_order.proofs.raising.raise_pairs.Goals as goal

pub loop-k-init : goal.loop-k-init
loop-k-init c = no_pass c.args.trace.now c.args.rows.now (λ order. (j : ℕ) (pair : OperationNumber × OperationNumber) → j < 0 → slice_get c.args.pairs.now j ≡ Some pair → IsClosedStep order pair.0 pair.1) (λ j pair less. absurd (omega (arith, less)))

pub loop-k-preserved : goal.loop-k-preserved
loop-k-preserved c =
    let t : TraceValue = c.args.trace.now in
    let n = c.loop-k.k in
    pass_joined t c.either-rose.result c.loop-k.rose c.raise_pair-more.result c.args.rows.now c.loop-k.rows c.raise_pair-more.new.rows
    (λ order. (j : ℕ) (pair : OperationNumber × OperationNumber) → j < n → slice_get c.args.pairs.now j ≡ Some pair → IsClosedStep order pair.0 pair.1)
    (λ order. (pair : OperationNumber × OperationNumber) → slice_get c.args.pairs.now n ≡ Some pair → IsClosedStep order pair.0 pair.1)
    (λ order. (j : ℕ) (pair : OperationNumber × OperationNumber) → j < n + 1 → slice_get c.args.pairs.now j ≡ Some pair → IsClosedStep order pair.0 pair.1)
    c.either-rose.ensures
    (λ u v j pair less. below_more (λ (i : ℕ). slice_get c.args.pairs.now i ≡ Some pair → IsClosedStep c.raise_pair-more.new.rows pair.0 pair.1) n (λ i under. u i pair under) (v pair) j less)
    c.loop-k.invariant c.raise_pair-more.ensures

pub returns : goal.returns
returns c =
    let t : TraceValue = c.args.trace.now in
    pass_as t c.loop-k.rose c.args.rows.now c.loop-k.rows
    (λ order. (j : ℕ) (pair : OperationNumber × OperationNumber) → j < c.loop-k.k → slice_get c.args.pairs.now j ≡ Some pair → IsClosedStep order pair.0 pair.1)
    (ArePairsClosed c.args.pairs.now)
    (λ u j pair at. u j pair (let within = slice_get_within c.args.pairs.now j pair at in omega (arith, within)) at) c.loop-k.invariant
