-- Names and numbers of operations.
use Rattle.std.proofs.Common.{◌≡◌, ℕ, ◌<◌, Option, Some, None, true, refl, arith}
use Rattle.std.proofs.lemmas.Option.{slice_get_within}
use Rattle.trace_semantics.specs.declared.operation.OpName.{OpName}
use Rattle.trace_semantics.specs.Trace.{TraceValue, operation_names, operation_count}
use Rattle.var_layout.proofs.NumberLemmas.{names_counted}
use Rattle.var_layout.specs.Numbers.{name_at, in_one_process, share_process}

shared_both : (m n : Option OpName) → share_process m n ≡ true → (x : OpName) × (y : OpName) × (m ≡ Some x) × (n ≡ Some y)
shared_both None n e = absurd (cc)
shared_both (Some m) None e = absurd (cc)
shared_both (Some m) (Some n) e = (m, n, refl, refl)

-- only operations are of one process
pub shared_within : (t : TraceValue) (i j : ℕ) → in_one_process t i j ≡ true → (i < operation_count t) × (j < operation_count t)
shared_within t i j e =
    let both = shared_both (name_at t i) (name_at t j) e in
    let names = names_counted t in
    (omega (arith, names, slice_get_within (operation_names t) i both.0 both.2), omega (arith, names, slice_get_within (operation_names t) j both.1 both.3))
