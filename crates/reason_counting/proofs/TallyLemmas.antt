-- Tallies of operations, and how many operations there can be.
use Rattle.std.proofs.Common.{◌≡◌, ◌≤◌, ◌<◌, ◌+◌, ℕ, List, [], ◌∷◌, ◌++◌, take, length, get_or, append-nil, ap, sym, ◌∙◌, arith, subst}
use Rattle.std.specs.List.{flat_map}
use Rattle.std.proofs.lemmas.List.{take_more, length-take-le}
use Rattle.std.proofs.lemmas.Grind.{flat_map-append}
use Rattle.std.proofs.lemmas.List.Concat.{length-flat_map}
use Rattle.std.proofs.lemmas.List.Folds.{length-flat_map-take}
use Rattle.text_lines.proofs.ListLemmas.{few_pass}
use Rattle.trace_semantics.specs.declared.operation.Op.{Op}
use Rattle.trace_semantics.specs.declared.trace.Process.{Process}
use Rattle.trace_semantics.specs.Trace.{TraceValue, IsTrace}
use Rattle.reason_counting.specs.declared.tally.Tally.{Tally}
use Rattle.reason_counting.specs.Tallies.{IsTallyOf, does_want, does_leave}
use Rattle.trace_semantics.specs.declared.limits.Limits.TheVariants.{Large}
use Rattle.trace_semantics.specs.Limits.{max_operations}

pub few_wanting : (location : List ℕ) (value : ℕ) (ops : List Op) (tally : Tally) → IsTallyOf location value ops tally → tally.wanting ≤ length ops
few_wanting location value ops tally h = let few = few_pass (does_want location value) ops in let is = h.wanting in omega (arith, few, is)

pub few_leaving : (location : List ℕ) (value : ℕ) (ops : List Op) (tally : Tally) → IsTallyOf location value ops tally → tally.leaving ≤ length ops
few_leaving location value ops tally h = let few = few_pass (does_leave location value) ops in let is = h.leaving in omega (arith, few, is)

abbrev pub operations_in : List Process → List Op
operations_in processes = flat_map (λ (p : Process). p.operations) processes

pub few_operations : (t : TraceValue) → IsTrace t → length (operations_in t.processes) ≤ max_operations Large
few_operations t ok = let most = ok.few_operations in let is = length-flat_map (λ (p : Process). p.operations) t.processes in omega (arith, most, is)

-- those of the first processes and of the next one
pub few_so_far : (t : TraceValue) → IsTrace t → (q : ℕ) (p : Process) → q < length t.processes → get_or t.processes q p ≡ p → length (operations_in (take q t.processes)) + length p.operations ≤ max_operations Large
few_so_far t ok q p low at =
    let part = length-flat_map-take (λ (x : Process). x.operations) t.processes q p low in
    let whole = few_operations t ok in
    let here = ap (λ (x : Process). length x.operations) at in
    omega (arith, part, whole, here)

-- a tally of the first operations and of one more counts no more than there are
pub few_with_one : (location : List ℕ) (value : ℕ) (ops : List Op) (k : ℕ) (tally one : Tally) (op : Op) → k < length ops → IsTallyOf location value (take k ops) tally → IsTallyOf location value (op ∷ []) one →
    (tally.wanting + one.wanting ≤ length ops) × (tally.leaving + one.leaving ≤ length ops)
few_with_one location value ops k tally one op low h g =
    let long = length-take-le k ops (omega (arith, low)) in
    let wanting = few_wanting location value (take k ops) tally h in
    let leaving = few_leaving location value (take k ops) tally h in
    let wants = few_wanting location value (op ∷ []) one g in
    let leaves = few_leaving location value (op ∷ []) one g in
    (omega (arith, low, long, wanting, wants), omega (arith, low, long, leaving, leaves))

pub one_more : (location : List ℕ) (value : ℕ) (ops : List Op) (k : ℕ) (op : Op) (tally : Tally) → k < length ops → get_or ops k op ≡ op → IsTallyOf location value (take k ops ++ op ∷ []) tally → IsTallyOf location value (take (k + 1) ops) tally
one_more location value ops k op tally low at h = subst (λ l. IsTallyOf location value l tally) (sym (take_more ops k op low ∙ ap (λ o. take k ops ++ o ∷ []) at)) h

-- a tally of the first processes and of the next one counts no more than a trace has operations
pub few_with_process : (t : TraceValue) → IsTrace t → (location : List ℕ) (value q : ℕ) (p : Process) (tally one : Tally) → q < length t.processes → get_or t.processes q p ≡ p → IsTallyOf location value (operations_in (take q t.processes)) tally →
    IsTallyOf location value p.operations one → (tally.wanting + one.wanting ≤ max_operations Large) × (tally.leaving + one.leaving ≤ max_operations Large)
few_with_process t ok location value q p tally one low at h g =
    let most = few_so_far t ok q p low at in
    let wanting = few_wanting location value (operations_in (take q t.processes)) tally h in
    let leaving = few_leaving location value (operations_in (take q t.processes)) tally h in
    let wants = few_wanting location value p.operations one g in
    let leaves = few_leaving location value p.operations one g in
    (omega (arith, most, wanting, wants), omega (arith, most, leaving, leaves))

pub process_more : (location : List ℕ) (value : ℕ) (processes : List Process) (q : ℕ) (p : Process) (tally : Tally) → q < length processes → get_or processes q p ≡ p → IsTallyOf location value (operations_in (take q processes) ++ p.operations) tally →
    IsTallyOf location value (operations_in (take (q + 1) processes)) tally
process_more location value processes q p tally low at h = subst (λ l. IsTallyOf location value l tally) (sym same) h
  where
    same : operations_in (take (q + 1) processes) ≡ operations_in (take q processes) ++ p.operations
    same =
        ap operations_in (take_more processes q p low ∙ ap (λ x. take q processes ++ x ∷ []) at) ∙ flat_map-append (λ (x : Process). x.operations) (take q processes) (p ∷ [])
        ∙ ap (λ l. operations_in (take q processes) ++ l) (append-nil p.operations)
