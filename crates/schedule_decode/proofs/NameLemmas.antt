-- The names of operations, by process and place and by number.
use Rattle.std.proofs.Common.{◌≡◌, ℕ, ◌+◌, ◌<◌, List, [], ◌∷◌, ◌++◌, take, length, get_or, append_assoc, ap, sym, ◌∙◌, arith}
use Rattle.std.specs.Prelude.{Option}
use Rattle.std.specs.List.{cons_option, filter_map, slice_get}
use Rattle.std.proofs.lemmas.List.{take_more}
use Rattle.std.proofs.lemmas.List.Elements.{filter_map-append}
use Rattle.std.proofs.lemmas.List.FromFn.{map-range_with_len_more}
use Rattle.trace_semantics.specs.declared.operation.OpName.{OpName}
use Rattle.trace_semantics.specs.Trace.{first_names}

-- one name more of a process
pub pushed_name : (process : List ℕ) (k : ℕ) (old items new : List OpName) → items ≡ old ++ first_names process k → new ≡ items ++ record { process = process; place = k + 1 } ∷ [] → new ≡ old ++ first_names process (k + 1)
pushed_name process k old items new so_far e =
    let last : List OpName = record { process = process; place = k + 1 } ∷ [] in
    let more : first_names process (k + 1) ≡ first_names process k ++ last = map-range_with_len_more (λ (j : ℕ). record { process = process; place = j }) 1 k (k + 1) (omega arith) in
    e ∙ ap (λ l. l ++ last) so_far ∙ append_assoc old (first_names process k) last ∙ ap (λ l. old ++ l) (sym more)

-- one number more, and the name of which it is, where there is one
pub one_more_named : (names : List OpName) (order : List ℕ) (k : ℕ) (o : Option OpName) (items : List OpName) → k < length order → o ≡ slice_get names (get_or order k 0) → items ≡ filter_map (slice_get names) (take k order) →
    items ++ cons_option o [] ≡ filter_map (slice_get names) (take (k + 1) order)
one_more_named names order k o items h e so_far =
    (λ i. so_far i ++ cons_option (e i) []) ∙ sym (filter_map-append (slice_get names) (take k order) (get_or order k 0 ∷ [])) ∙ ap (filter_map (slice_get names)) (sym (take_more order k 0 h))
