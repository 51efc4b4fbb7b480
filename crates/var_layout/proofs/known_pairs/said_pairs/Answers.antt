use Rattle.std.proofs.Common.{◌≡◌, ◌+◌, ◌++◌, ◌∷◌, [], ℕ, List, map, refl, ap, sym, ◌∙◌, append-nil, arith}
use Rattle.std.specs.Prelude.{◌==◌}
use Rattle.std.specs.List.{filter, flat_map, range_with_len}
use Rattle.std.proofs.lemmas.Grind.{flat_map-append}
use Rattle.trace_semantics.specs.Trace.{TraceValue}
use Rattle.var_layout.specs.KnownPairs.{said_after}
use Rattle.var_layout.proofs.RangeLemmas.{range_next}
use Rattle.var_layout.proofs.known_pairs.said_pairs.Goals as goal

-- the pairs of one operation more
said_more : (t : TraceValue) (k : ℕ) → flat_map (said_after t) (range_with_len 0 (k + 1)) ≡ flat_map (said_after t) (range_with_len 0 k) ++ said_after t k
said_more t k =
    ap (flat_map (said_after t)) (range_next 0 k (k + 1) k refl (omega arith))
    ∙ flat_map-append (said_after t) (range_with_len 0 k) (k ∷ [])
    ∙ ap (λ l. flat_map (said_after t) (range_with_len 0 k) ++ l) (append-nil (said_after t k))

pub push_said_after-requires : goal.push_said_after-requires
push_said_after-requires c =
    c.as_slice.ensures.value ∙ c.in_ok-paired.ensures
    ∙ ap (λ (l : List (ℕ × ℕ)). map (λ (pair : ℕ × ℕ). pair.1) (filter (λ (pair : ℕ × ℕ). pair.0 == c.loop-i.i) l)) c.requires

pub loop-i-preserved : goal.loop-i-preserved
loop-i-preserved c = c.in_ok-push_said_after.ensures ∙ ap (λ l. l ++ said_after c.args.numbering.now c.loop-i.i) c.loop-i.invariant ∙ sym (said_more c.args.numbering.now c.loop-i.i)
