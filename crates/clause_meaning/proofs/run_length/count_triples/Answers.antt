use Rattle.std.proofs.Common.{◌≡◌, ◌-◌, ◌*◌, ◌∙◌, length, sym, ap, arith}
use Rattle.std.proofs.lemmas.List.{length-map}
use Rattle.trace_semantics.specs.Trace.{operation_count}
use Rattle.clause_blocks.proofs.TransitivityClauses.CountLemmas.{from_count}
use Rattle.clause_meaning.specs.Meanings.{clause_of, triples_from}
use Rattle.clause_meaning.proofs.MeaningLemmas.{triples_said}
use Rattle.clause_meaning.proofs.run_length.count_triples.Goals as goal

pub returns : goal.returns
returns c =
    let t = c.args.layout.now in
    let n = operation_count t in
    let i = c.args.lowest in
    let above : c.saturating_sub-above.result ≡ n - i - 1 = omega (arith, c.saturating_sub.ensures, c.saturating_sub-above.ensures, c.operations.ensures) in
    let below : c.saturating_sub-2.result ≡ n - i - 1 - 1 = omega (arith, above, c.saturating_sub-2.ensures) in
    (λ p. above p * below p) ∙ sym (from_count n i) ∙ sym (ap length (triples_said t i)) ∙ length-map (triples_from n i) (clause_of t)
