use Rattle.std.proofs.Common.{◌≡◌, ◌-◌, ◌*◌, ◌∙◌, ap, sym}
use Rattle.clause_blocks.proofs.TransitivityClauses.CountLemmas.{from_count}
use Rattle.clause_blocks.proofs.transitivity.count_transitivity_from.Goals as goal

pub returns : goal.returns
returns c =
    let above : c.saturating_sub-above.result ≡ c.args.operations - c.args.i - 1 = c.saturating_sub-above.ensures ∙ ap (λ m. m - 1) c.saturating_sub.ensures in
    let less : c.saturating_sub-2.result ≡ c.args.operations - c.args.i - 1 - 1 = c.saturating_sub-2.ensures ∙ ap (λ m. m - 1) above in
    (λ p. above p * less p) ∙ sym (from_count c.args.operations c.args.i)
