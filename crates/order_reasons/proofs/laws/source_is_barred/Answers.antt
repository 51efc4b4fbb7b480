use Rattle.std.proofs.Common.{inl, inr}
use Rattle.order_reasons.proofs.SourceReasons.{sources_barred}
use Rattle.order_reasons.proofs.laws.source_is_barred.Goals as goal

pub returns : goal.returns
returns c t clause r h names legal =
    elim (sources_barred t names legal clause r (λ s. ⊥) h) [
      | inl holds ↦ holds
      | inr at ↦ absurd (at.1)
    ]
