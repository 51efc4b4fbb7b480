use Rattle.std.proofs.Common.{inl, inr}
use Rattle.order_reasons.proofs.SourceReasons.{last_writers_barred}
use Rattle.order_reasons.proofs.laws.last_is_barred.Goals as goal

pub returns : goal.returns
returns c t clause location h names legal =
    elim (last_writers_barred t names legal clause location (λ s. ⊥) h) [
      | inl holds ↦ holds
      | inr at ↦ absurd (at.2)
    ]
