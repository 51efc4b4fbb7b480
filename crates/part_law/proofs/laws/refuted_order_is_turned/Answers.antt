use Rattle.std.proofs.Common.{inl, inr}
use Rattle.restriction.specs.Left.{restricted}
use Rattle.part_law.specs.Part.{stays}
use Rattle.part_law.proofs.PartLemmas.{restriction_legal}
use Rattle.restriction.proofs.StandLemmas.{stands_either}
use Rattle.part_law.proofs.laws.refuted_order_is_turned.Goals as goal

pub returns : goal.returns
returns c t ordered chosen m n ok first second other obeyed none names legal =
    elim (stands_either names m n (legal.interleaving.each m first) (legal.interleaving.each n second)) [
      | inl same ↦ absurd (other same)
      | inr (inl s) ↦ s
      | inr (inr s) ↦ absurd (none (restricted (stays t ordered chosen) names) (restriction_legal t ok ordered chosen names legal (obeyed names legal s)))
    ]
