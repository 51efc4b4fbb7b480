use Rattle.std.proofs.Common.{sym, subst}
use Rattle.trace_semantics.specs.Judgement.{has_come}
use Rattle.trace_semantics.specs.Legal.{IsLegal}
use Rattle.forced_order.proofs.ForcedLemmas.{forced_before}
use Rattle.restriction.specs.Left.{restricted}
use Rattle.part_law.specs.Part.{stays}
use Rattle.part_law.proofs.PartLemmas.{restriction_legal}
use Rattle.trace_part.proofs.laws.unschedulable_where_its_part_is.Goals as goal

pub returns : goal.returns
returns c t names p ok given none s legal =
    none (restricted (stays t given.ordered (has_come names)) s)
    (subst (λ q. IsLegal q (restricted (stays t given.ordered (has_come names)) s)) (sym given.trace_is)
    (restriction_legal t ok given.ordered (has_come names) s legal (λ m n known there h. forced_before t s m n legal.interleaving (given.forced.within m n known there h))))
