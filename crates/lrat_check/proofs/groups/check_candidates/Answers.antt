use Rattle.std.proofs.Common.{◌≡◌, List, ℤ, length, subst, rules}
use Rattle.lrat_check.specs.ClauseAt.{clause_at}
use Rattle.lrat_check.specs.Hints.{Group, first_hints, groups_of}
use Rattle.lrat_check.specs.Propagation.{Extends}
use Rattle.lrat_check.specs.Rat.{IsSettled}
use Rattle.lrat_check.proofs.Justifying.GroupLemmas.{group_settled}
use Rattle.lrat_check.proofs.Justifying.TrailLemmas.{first_kept}
use Rattle.lrat_check.proofs.groups.check_candidates.Goals as goal

pub loop-id-preserved : goal.loop-id-preserved
loop-id-preserved g c =
    let active = clause_at (g.F.ClauseList.formula c.args.formula.now).clauses c.args.active.now in
    let first = c.args.trues.now in
    let group : Group = record { id = c.in-Some.id; hints = first_hints c.in-Some.after.now } in
    let same = c.loop-id.invariant.0 in
    let count : c.len-count.result ≡ length first = search rules in
    let is = subst (λ (reached : List ℤ). IsSettled active c.args.pivot reached group) same c.in_ok-check_candidate.ensures.settled in (
      first_kept c.check_candidate.new.trues first c.len-count.result count (subst (λ (reached : List ℤ). Extends c.check_candidate.new.trues reached) same c.in_ok-check_candidate.ensures.kept),
      group_settled active c.args.pivot first (groups_of c.args.hints.now) (groups_of c.loop-id.rest.now) (groups_of c.in-Some.after.now) group c.loop-id.invariant.1 c.in-Some.ensures.0 is,
    )
