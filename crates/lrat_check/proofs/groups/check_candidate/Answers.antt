use Rattle.std.proofs.Common.{◌≡◌, ◌++◌, true, false, inr, refl, neg_ℤ, take, rules}
use Rattle.std.specs.List.{list_any}
use Rattle.lrat_check.specs.ClauseAt.{clause_at}
use Rattle.lrat_check.specs.Hints.{first_hints}
use Rattle.lrat_check.specs.Propagation.{has}
use Rattle.lrat_check.specs.Rat.{Reaches, others}
use Rattle.lrat_check.specs.Refuted.{negated}
use Rattle.lrat_check.proofs.RefusalLemmas.{reach_fails}
use Rattle.lrat_check.proofs.Justifying.TrailLemmas.{extends_all, extends_more}
use Rattle.lrat_check.proofs.groups.check_candidate.Goals as goal

pub returns-else-branch-clause-settled : goal.returns-else-branch-clause-settled
returns-else-branch-clause-settled g c =
    let active = clause_at (g.F.ClauseList.formula c.args.formula.now).clauses c.args.active.now in
    let clause = c.in-Some.clause in
    let reached = take c.args.count c.args.trues.now in
    let hints = first_hints c.args.group.hints.now in
    let trues = reached ++ negated (others c.args.pivot clause) in
    let opposed : has clause (neg_ℤ c.args.pivot) ≡ true = search rules in
    let none : list_any (has reached) (others c.args.pivot clause) ≡ false = search rules in
    let ends : Reaches active trues hints c.propagate.new.trues = search rules in
    (inr (clause, c.in-Some.ensures, inr (opposed, none, reach_fails active hints trues c.propagate.new.trues ends)), refl)

pub returns-then-other_holds-clause-kept : goal.returns-then-other_holds-clause-kept
returns-then-other_holds-clause-kept g c = extends_all c.keep_first.new.trues (take c.args.count c.args.trues.now) c.keep_first.ensures

pub returns-then-branch-clause-kept : goal.returns-then-branch-clause-kept
returns-then-branch-clause-kept g c =
    let first = take c.args.count c.args.trues.now in
    let negations = negated (others c.args.pivot c.in-Some.clause) in
    extends_more c.propagate.new.trues c.assume_others.new.trues first c.in_ok-propagate.ensures.kept (negations, search rules)
