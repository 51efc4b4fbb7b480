use Rattle.std.proofs.Common.{◌≡◌, length, List, sym, ◌∙◌, ap, subst, arith}
use Rattle.clause_blocks.specs.Clauses.{clauses_of}
use Rattle.result_ledger.specs.declared.slot.Slot.{Slot}
use Rattle.result_ledger.specs.declared.verdict.Verdict.TheVariants.{Unknown}
use Rattle.result_ledger.specs.Verdict.{IsVerdict}
use Rattle.trace_decision.proofs.RoundLemmas.{after_round, no_new_leaves, open_within}
use Rattle.trace_decision.proofs.rounds.search_again.Goals as goal

pub split_all-requires-clause-leaves : goal.split_all-requires-clause-leaves
split_all-requires-clause-leaves g c =
    open_within (clauses_of c.args.clauses.now) c.args.decided.ledger c.as_slice.result.now c.args.decided.verdict (c.in-Unknown.is ∙ ap Unknown (sym c.as_slice.ensures)) c.requires.verdict_is

pub returns-then-leaves-before : goal.returns-then-leaves-before
returns-then-leaves-before g c =
    let long : length c.in_ok-tree.ledger ≡ length c.args.decided.ledger = omega (arith, c.if-leaves-before.true, c.leaves.ensures.count, c.leaves-before.ensures.count) in
    let none = no_new_leaves c.args.variables.now c.as_slice.result.now c.args.decided.ledger c.in_ok-tree.ledger c.args.decided.verdict (c.in-Unknown.is ∙ ap Unknown (sym c.as_slice.ensures)) c.in_ok-tree.ensures.split long in (
      record { cubes_are = c.in_ok-tree.ensures.cubes; verdict_is = subst (λ (slots : List Slot). IsVerdict (clauses_of c.args.clauses.now) slots c.args.decided.verdict) (sym none.1) c.requires.verdict_is },
      none.0,
      none.1,
    )

pub returns : goal.returns
returns g c = (
  c.in_ok-after.ensures.confirmed,
  after_round (clauses_of c.args.clauses.now) c.args.variables.now c.as_slice.result.now c.args.decided.ledger c.in_ok-tree.ledger c.in_ok-after.after.ledger c.args.decided.verdict
      (c.in-Unknown.is ∙ ap Unknown (sym c.as_slice.ensures)) c.requires.verdict_is c.in_ok-tree.ensures.split
      (λ same. omega (arith, same, c.if-leaves-before.false, c.leaves.ensures.count, c.leaves-before.ensures.count)) c.in_ok-after.ensures.searched,
)
