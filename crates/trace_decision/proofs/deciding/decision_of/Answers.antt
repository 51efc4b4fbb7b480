use Rattle.std.proofs.Common.{ℕ, List, ap, subst}
use Rattle.clause_blocks.specs.Clauses.{clauses_of, formula_of}
use Rattle.result_ledger.specs.declared.verdict.Verdict.{Verdict}
use Rattle.result_ledger.specs.Verdict.{IsVerdict}
use Rattle.trace_semantics.specs.Trace.{TraceValue}
use Rattle.trace_decision.specs.Decision.{AreCubesOf}
use Rattle.trace_decision.specs.Rounds.{HaveEnded}
use Rattle.trace_decision.proofs.DecideLemmas.{inconsistent, is_model, open_leaves, unknown}
use Rattle.trace_decision.proofs.RoundLemmas.{open_within}
use Rattle.trace_decision.proofs.deciding.decision_of.Goals as goal

pub whole_schedule-requires : goal.whole_schedule-requires
whole_schedule-requires c =
    let d = c.args.decided in
    record {
      same = c.requires.clauses;
      model = is_model (clauses_of c.args.clauses.now) c.args.reduced.now.kept d.ledger c.in-Consistent.field-0 c.in-Consistent.truth d.verdict c.in-Consistent.is (ap clauses_of c.requires.clauses) c.requires.ended.verdict_is;
    }

pub cubes_of_leaves-requires : goal.cubes_of_leaves-requires
cubes_of_leaves-requires c =
    let d = c.args.decided in
    rw c.as_slice.ensures (open_within (clauses_of c.args.clauses.now) d.ledger c.in-Unknown.leaves d.verdict c.in-Unknown.is c.requires.ended.verdict_is)

pub returns-in_ok-derivations-in-Inconsistent-clause-decided : goal.returns-in_ok-derivations-in-Inconsistent-clause-decided
returns-in_ok-derivations-in-Inconsistent-clause-decided c =
    let d = c.args.decided in
    inconsistent c.args.reduced.now c.kept-kept.ensures.reduced (formula_of c.args.clauses.now) (ap formula_of c.requires.clauses) c.recall_invariant.ensures.formula
    d.tree d.ledger c.requires.cubes c.recall_clauses.ensures c.recall_cover.ensures.covers c.args._options.now
    c.in-Inconsistent.field-0 c.in_ok-derivations-in-Inconsistent.derivations c.recall_cover.ensures.tree c.in_ok-derivations-in-Inconsistent.ensures
    (subst (λ (v : Verdict). IsVerdict (clauses_of c.args.clauses.now) d.ledger v) c.in-Inconsistent.is c.requires.ended.verdict_is)

pub returns-in_ok-cubes-in-Unknown-clause-decided : goal.returns-in_ok-cubes-in-Unknown-clause-decided
returns-in_ok-cubes-in-Unknown-clause-decided c =
    let d = c.args.decided in
    unknown c.args.reduced.now c.kept-kept.ensures.reduced (formula_of c.args.clauses.now) (ap formula_of c.requires.clauses) c.recall_invariant.ensures.formula
    d.tree d.ledger c.requires.cubes c.recall_clauses.ensures c.recall_cover.ensures.covers c.args._options.now
    c.recall_cover.ensures.tree d.verdict c.in-Unknown.leaves c.in-Unknown.is (subst (λ (t : TraceValue). HaveEnded t c.args._options.now d.ledger d.verdict) c.requires.clauses c.requires.ended) c.requires.ended.verdict_is
    c.in_ok-cubes-in-Unknown.cubes
    (subst (λ (listed : List ℕ). AreCubesOf d.ledger listed c.in_ok-cubes-in-Unknown.cubes) c.as_slice.ensures c.in_ok-cubes-in-Unknown.ensures)

pub returns-in_ok-cubes-in-Unknown-clause-named : goal.returns-in_ok-cubes-in-Unknown-clause-named
returns-in_ok-cubes-in-Unknown-clause-named c =
    let d = c.args.decided in
    open_leaves d.ledger d.verdict c.in-Unknown.leaves c.in-Unknown.is c.in_ok-cubes-in-Unknown.cubes
    (subst (λ (listed : List ℕ). AreCubesOf d.ledger listed c.in_ok-cubes-in-Unknown.cubes) c.as_slice.ensures c.in_ok-cubes-in-Unknown.ensures)
