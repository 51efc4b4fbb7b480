use Rattle.std.proofs.Common.{◌≡◌, true, false, refl, sym, ◌∙◌, inl, inr}
use Rattle.trace_semantics.specs.Trace.{value_of}
use Rattle.reason_clauses.specs.LastRefused.{IsNoLateWitness}
use Rattle.reason_clauses.specs.RefusedBy.{IsMissingNumber}
use Rattle.reason_clauses.proofs.LastLemmas.{late_given, hides_late_by}
use Rattle.reason_clauses.proofs.RefusedLemmas.{refusal_on}
use Rattle.reason_clauses.proofs.last.want_late.Goals as goal

pub returns-clause-given : goal.returns-clause-given
returns-clause-given c is = late_given c.args.trace.now c.args.witness c.in_ok-op.op.now c.args.location.now c.args.final_value is c.in_ok-op.ensures.there (c.hides_late.ensures.only c.if-not-hides_late.false)

pub returns-then-not-hides_late-clause-refused : goal.returns-then-not-hides_late-clause-refused
returns-then-not-hides_late-clause-refused c is =
    inr (
      λ given. (let hides = c.hides_late.ensures.found (hides_late_by c.args.trace.now c.args.witness c.in_ok-op.op.now c.args.location.now c.args.final_value is c.in_ok-op.ensures.there given) in
          let clash : true ≡ false = sym hides ∙ c.if-not-hides_late.true in absurd (cc)),
      refl,
    )

pub returns-in_err-op-clause-refused : goal.returns-in_err-op-clause-refused
returns-in_err-op-clause-refused c =
    let t = c.args.trace.now in
    refusal_on (IsMissingNumber t c.args.witness) (λ cause. value_of t.final_values c.args.location.now ≡ c.args.final_value → IsNoLateWitness t c.args.location.now c.args.witness cause) c.from_residual.result c.in_err-op.field-0.0 c.from_residual.ensures.1
    (λ cause h is. inl h) c.in_err-op.ensures.refused
