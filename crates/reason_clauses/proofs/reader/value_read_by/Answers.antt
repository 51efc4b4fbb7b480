use Rattle.std.proofs.Common.{refl, sym, ◌∙◌, inl, inr}
use Rattle.reason_clauses.specs.RefusedBy.{IsMissingNumber}
use Rattle.reason_clauses.specs.SourceRefused.{IsNoReader}
use Rattle.reason_clauses.proofs.RefusedLemmas.{refusal_on}
use Rattle.reason_clauses.proofs.reader.value_read_by.Goals as goal

pub returns-clause-read : goal.returns-clause-read
returns-clause-read c = record {
  op = c.in_ok-op.op.now;
  number = c.in_ok-op.ensures.there;
  reads = sym c.value_read.ensures ∙ c.in-Some.is;
  location_is = c.as_bytes-location.ensures ∙ c.location.ensures;
  origin_is = c.in-Some-origin.ensures.said;
}

pub returns-in_err-op-clause-refused : goal.returns-in_err-op-clause-refused
returns-in_err-op-clause-refused c =
    let t = c.args.trace.now in
    refusal_on (IsMissingNumber t c.args.n) (IsNoReader t c.args.n) c.from_residual.result c.in_err-op.field-0.0 c.from_residual.ensures.1 (λ cause h. inl h) c.in_err-op.ensures.refused

pub returns-in_default-clause-refused : goal.returns-in_default-clause-refused
returns-in_default-clause-refused c = inr (c.in_ok-op.op.now, c.in_ok-op.ensures.there, sym c.value_read.ensures ∙ c.in_default.is, refl)

pub returns-in_default-origin-clause-refused : goal.returns-in_default-origin-clause-refused
returns-in_default-origin-clause-refused c = inr (c.in_ok-op.op.now, c.in_ok-op.ensures.there, c.in_default-origin.ensures.none refl, refl)
