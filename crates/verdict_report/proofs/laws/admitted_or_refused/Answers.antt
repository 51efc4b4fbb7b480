use Rattle.std.proofs.Common.{inl, inr}
use Rattle.trace_text.proofs.Reading.TraceReadLemmas.{spelled_or_refused}
use Rattle.verdict_report.proofs.AdmittedLemmas.{little_or_much}
use Rattle.verdict_report.proofs.laws.admitted_or_refused.Goals as goal

pub returns : goal.returns
returns c text = elim (spelled_or_refused text) [
  | inl (value, is_trace, spelled) ↦ elim (little_or_much text value is_trace spelled) [
    | inl admitted ↦ inl admitted
    | inr large ↦ inr (inl large)
  ]
  | inr faulty ↦ inr (inr faulty)
]
