use Rattle.trace_text.proofs.NeverFaulty.TraceClearLemmas.{never_both}
use Rattle.verdict_report.proofs.AdmittedLemmas.{not_both}
use Rattle.verdict_report.proofs.laws.never_admitted_and_refused.Goals as goal

pub returns-clause-large : goal.returns-clause-large
returns-clause-large c = not_both

pub returns-clause-faulty : goal.returns-clause-faulty
returns-clause-faulty c text value cause line a faulty = never_both text value cause line a.is_trace a.spelled faulty
