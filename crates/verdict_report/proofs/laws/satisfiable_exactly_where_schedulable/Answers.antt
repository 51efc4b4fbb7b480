use Rattle.verdict_report.proofs.MeaningLemmas.{schedule_of_model, model_of_schedule}
use Rattle.verdict_report.proofs.laws.satisfiable_exactly_where_schedulable.Goals as goal

pub returns : goal.returns
returns c text value admitted = ((λ m. schedule_of_model value admitted.is_trace m.0 m.1), (λ s. model_of_schedule value admitted.is_trace s.0 s.1))
