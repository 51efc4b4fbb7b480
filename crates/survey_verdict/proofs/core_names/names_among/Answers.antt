use Rattle.std.proofs.Common.{◌≡◌, rules, ap, ◌∙◌}
use Rattle.std.specs.List.{filter}
use Rattle.std.proofs.lemmas.Fn.{filter_same}
use Rattle.trace_semantics.specs.Judgement.{has_come}
use Rattle.survey_verdict.proofs.core_names.names_among.Goals as goal

pub returns : goal.returns
returns c =
    let kept : c.retain.new.self.items ≡ filter (has_come c.args.found.now) c.in_ok-names.names.items = filter_same _ _ _ (λ x b f' k. search rules) _ _ c.retain.ensures.filtered in
    kept ∙ ap (filter (has_come c.args.found.now)) c.in_ok-names.ensures
