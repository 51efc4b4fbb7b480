use Rattle.std.proofs.Common.{ℕ, List, [], ◌≡◌, ◌++◌, ◌-◌, length, take, subst}
use Rattle.std.specs.Prelude.{codes}
use Rattle.std.specs.List.{flat_map}
use Rattle.writer_table.specs.declared.operation_place.OperationPlace.{OperationPlace}
use Rattle.reason_notes.specs.Words.{first_text, more_text, step_text}
use Rattle.reason_notes.proofs.AppendLemmas.{four}
use Rattle.reason_notes.proofs.line_words.push_cycle.Goals as goal

pub returns : goal.returns
returns c =
    let t = c.args.trace.now in
    let steps = subst (λ (l : List OperationPlace). c.push_steps.new.text.items ≡ c.extend_from_slice.new.self.items ++ flat_map (step_text t) l) c.first_of.ensures c.in_ok-push_steps.ensures in
    let more = subst (λ (n : ℕ). c.push_more.new.text.items ≡ c.push_steps.new.text.items ++ more_text [] (codes " more before ") n) c.count_after.ensures c.in_ok-push_more.ensures in
    four c.args.text.now.items (codes "no schedule has ") (flat_map (step_text t) (take 12 c.args.operations.now)) (more_text [] (codes " more before ") (length c.args.operations.now - 12)) (first_text t c.args.operations.now)
    c.extend_from_slice.new.self.items c.push_steps.new.text.items c.push_more.new.text.items c.push_first.new.text.items
    c.in_ok-extend_from_slice.ensures.items steps more c.in_ok-push_first.ensures
