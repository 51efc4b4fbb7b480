use Rattle.std.proofs.Common.{◌++◌, ◌∙◌, ℕ, ap}
use Rattle.batch_report.specs.JsonLines.{file_member, json_verdict, place_members}
use Rattle.batch_report.proofs.FormLemmas.{three_parts}
use Rattle.batch_report.proofs.json_lines.push_head.Goals as goal

pub returns : goal.returns
returns c =
    three_parts c.args.text.now.items (file_member c.args.piece.now.file.now) (place_members c.args.piece.now.number c.in-Some.line) (json_verdict c.args.piece.now.found.verdict) c.push_file.new.text.items c.push_places.new.text.items c.push_verdict.new.text.items
    c.in_ok-push_file.ensures c.in_ok-push_places.ensures c.in_ok-push_verdict.ensures
    ∙ ap (λ (line : ℕ). c.args.text.now.items ++ (file_member c.args.piece.now.file.now ++ (place_members c.args.piece.now.number line ++ json_verdict c.args.piece.now.found.verdict))) c.in-Some.ensures
