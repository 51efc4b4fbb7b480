use Rattle.std.proofs.Common.{List, ℕ, cond, Some, ap, ◌∙◌, ◌&&◌, ◌==◌}
use Rattle.std.specs.Str.{bytes_eq}
use Rattle.schedule_judge.specs.Tables.{number_at}
use Rattle.schedule_judge.proofs.op_numbers.OpNumbers.insert.Goals as goal

pub returns : goal.returns
returns c = λ n. c.in_ok-insert.ensures.updates.0 (record { 0 = record { ref_ptr = (0, 0); now = n.process }; 1 = n.place }) ∙ ap (λ (p : List ℕ). cond (bytes_eq p n.process && (c.args.name.now.place == n.place)) (Some c.args.number) (number_at c.args.self.now n)) (c.new.ensures ∙ c.as_bytes.ensures)
