use Rattle.std.proofs.Common.{List, ℕ, cond, Some, ap, ◌∙◌}
use Rattle.std.specs.Str.{bytes_eq}
use Rattle.std.proofs.lemmas.Map.Text.{hash_map_updates_str}
use Rattle.trace_semantics.specs.NameNumbers.{number_of}
use Rattle.trace_semantics.proofs.name_table.NameTable.insert.Goals as goal

pub returns : goal.returns
returns c = λ q. hash_map_updates_str c.new.result.now c.args.self.now.numbers c.insert.new.self _ c.in_ok-insert.ensures.updates q ∙ ap (λ (p : List ℕ). cond (bytes_eq p q) (Some c.args.number) (number_of c.args.self.now q)) c.new.ensures
