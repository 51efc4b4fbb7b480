use Rattle.std.proofs.Common.{◌≡◌, ◌∙◌, List, [], ◌∷◌, ◌++◌, length, ap, rules}
use Rattle.trace_part.specs.declared.writers.ChosenWriter.{ChosenWriter}
use Rattle.trace_part.proofs.WriterTableLemmas.{added_same}
use Rattle.trace_part.proofs.writer_table.WriterTable.add.Goals as goal

pub returns-clause-same : goal.returns-clause-same
returns-clause-same c =
    let count : c.len-number.result ≡ length c.args.self.now.lists.items = search rules in
    added_same c.args.location.now c.args.self.now (record { numbers = c.insert.new.self; lists = c.push.new.self }) c.requires.own c.requires.missing c.len-number.result count
    (c.in_ok-push.ensures.items ∙ ap (λ (rows : List ChosenWriter). c.args.self.now.lists.items ++ rows ∷ []) c.empty.ensures) c.in_ok-insert.ensures
