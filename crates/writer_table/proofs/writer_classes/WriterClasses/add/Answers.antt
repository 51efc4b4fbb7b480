use Rattle.std.proofs.Common.{◌≡◌, ◌+◌, refl, rules}
use Rattle.std.specs.HashMap.{hash_map_len}
use Rattle.writer_table.proofs.NumberLemmas.{one_more}
use Rattle.writer_table.proofs.writer_classes.WriterClasses.add.Goals as goal

pub returns-in_ok-insert-clause-more : goal.returns-in_ok-insert-clause-more
returns-in_ok-insert-clause-more c =
    let number : c.in-Some.number ≡ hash_map_len c.args.self.now.numbers + 1 = search rules in
    let longer : hash_map_len c.insert.new.self ≡ hash_map_len c.args.self.now.numbers + 1 = search rules in
    one_more c.args.self.now (record { by_value = c.args.self.now.by_value; numbers = c.insert.new.self }) (c.args.location, c.key.result) c.in-Some.number refl c.in_ok-insert.ensures.updates.0 number longer
