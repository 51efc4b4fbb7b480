use Rattle.std.proofs.Common.{[], ◌∷◌, ◌++◌, ◌∙◌, cond, refl}
use Rattle.std.proofs.lemmas.Result.{on_ok_weaker}
use Rattle.std.specs.Str.{bytes_eq}
use Rattle.trace_part.proofs.WriterTableLemmas.{pushed_rows}
use Rattle.trace_part.proofs.writer_table.WriterTable.push.Goals as goal

pub returns-clause-rows : goal.returns-clause-rows
returns-clause-rows c =
    on_ok_weaker c.push_at.result (λ more q.
    pushed_rows c.args.location.now c.number.new.self (record { numbers = c.number.new.self.numbers; lists = c.push_at.new.lists }) c.in_ok-number.ensures.own c.in_ok-number.number c.in_ok-number.ensures.number refl c.args.row more q
    ∙ (λ i. cond (bytes_eq c.args.location.now q) (c.in_ok-number.ensures.same q i ++ c.args.row ∷ []) (c.in_ok-number.ensures.same q i))) c.push_at.ensures
