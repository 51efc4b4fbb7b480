use Rattle.std.proofs.Common.{List, ℕ, cond, ap, sym, ◌∙◌}
use Rattle.std.specs.Prelude.{Some, None}
use Rattle.std.proofs.lemmas.Result.{IfOk-weaker}
use Rattle.trace_semantics.specs.declared.operation.Op.TheVariants.{Read}
use Rattle.part_law.specs.Part.{keeps_read, stays_of}
use Rattle.trace_part.specs.Selections.{ordered_in, chosen_in}
use Rattle.trace_part.proofs.staying.stays_of.Goals as goal

pub returns-in_ok-keeps-in-Read : goal.returns-in_ok-keeps-in-Read
returns-in_ok-keeps-in-Read c =
    IfOk-weaker c.read_stays.result _ _ (λ left e n known same.
    e
    ∙ ap (λ b. cond b (Some (Read c.in-Read.location c.in-Read.value c.in-Read.origin c.in-Read.span)) None)
    (c.in_ok-keeps-in-Read.ensures n known same ∙ ap (λ (l : List ℕ). keeps_read c.args.selection.now.trace.now (ordered_in c.args.selection.now) (chosen_in c.args.selection.now) n l c.in-Read.value c.in-Read.origin) c.as_bytes-name.ensures)
    ∙ ap (stays_of c.args.selection.now.trace.now (ordered_in c.args.selection.now) (chosen_in c.args.selection.now) n) (sym c.in-Read.is)) c.read_stays.ensures
