use Rattle.std.proofs.Common.{List, not, length, ◌==◌, ◌&&◌, ◌||◌, ap, ◌∙◌}
use Rattle.std.specs.List.{list_all, list_any}
use Rattle.part_law.specs.Part.{stays_final}
use Rattle.trace_part.specs.declared.writers.ChosenWriter.{ChosenWriter}
use Rattle.trace_part.specs.Rows.{row_is_last}
use Rattle.trace_part.specs.Selections.{ordered_in, chosen_in}
use Rattle.trace_part.proofs.RowLemmas.{final_is}
use Rattle.trace_part.proofs.finals.final_stays.Goals as goal

pub returns : goal.returns
returns c =
    c.stays_by.ensures
    ∙ ap (λ (l : List ChosenWriter). list_all (λ (w : ChosenWriter). w.chosen || not (row_is_last c.args.selection.now.order l c.args.entry.now.1 w)) l && (list_any (λ (w : ChosenWriter). w.chosen) l || (length l == 0)))
    (c.writers_at-writers.ensures ∙ c.requires.selection.table c.as_bytes.result.now)
    ∙ final_is c.args.selection.now.trace.now c.args.selection.now.order (chosen_in c.args.selection.now) c.as_bytes.result.now c.args.entry.now.1
    ∙ ap (λ l. stays_final c.args.selection.now.trace.now (ordered_in c.args.selection.now) (chosen_in c.args.selection.now) (l, c.args.entry.now.1)) c.as_bytes.ensures
