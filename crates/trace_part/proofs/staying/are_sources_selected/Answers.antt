use Rattle.std.proofs.Common.{List, not, ◌||◌, ap, sym, ◌∙◌, subst}
use Rattle.std.specs.List.{list_all}
use Rattle.std.proofs.lemmas.Result.{IfOk-weaker}
use Rattle.trace_part.specs.declared.writers.ChosenWriter.{ChosenWriter}
use Rattle.trace_part.specs.Latest.{IsForwardAmong}
use Rattle.trace_part.specs.Rows.{row_is_source}
use Rattle.trace_part.specs.Selections.{chosen_in}
use Rattle.trace_part.proofs.RowLemmas.{sources_are}
use Rattle.trace_part.proofs.staying.are_sources_selected.Goals as goal

pub sources_chosen-requires : goal.sources_chosen-requires
sources_chosen-requires c = record {
  forward = subst (λ l. IsForwardAmong c.args.selection.now.order l) (sym (c.writers_at-writers.ensures ∙ c.requires.selection.table c.args.location.now)) (c.requires.selection.forward c.args.location.now);
}

pub returns : goal.returns
returns c =
    IfOk-weaker c.sources_chosen.result _ _ (λ all e n known same.
    e
    ∙ ap (λ (l : List ChosenWriter). list_all (λ (w : ChosenWriter). w.chosen || not (row_is_source c.args.selection.now.order l c.args.reader c.args.value w)) l) (c.writers_at-writers.ensures ∙ c.requires.selection.table c.args.location.now)
    ∙ sources_are c.args.selection.now.trace.now c.args.selection.now.order (chosen_in c.args.selection.now) c.args.location.now c.recall_invariant.ensures n c.args.reader c.args.value known same) c.sources_chosen.ensures
