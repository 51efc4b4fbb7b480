use Rattle.std.proofs.Common.{ap, sym, ◌∙◌, ◌+◌, ℕ, List, length}
use Rattle.std.specs.List.{slice_get}
use Rattle.std.proofs.lemmas.Option.{slice_get_read}
use Rattle.std.proofs.lemmas.Result.{IfOk-weaker}
use Rattle.trace_semantics.specs.declared.operation.Op.{Op}
use Rattle.trace_part.specs.Selections.{chosen_in}
use Rattle.trace_part.proofs.RowLemmas.{stays_here}
use Rattle.trace_part.proofs.staying.stays_at.Goals as goal

pub returns : goal.returns
returns c =
    IfOk-weaker c.stays_of.result _ _ (λ left given.
    stays_here c.args.selection.now.trace.now c.recall_invariant.ensures c.args.selection.now.order (chosen_in c.args.selection.now) c.args.number c.args.process.now c.args.k c.index-as_slice-k.result left c.requires.listed
    (ap (λ (l : List Op). slice_get l c.args.k) (sym c.as_slice.ensures) ∙ slice_get_read c.as_slice.result.now (length c.args.process.now.operations) c.args.k c.index-as_slice-k.result (ap length (sym c.as_slice.ensures)) c.requires.within c.index-as_slice-k.is)
    (ap (λ (b : List ℕ). chosen_in c.args.selection.now (record { process = b; place = c.args.k + 1 })) (sym c.as_bytes.ensures) ∙ sym c.contains.ensures ∙ c.if-not-contains.false)
    given) c.stays_of.ensures
