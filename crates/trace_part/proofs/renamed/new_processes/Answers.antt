use Rattle.std.proofs.Common.{◌∙◌}
use Rattle.std.proofs.lemmas.Result.{IfOk-weaker}
use Rattle.trace_part.proofs.PairRowLemmas.{places_left}
use Rattle.trace_part.proofs.renamed.new_processes.Goals as goal

pub returns : goal.returns
returns c =
    IfOk-weaker c.processes_by.result _ _ (λ new made. λ stays given.
    made stays (places_left c.args.trace.now stays c.args.all.now c.as_slice.result.now given (c.as_slice.ensures.value ∙ c.in_ok-places.ensures)) given.values) c.processes_by.ensures
