use Rattle.std.proofs.Common.{◌∙◌, subst, sym}
use Rattle.trace_part.specs.Latest.{AreLatest}
use Rattle.trace_part.proofs.LatestLemmas.{sources_alike}
use Rattle.trace_part.proofs.sources.sources_chosen.Goals as goal

pub returns : goal.returns
returns c =
    c.are_sources_chosen.ensures
    ∙ sources_alike c.args.order.now c.args.writers.now c.requires.forward c.args.reader c.as_slice.result.now (subst (λ l. AreLatest c.args.order.now c.args.writers.now c.args.reader l) (sym c.as_slice.ensures.value) c.in_ok-names.ensures) c.args.value c.args.writers.now (λ w d. d)
