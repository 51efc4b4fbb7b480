use Rattle.std.proofs.Common.{◌++◌, ◌∷◌, [], ◌∙◌, arith}
use Rattle.reducer.proofs.ExpandLemmas.{one_more_between, all_between}
use Rattle.reducer.proofs.expand.push_names.Goals as goal

pub loop-place-preserved : goal.loop-place-preserved
loop-place-preserved c = (
  c.in_ok-push.ensures.items
      ∙ (λ i. c.loop-place.names.items ++ record { process = c.in_ok-copy_of.ensures i; place = c.loop-place.place } ∷ [])
      ∙ one_more_between c.args.process.now c.args.first c.loop-place.place c.args.names.now.items c.loop-place.names.items c.loop-place.auto.place c.loop-place.invariant.0,
  λ less. absurd (omega (arith, less, c.loop-place.auto.place, c.loop-place-test.true)),
)

pub returns : goal.returns
returns c = all_between c.args.process.now c.args.first c.args.end c.loop-place.place c.args.names.now.items c.loop-place.names.items c.loop-place.auto.place-end c.loop-place-test.false c.loop-place.invariant.1 c.loop-place.invariant.0
