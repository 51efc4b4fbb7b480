use Rattle.std.proofs.Common.{subst, sym, ◌∙◌}
use Rattle.std.proofs.lemmas.List.Elements.{Contains-get_or}
use Rattle.trace_part.specs.Told.{IsForwardFrom}
use Rattle.trace_part.proofs.pairs.push_told_of.Goals as goal

pub push_told_in-requires : goal.push_told_in-requires
push_told_in-requires c = record {
  forward = subst (λ g. IsForwardFrom c.args.order.now c.args.m g) (sym (c.as_slice.ensures ∙ c.index-groups-k.is)) (c.requires.forward _ (Contains-get_or c.args.groups.now c.loop-k.k c.index-groups-k.result c.loop-k-test.true));
}
