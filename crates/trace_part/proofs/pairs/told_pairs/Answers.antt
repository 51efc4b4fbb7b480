use Rattle.std.proofs.Common.{subst, sym, ◌∙◌}
use Rattle.std.proofs.lemmas.List.Elements.{Contains-get_or}
use Rattle.trace_part.specs.Told.{IsGroupForward}
use Rattle.trace_part.proofs.pairs.told_pairs.Goals as goal

pub push_told_from-requires : goal.push_told_from-requires
push_told_from-requires c = record {
  forward = subst (λ g. IsGroupForward c.args.order.now c.args.groups.now g) (sym (c.as_slice.ensures ∙ c.index-groups-k.is)) (c.requires.forward _ (Contains-get_or c.args.groups.now c.loop-k.k c.index-groups-k.result c.loop-k-test.true));
}
