use Rattle.std.proofs.Common.{List, sym, subst}
use Rattle.reason_counting.specs.declared.left_sources.LeftStretch.{LeftStretch}
use Rattle.reason_counting.specs.Left.{AreMore, IsLeftAt, KeepsOnly}
use Rattle.reason_counting.specs.LeftEnds.{IsOneStretch}
use Rattle.reason_counting.proofs.EndLemmas.{keeps_one}
use Rattle.reason_counting.proofs.LeftLemmas.{stretch_more, one_here}
use Rattle.reason_counting.proofs.left_ends.keep_one.Goals as goal

pub returns-clause-more : goal.returns-clause-more
returns-clause-more c = subst (λ (l : List LeftStretch). AreMore c.args.left.now.items l) (sym c.in_ok-push.ensures.items) (stretch_more c.args.left.now.items _)

pub returns-clause-kept : goal.returns-clause-kept
returns-clause-kept c = subst (λ (l : List LeftStretch). IsLeftAt l c.args.value c.args.n.process c.args.n.place) (sym c.in_ok-push.ensures.items) (one_here c.args.left.now.items c.args.value c.args.n.process c.args.n.place)

pub returns-clause-only : goal.returns-clause-only
returns-clause-only c = subst (λ (l : List LeftStretch). KeepsOnly c.args.left.now.items l (IsOneStretch c.args.n c.args.value)) (sym c.in_ok-push.ensures.items) (keeps_one c.args.left.now.items c.args.n c.args.value)
