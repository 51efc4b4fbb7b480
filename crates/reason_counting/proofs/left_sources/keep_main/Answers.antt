use Rattle.std.proofs.Common.{List, sym, subst, arith}
use Rattle.reason_counting.specs.declared.left_sources.LeftStretch.{LeftStretch}
use Rattle.reason_counting.specs.Left.{AreMore, IsMainLeft, IsMainStretch, KeepsOnly}
use Rattle.reason_counting.proofs.LeftLemmas.{keeps_main, stretch_more, stretch_here}
use Rattle.reason_counting.proofs.left_sources.keep_main.Goals as goal

pub returns-then-s-eq0-clause-kept : goal.returns-then-s-eq0-clause-kept
returns-then-s-eq0-clause-kept c k some low high = absurd (let none = c.if-s-eq0.true in omega (arith, some, none))

pub returns-clause-more : goal.returns-clause-more
returns-clause-more c = subst (λ (l : List LeftStretch). AreMore c.args.left.now.items l) (sym c.in_ok-push.ensures.items) (stretch_more c.args.left.now.items _)

pub returns-clause-kept : goal.returns-clause-kept
returns-clause-kept c = subst (λ (l : List LeftStretch). IsMainLeft l c.args.value c.args.process c.args.s) (sym c.in_ok-push.ensures.items) (stretch_here c.args.left.now.items c.args.value c.args.process c.args.s)

pub returns-clause-only : goal.returns-clause-only
returns-clause-only c =
    subst (λ (l : List LeftStretch). KeepsOnly c.args.left.now.items l (IsMainStretch c.args.value c.args.process c.args.s)) (sym c.in_ok-push.ensures.items) (keeps_main c.args.left.now.items c.args.value c.args.process c.args.s (let none = c.if-s-eq0.false in omega (arith, none)))
