use Rattle.std.proofs.Common.{sym, ◌∙◌, arith}
use Rattle.var_layout.proofs.NumberLemmas.{number_here}
use Rattle.var_layout.proofs.numbering.Numbering.number_of.Goals as goal

pub returns-then-is_named : goal.returns-then-is_named
returns-then-is_named c = number_here c.args.self.now c.args.name.now c.loop-i.i (omega (arith, c.loop-i.auto.i-end, c.count-count.ensures)) c.loop-i.invariant (λ l. sym c.is_named.ensures ∙ c.if-is_named.true)

pub returns : goal.returns
returns c = number_here c.args.self.now c.args.name.now c.count-count.result (omega (arith, c.count-count.ensures)) (λ k l. c.loop-i.invariant k (omega (arith, l, c.loop-i-test.false))) (λ l. absurd (omega (arith, l, c.count-count.ensures)))
