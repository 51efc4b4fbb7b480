use Rattle.std.proofs.Common.{◌∙◌, ap, ltb, arith}
use Rattle.trace_text.proofs.LineWords.HighLemmas.{high_more}
use Rattle.trace_text.proofs.line.has_high_byte.Goals as goal

pub loop-byte-preserved : goal.loop-byte-preserved
loop-byte-preserved c = ap (ltb 127) c.max-most.ensures ∙ high_more c.args.line.now c.loop-byte.byte-index c.loop-byte.most (omega arith) c.loop-byte.invariant
