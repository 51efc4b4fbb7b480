use Rattle.trace_text.proofs.LineWords.ReferenceLemmas.{nothing_looked_at, one_more_looked_at}
use Rattle.trace_text.proofs.references.check_lines.Goals as goal

pub loop-line-init : goal.loop-line-init
loop-line-init c = nothing_looked_at c.args.version c.args.processes.now c.args.text.now

pub loop-line-preserved : goal.loop-line-preserved
loop-line-preserved c = one_more_looked_at c.args.version c.args.processes.now c.args.text.now c.loop-line.next c.loop-line.rest.now c.in-Some.line.now c.in-Some.after.now c.loop-line.invariant c.in-Some.ensures.lines c.in-Some.ensures.shorter
    c.in_default-check_line.ensures.fine
