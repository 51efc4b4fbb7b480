use Rattle.std.proofs.Common.{sym, subst}
use Rattle.text_lines.specs.Fault.{IsRefusal}
use Rattle.trace_text.specs.TraceFault.{HasTraceFault}
use Rattle.trace_text.proofs.LineWords.LineLemmas.{header_read, one_more_line, refused_at}
use Rattle.trace_text.specs.Version.{limits_of}
use Rattle.trace_text.proofs.trace_reader.read_body.Goals as goal

pub loop-line-init : goal.loop-line-init
loop-line-init c = header_read c.args.text.now c.args.header.now.version c.args.header.now.next c.args.header.now.rest.now c.new-reader.result c.requires (c.new-reader.ensures (limits_of c.args.header.now.version))

pub loop-line-preserved : goal.loop-line-preserved
loop-line-preserved c = one_more_line c.args.text.now c.args.header.now.version c.loop-line.next c.loop-line.rest.now c.loop-line.reader c.take_line.new.self c.in-Some.line.now c.in-Some.after.now c.loop-line.invariant c.in-Some.ensures.lines c.in-Some.ensures.shorter
    (c.in_default-take_line.ensures.taken c.loop-line.invariant.lines c.loop-line.invariant.ss c.loop-line.invariant.said c.loop-line.invariant.progress)

pub returns-in-Err-clause-refused : goal.returns-in-Err-clause-refused
returns-in-Err-clause-refused c = subst (λ fault. IsRefusal (HasTraceFault c.args.text.now) fault) (sym c.at.ensures) (refused_at c.args.text.now c.args.header.now.version c.loop-line.next c.loop-line.rest.now c.loop-line.reader c.in-Some.line.now c.in-Some.after.now c.in-Err.refusal c.loop-line.invariant c.in-Some.ensures.lines
    (c.in-Err.ensures.refused c.loop-line.invariant.lines c.loop-line.invariant.ss c.loop-line.invariant.said c.loop-line.invariant.progress))
