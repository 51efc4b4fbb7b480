use Rattle.std.proofs.Common.{subst}
use Rattle.text_lines.specs.Words.{words_of}
use Rattle.trace_semantics.specs.Trace.{TraceValue}
use Rattle.reason_text.specs.ReasonLine.{IsReasonLine}
use Rattle.reason_check.proofs.LineLemmas.{read_if_taken}
use Rattle.reason_check.proofs.RefusedLemmas.{refused_by_trace}
use Rattle.reason_check.proofs.clause_lines.read_and_take.Goals as goal

pub returns-clause-taken : goal.returns-clause-taken
returns-clause-taken c =
    read_if_taken c.args.trace.now (words_of c.args.line.now) c.in_ok-read.read c.args.list.now c.take_line.new.list (subst (λ (t : TraceValue). IsReasonLine t (words_of c.args.line.now) c.in_ok-read.read) c.requires.operations c.in_ok-read.ensures.read) c.take_line.result c.take_line.ensures.taken

pub returns-clause-refused : goal.returns-clause-refused
returns-clause-refused c =
    refused_by_trace c.args.trace.now (words_of c.args.line.now) c.in_ok-read.read c.args.tables.now.operations (subst (λ (t : TraceValue). IsReasonLine t (words_of c.args.line.now) c.in_ok-read.read) c.requires.operations c.in_ok-read.ensures.read) c.take_line.result c.take_line.ensures.refused
