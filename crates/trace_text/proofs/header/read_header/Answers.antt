use Rattle.std.proofs.Common.{◌≡◌, true, subst}
use Rattle.std.specs.Prelude.{Option, MatchOption}
use Rattle.text_lines.specs.Words.{words_of}
use Rattle.trace_text.specs.Header.{IsHeaderLine}
use Rattle.text_lines.specs.Kept.{is_skipped}
use Rattle.trace_text.proofs.LineWords.LineLemmas.{nothing_read, skipped_line, header_line_read}
use Rattle.trace_text.specs.declared.version.Version.{Version}
use Rattle.trace_text.proofs.header.read_header.Goals as goal

pub loop-line-init : goal.loop-line-init
loop-line-init c = nothing_read c.args.text.now

pub returns-in-Ok-Some-clause-read : goal.returns-in-Ok-Some-clause-read
returns-in-Ok-Some-clause-read c = header_line_read c.args.text.now c.loop-line.next c.loop-line.rest.now c.in-Some.line.now c.in-Some.after.now c.in-Ok-Some.version c.loop-line.invariant c.in-Some.ensures.lines c.in-Some.ensures.shorter (subst (λ (v : Option Version). MatchOption v (is_skipped (words_of c.in-Some.line.now) ≡ true) (λ version. IsHeaderLine c.in-Some.line.now version)) c.in-Ok-Some.field-0-is c.in-Ok-Some.ensures.read)

pub loop-line-preserved : goal.loop-line-preserved
loop-line-preserved c = skipped_line c.args.text.now c.loop-line.next c.loop-line.rest.now c.in-Some.line.now c.in-Some.after.now c.loop-line.invariant c.in-Some.ensures.lines c.in-Some.ensures.shorter (subst (λ (v : Option Version). MatchOption v (is_skipped (words_of c.in-Some.line.now) ≡ true) (λ version. IsHeaderLine c.in-Some.line.now version)) c.in-Ok-None.field-0-is c.in-Ok-None.ensures.read)
