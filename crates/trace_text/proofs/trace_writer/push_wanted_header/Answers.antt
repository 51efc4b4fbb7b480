use Rattle.std.proofs.Common.{◌≡◌, ◌++◌, subst}
use Rattle.std.specs.Prelude.{OnOk}
use Rattle.trace_text.specs.declared.version.Version.{Version}
use Rattle.trace_text.specs.TraceText.{header_line}
use Rattle.trace_text.specs.TraceWritten.{line_text}
use Rattle.trace_text.proofs.trace_writer.push_wanted_header.Goals as goal

pub returns : goal.returns
returns c = subst (λ (version : Version). OnOk c.push_header.result (c.push_header.new.text.items ≡ c.args.text.now.items ++ line_text (header_line version))) c.in_ok-version.ensures c.push_header.ensures
