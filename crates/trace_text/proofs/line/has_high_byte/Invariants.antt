use Rattle.std.proofs.Common.{◌≡◌, take, ltb}
use Rattle.std.specs.List.{list_any}
use Rattle.trace_text.specs.TraceFault.{is_high}
use Rattle.trace_text.proofs.line.has_high_byte.Given as goal

abbrev pub invariant-loop-byte : goal.invariant-loop-byte
invariant-loop-byte l = ltb 127 l.most ≡ list_any is_high (take l.byte-index l.line)
