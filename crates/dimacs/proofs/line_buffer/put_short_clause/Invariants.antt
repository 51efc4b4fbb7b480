use Rattle.std.proofs.Common.{◌≡◌, ◌≤◌, ◌+◌, ◌*◌, ◌++◌, take}
use Rattle.std.specs.List.{flat_map}
use Rattle.dimacs.specs.CnfText.{literal_text}
use Rattle.dimacs.proofs.line_buffer.put_short_clause.Given as goal

abbrev pub invariant-loop-literal : goal.invariant-loop-literal
invariant-loop-literal l = record {
  within : l.end ≤ l.at + 10 * l.literal-index;
  written : take l.end l.buffer ≡ take l.at l.initial.buffer ++ flat_map literal_text (take l.literal-index l.literals);
}
