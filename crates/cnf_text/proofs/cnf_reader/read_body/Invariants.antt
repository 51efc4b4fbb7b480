use Rattle.std.proofs.Common.{◌+◌, ◌≤◌, length}
use Rattle.text_lines.specs.Lines.{lines_of}
use Rattle.cnf_text.proofs.CnfReaderLemmas.{IsReadSoFar}
use Rattle.cnf_text.proofs.cnf_reader.read_body.Given as goal

abbrev pub invariant-lines : goal.invariant-lines
invariant-lines l = record {
  read : IsReadSoFar (record { variables = l.counts.variables; clauses = l.counts.clauses }) l.first (lines_of l.fn.text) l.number (lines_of l.rest) l.body.clauses.items l.body.begun.items;
  behind : l.number + length l.rest ≤ l.first + length l.fn.text;
}

abbrev pub decreases-lines : goal.decreases-lines
decreases-lines l = length l.rest
