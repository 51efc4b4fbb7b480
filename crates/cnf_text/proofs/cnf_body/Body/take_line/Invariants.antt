use Rattle.std.proofs.Common.{length}
use Rattle.text_lines.specs.Words.{words_of}
use Rattle.cnf_text.proofs.CnfBodyLemmas.{IsWithinLine}
use Rattle.cnf_text.proofs.cnf_body.Body.take_line.Given as goal

abbrev pub invariant-loop-word : goal.invariant-loop-word
invariant-loop-word l = IsWithinLine (record { variables = l.counts.variables; clauses = l.counts.clauses }) l.number (words_of l.line) l.fn.self.clauses.items l.fn.self.begun.items (words_of l.rest) l.self.clauses.items l.self.begun.items

abbrev pub decreases-loop-word : goal.decreases-loop-word
decreases-loop-word l = length l.rest
