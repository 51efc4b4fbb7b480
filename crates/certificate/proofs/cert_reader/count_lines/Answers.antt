use Rattle.std.proofs.Common.{arith}
use Rattle.certificate.proofs.CertificateText.HeaderLemmas.{line_count}
use Rattle.certificate.proofs.cert_reader.count_lines.Goals as goal

pub overflow_sub-result : goal.overflow_sub-result
overflow_sub-result c = let count = line_count c.args.tree.now in omega (arith, count, c.leaves.ensures)

pub returns-clause-lines : goal.returns-clause-lines
returns-clause-lines c = let count = line_count c.args.tree.now in omega (arith, count, c.leaves.ensures)
