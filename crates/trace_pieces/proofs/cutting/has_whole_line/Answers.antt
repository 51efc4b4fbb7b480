use Rattle.trace_pieces.proofs.ScanLemmas.{whole_line}
use Rattle.trace_pieces.proofs.cutting.has_whole_line.Goals as goal

pub returns-in-Some : goal.returns-in-Some
returns-in-Some c = λ yes. whole_line c.args.text.now c.in-Some._end c.in-Some.ensures
