use Rattle.stop_word.proofs.SeatLemmas.{AreCut}
use Rattle.stop_word.proofs.word.StopWord.open.Given as goal

abbrev pub invariant-loop : goal.invariant-loop
invariant-loop l = AreCut l.word-inside.table.shared.table_id l.counter l.first l.list.items
