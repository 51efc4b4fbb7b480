use Rattle.std.proofs.Common.{arith}
use Rattle.clause_blocks.proofs.ClauseList.ListLemmas.{piece_count}
use Rattle.clause_blocks.proofs.pieces.Pieces.piece_of_transitivity.Goals as goal

pub returns-clause-within : goal.returns-clause-within
returns-clause-within c = omega (arith, piece_count c.args.self.now)
