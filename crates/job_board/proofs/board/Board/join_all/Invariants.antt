use Rattle.std.proofs.Common.{◌≡◌, ◌++◌, length}
use Rattle.std.specs.Vec.Iter.{into_iter_items, into_iter_len}
use Rattle.crossbeam_channel.specs.Claims.{view, IsSeatAt}
use Rattle.crossbeam_channel.specs.Ends.{sends_on}
use Rattle.job_board.specs.ChannelRules.{list_in}
use Rattle.job_board.specs.Accounts.{AreJoined}
use Rattle.job_board.proofs.board.Board.join_all.Given as goal

abbrev pub invariant-loop-seat : goal.invariant-loop-seat
invariant-loop-seat g l =
    IsSeatAt (sends_on l.fn.self.job_sender) l.jobs × IsSeatAt (sends_on l.fn.self.result_sender) l.results
    × (l.fn.workers.items ≡ l.yielded ++ into_iter_items l.seat-iterator)
    × (into_iter_len l.seat-iterator ≡ length (into_iter_items l.seat-iterator))
    × AreJoined l.fn.self.cubes l.fn.self.workers (list_in (view l.fn.jobs)) (list_in (view l.fn.results)) l.yielded (view l.jobs) (view l.results) l.taken l.given
