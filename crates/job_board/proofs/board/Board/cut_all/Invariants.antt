use Rattle.std.proofs.Common.{◌≡◌, ◌≤◌, []}
use Rattle.crossbeam_channel.specs.Claims.{view, IsSeatAt}
use Rattle.crossbeam_channel.specs.Ends.{sends_on}
use Rattle.job_board.specs.declared.channel_view.ChannelView.TheVariants.{Single}
use Rattle.job_board.proofs.OpenLemmas.{AreCut}
use Rattle.job_board.proofs.board.Board.cut_all.Given as goal

abbrev pub invariant-loop-number : goal.invariant-loop-number
invariant-loop-number l =
    IsSeatAt (sends_on l.fn.self.job_sender) l.jobs × (view l.jobs ≡ Single [] l.number [])
    × IsSeatAt (sends_on l.fn.self.result_sender) l.results × (view l.results ≡ Single [] l.number [])
    × AreCut l.fn.self l.number l.seats.items
    × (l.number ≤ l.fn.self.workers)
