use Rattle.std.proofs.Common.{sym, ◌∙◌, ap, arith}
use Rattle.stop_word.specs.Seats.{SeatValue}
use Rattle.stop_word.proofs.StepLemmas.{merges}
use Rattle.stop_word.proofs.word.StopWord.join.Goals as goal

pub join_seat-requires : goal.join_seat-requires
join_seat-requires c = (
  ap (λ (v : SeatValue). v.word) c.seat.view_is ∙ c.requires.word ∙ sym c.self.view_is,
  ap (λ (v : SeatValue). v.word) c.other.view_is ∙ c.requires.other ∙ sym c.self.view_is,
  c.other.invariant.1,
  omega (arith, c.self.invariant),
  merges _ _ _ _ c.seat.invariant.0,
)
