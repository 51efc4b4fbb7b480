use Rattle.std.proofs.Common.{◌<◌, sym, ◌∙◌, ap, subst, arith}
use Rattle.stop_word.specs.Seats.{SeatValue}
use Rattle.stop_word.proofs.StepLemmas.{forks}
use Rattle.stop_word.proofs.word.StopWord.cut.Goals as goal

pub split_seat-requires : goal.split_seat-requires
split_seat-requires c = (
  ap (λ (v : SeatValue). v.word) c.seat.view_is ∙ c.requires.word ∙ sym c.self.view_is,
  omega (arith, c.self.invariant),
  forks _ _ (subst (λ (v : SeatValue). 1 < v.knows.parts) (sym c.seat.view_is) c.requires.parts),
)
