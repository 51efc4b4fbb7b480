use Rattle.std.proofs.Common.{sym, ◌∙◌, ap, arith}
use Rattle.stop_word.specs.Seats.{SeatValue}
use Rattle.stop_word.proofs.StepLemmas.{marks}
use Rattle.stop_word.proofs.word.StopWord.mark.Goals as goal

pub fetch_min-found-requires : goal.fetch_min-found-requires
fetch_min-found-requires c = (
  ap (λ (v : SeatValue). v.word) c.seat.view_is ∙ c.requires ∙ sym c.self.view_is,
  omega (arith, c.self.invariant),
  marks _ _ _ _ c.ranges.k.fits c.seat.invariant.0,
)
