use Rattle.std.proofs.Common.{◌≡◌, ◌∙◌, ap, arith}
use Rattle.stop_word.specs.WordRule.{least_of}
use Rattle.stop_word.specs.Seats.{SeatValue}
use Rattle.stop_word.proofs.StepLemmas.{ends}
use Rattle.stop_word.proofs.LawLemmas.{word_small}
use Rattle.stop_word.proofs.word.StopWord.close_with.Goals as goal

pub number_in-requires : goal.number_in-requires
number_in-requires c =
    let parts = ap (λ (v : SeatValue). v.knows.parts) c.seat.view_is ∙ c.requires.parts in
    let end = ends _ _ _ _ _ c.close_with-closed.ensures.values.2 parts c.word-word.ensures in
    word_small _ end.views end.meets

pub returns-clause-least : goal.returns-clause-least
returns-clause-least c =
    let parts = ap (λ (v : SeatValue). v.knows.parts) c.seat.view_is ∙ c.requires.parts in
    let end = ends _ _ _ _ _ c.close_with-closed.ensures.values.2 parts c.word-word.ensures in
    c.number_in.ensures ∙ end.least ∙ ap (λ (v : SeatValue). least_of v.knows.marks) c.seat.view_is

pub returns-clause-shown : goal.returns-clause-shown
returns-clause-shown c =
    let parts = ap (λ (v : SeatValue). v.knows.parts) c.seat.view_is ∙ c.requires.parts in
    let end = ends _ _ _ _ _ c.close_with-closed.ensures.values.2 parts c.word-word.ensures in
    let least : c.seat.inside.seat.me.0.least ≡ c.args.seat.knows.least = ap (λ (v : SeatValue). v.knows.least) c.seat.view_is in
    omega (arith, c.number_in.ensures, end.shown, least)
