use Rattle.std.proofs.Common.{◌≡◌, IfNone, sym, ◌∙◌, ap, subst, arith}
use Rattle.stop_word.specs.WordRule.{Fits, or_nothing}
use Rattle.stop_word.specs.Seats.{SeatValue, KnowsNothing}
use Rattle.stop_word.proofs.StepLemmas.{looks}
use Rattle.stop_word.proofs.LawLemmas.{word_small, shown_below, shown_none}
use Rattle.stop_word.proofs.word.StopWord.look.Goals as goal

pub load-found-requires : goal.load-found-requires
load-found-requires c = (
  ap (λ (v : SeatValue). v.word) c.seat.view_is ∙ c.requires ∙ sym c.self.view_is,
  omega (arith, c.self.invariant),
  looks _ _ _,
)

pub number_in-requires : goal.number_in-requires
number_in-requires c = (let told = c.load-found.ensures.2.0 in word_small _ told.0 told.2)

pub returns-clause-at_most : goal.returns-clause-at_most
returns-clause-at_most c =
    let told = c.load-found.ensures.2.0 in
    let f = told.2.each _ _ told.3 in
    let least : c.seat.inside.seat.me.0.least ≡ c.args.seat.now.knows.least = ap (λ (v : SeatValue). v.knows.least) c.seat.view_is in
    shown_below _ _ (omega (arith, c.number_in.ensures, f.at_most, least))

pub returns-clause-none : goal.returns-clause-none
returns-clause-none c =
    let told = c.load-found.ensures.2.0 in
    let f : Fits c.load-found.result c.seat.inside.seat.me.0 = told.2.each _ _ told.3 in
    let g : Fits (or_nothing c.number_in.result) c.seat.inside.seat.me.0 = subst (λ n. Fits n c.seat.inside.seat.me.0) (sym c.number_in.ensures) f in
    subst (λ (v : SeatValue). IfNone c.number_in.result (KnowsNothing v.knows)) c.seat.view_is (shown_none _ _ g)
