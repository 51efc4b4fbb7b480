use Rattle.std.proofs.Common.{◌<◌, ◌∙◌, length, sym, subst}
use Rattle.certificate.specs.Rechecked.{IsFirstWrong}
use Rattle.certificate.specs.declared.certificate.Section.{Section}
use Rattle.certificate.proofs.RecheckLemmas.{wrong_found, right_on, none_wrong, same_read}
use Rattle.certificate.proofs.rechecking.first_wrong.Goals as goal

pub loop-place-init : goal.loop-place-init
loop-place-init c = none_wrong c.args.count

pub returns-in-Some : goal.returns-in-Some
returns-in-Some c =
    let sections = c.args.sections.now in
    let one = c.index-sections-place.result in
    let below : c.loop-place.place < length sections = c.loop-place-test.true in
    subst (λ (s : Section). IsFirstWrong c.args.count sections c.in-Some.cause s.leaf) (c.index-sections-place.is ∙ same_read sections c.loop-place.place one c.index-sections-place-in-Some.result below)
    (wrong_found c.args.count sections c.loop-place.place one c.in-Some.cause below c.index-sections-place.is c.loop-place.invariant (sym c.fault_of.ensures ∙ c.in-Some.is))

pub loop-place-preserved : goal.loop-place-preserved
loop-place-preserved c =
    right_on c.args.count c.args.sections.now c.loop-place.place c.index-sections-place.result c.loop-place-test.true c.index-sections-place.is c.loop-place.invariant (sym c.fault_of.ensures ∙ c.in-None.is)
