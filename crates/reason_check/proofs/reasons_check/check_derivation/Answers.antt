use Rattle.std.proofs.Common.{[], rules, subst, sym}
use Rattle.lrat_check.specs.Checked.{IsAccepted}
use Rattle.lrat_check.specs.LratText.{SpellsDerivation}
use Rattle.reason_check.specs.Refused.{IsRefusedDerivation}
use Rattle.reason_check.specs.declared.reasons_fault.ReasonsFault.{ReasonsFault}
use Rattle.reason_check.proofs.PlaceLemmas.{place_fits}
use Rattle.reason_check.proofs.RefusedLemmas.{refused_text}
use Rattle.reason_check.proofs.reasons_check.check_derivation.Goals as goal

pub returns-clause-refutes : goal.returns-clause-refutes
returns-clause-refutes c =
    let spelled : SpellsDerivation c.args.derivation.text.now c.in-Ok.steps = search rules in
    let accepted : IsAccepted c.args.list.clauses.items [] c.in-Ok.steps = search rules in
    (c.in-Ok.steps, spelled, accepted)

pub of_lrat-requires : goal.of_lrat-requires
of_lrat-requires c = place_fits c.args.derivation.text.now c.args.derivation.before c.requires.fits c.in-Err.fault c.in-Err.ensures.faulty

pub returns-in-Err-clause-refused : goal.returns-in-Err-clause-refused
returns-in-Err-clause-refused c =
    subst (λ (fault : ReasonsFault). IsRefusedDerivation c.args.list.clauses.items c.args.derivation.before c.args.derivation.text.now fault) (sym c.of_lrat.ensures)
    (refused_text c.args.list.clauses.items c.args.derivation.before c.args.derivation.text.now c.in-Err.fault c.in-Err.ensures.faulty)
