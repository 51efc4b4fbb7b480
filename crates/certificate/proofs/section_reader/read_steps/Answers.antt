use Rattle.std.proofs.Common.{arith}
use Rattle.lrat_check.specs.LratFaults.{HasLratFault}
use Rattle.certificate.proofs.CertificateText.HeaderLemmas.{lrat_place}
use Rattle.certificate.proofs.section_reader.read_steps.Goals as goal

pub overflow_add-result : goal.overflow_add-result
overflow_add-result c =
    let fault : HasLratFault c.args.lines.now c.in-Err-At.field-0-0 c.in-Err-At.place = rw c.in-Err-At.field-0-is at c.in-Err-At.ensures.faulty in
    let most = lrat_place c.args.lines.now c.in-Err-At.field-0-0 c.in-Err-At.place fault in
    omega (arith, most, c.requires)
