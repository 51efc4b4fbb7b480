use Rattle.std.proofs.Common.{arith}
use Rattle.cube_tree.specs.TreeFault.{HasTreeFault}
use Rattle.certificate.proofs.CertificateText.HeaderLemmas.{tree_place}
use Rattle.certificate.proofs.cert_reader.read_tree_behind.Goals as goal

pub overflow_add-result : goal.overflow_add-result
overflow_add-result c =
    let fault : HasTreeFault c.args.text.now c.in-Err-At.cause c.in-Err-At.place = rw c.in-Err-At.field-0-is at c.in-Err-At.ensures.faulty in
    let most = tree_place c.args.text.now c.in-Err-At.cause c.in-Err-At.place fault in
    omega (arith, most, c.requires)
