use Rattle.std.proofs.Common.{subst}
use Rattle.lrat_check.specs.declared.propagation.ClauseStatus.{ClauseStatus}
use Rattle.lrat_check.specs.Standing.{IsStanding}
use Rattle.lrat_check.proofs.Justifying.PropagationLemmas.{first_unit}
use Rattle.lrat_check.proofs.propagation.with_unfalsified.Goals as goal

pub returns-in-Falsified : goal.returns-in-Falsified
returns-in-Falsified c = λ trues clause is un. first_unit trues clause c.args.literal (subst (λ (s : ClauseStatus). IsStanding trues clause s) c.in-Falsified.is is) un
