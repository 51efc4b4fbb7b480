use Rattle.dealing.specs.Machine.{empty_machine}
use Rattle.dealing.specs.Run.{run, accepted}
use Rattle.dealing.proofs.RunLemmas.{counted}
use Rattle.dealing.proofs.DealtLemmas.{dealt}
use Rattle.dealing.proofs.laws.every_run.Goals as goal

pub returns : goal.returns
returns c = λ workers events. dealt (accepted (empty_machine workers) events) (run (empty_machine workers) events) (counted workers events)
