use Rattle.std.proofs.Common.{None}
use Rattle.std.proofs.lemmas.List.{take-replicate}
use Rattle.dealing.proofs.hands.Hands.new.Goals as goal

pub returns : goal.returns
returns c = take-replicate c.args.workers 8 None c.requires
