use Rattle.std.proofs.Common.{ap, ◌∙◌, set}
use Rattle.dealing.proofs.ListLemmas.{take_set}
use Rattle.dealing.proofs.hands.Hands.put.Goals as goal

pub returns : goal.returns
returns c = take_set c.self.inside.workers c.self.inside.places c.args.worker c.args.hand ∙ ap (λ places. set places c.args.worker c.args.hand) c.self.view_is
