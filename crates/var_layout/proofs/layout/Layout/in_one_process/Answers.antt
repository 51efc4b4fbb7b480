use Rattle.std.proofs.Common.{sym}
use Rattle.var_layout.proofs.LayoutLemmas.{leaders_tell}
use Rattle.var_layout.proofs.layout.Layout.in_one_process.Goals as goal

pub returns-in-Some-Some : goal.returns-in-Some-Some
returns-in-Some-Some c = leaders_tell c.args.self.now c.args.i c.args.j c.in-Some-Some.first c.in-Some-Some.second (sym c.in-Some-Some.ensures) (sym c.in-Some-Some.ensures')
