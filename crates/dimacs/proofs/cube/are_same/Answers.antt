use Rattle.std.proofs.lemmas.Slice.Eq.{slice_eq-Decides}
use Rattle.std.proofs.lemmas.Bool.Decides.{Decides-int_eq}
use Rattle.dimacs.proofs.cube.are_same.Goals as goal

pub returns : goal.returns
returns c = slice_eq-Decides Decides-int_eq c.args.first.now c.args.second.now c.eq.result c.eq.ensures
