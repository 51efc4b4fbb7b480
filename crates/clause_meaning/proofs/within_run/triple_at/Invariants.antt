use Rattle.std.proofs.Common.{◌≡◌}
use Rattle.std.specs.Prelude.{slice_get}
use Rattle.clause_meaning.specs.Meanings.{triples_from}
use Rattle.clause_meaning.proofs.TripleLemmas.{from_middle}
use Rattle.clause_meaning.proofs.within_run.triple_at.Given as goal

abbrev pub invariant-loop-j : goal.invariant-loop-j
invariant-loop-j l = slice_get (triples_from l.n l.i) l.place ≡ slice_get (from_middle l.n l.i l.j) l.rest
