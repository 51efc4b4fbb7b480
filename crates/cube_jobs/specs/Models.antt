-- Models within a cube.
use Rattle.std.specs.Prelude.{◌≡◌, ℕ, ℤ, Bool, IsTrue, List}
use Rattle.dimacs.specs.Assignment.{value_of, makes_all}
use Rattle.dimacs.specs.Models.{IsModel}
use Rattle.cube_jobs.specs.declared.job.Settled.{Settled}
use Rattle.cube_jobs.specs.declared.outcome.Outcome.TheVariants.{Model}

-- the truth values are a model of the clauses, and make all literals of the cube true
pub record IsModelIn (clauses : List (List ℤ)) (cube : List ℤ) (value : ℕ → Bool) : Type 0 where
  pub model : IsModel value clauses
  pub inside : IsTrue (makes_all value cube)

-- the result is such a model for its cube
pub record IsModelResult (clauses : List (List ℤ)) (settled : Settled) : Type 0 where
  pub truth : List Bool
  pub said : settled.outcome ≡ Model truth
  pub confirmed : IsModelIn clauses settled.cube (value_of truth)
