-- A run with one place more.
use Rattle.std.specs.Prelude.{◌≡◌, ◌++◌, ◌∷◌, [], ℕ}
use Rattle.writer_table.specs.declared.runs.Run.{Run}

pub record IsLonger (old new : Run) (place : ℕ) : Type 0 where
  pub process : new.process ≡ old.process
  pub places : new.places ≡ old.places ++ place ∷ []
