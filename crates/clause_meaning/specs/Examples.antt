-- What the clauses of small traces say, as examples. Their clause lists are in `Examples.antt` of `clause_blocks`.
use Rattle.std.specs.Prelude.{List, [], ◌∷◌, true, false}
use Rattle.clause_meaning.specs.declared.meaning.ClauseMeaning.{ClauseMeaning}
use Rattle.clause_meaning.specs.declared.meaning.ClauseMeaning.TheVariants.{ProgramOrder, NoCycle, HasSource, NoSource, BeforeWriter, AfterSource, HasLast, NoLast, BeforeLast, BeforePair}

-- operations 0 and 2 write, and 1 and 3 read the initial value of the location that the other process writes
abbrev pub store_buffering_meanings : List ClauseMeaning
store_buffering_meanings = ProgramOrder 0 ∷ ProgramOrder 2 ∷
    NoCycle 0 1 2 false ∷ NoCycle 0 1 2 true ∷ NoCycle 0 1 3 false ∷ NoCycle 0 1 3 true ∷
    NoCycle 0 2 3 false ∷ NoCycle 0 2 3 true ∷ NoCycle 1 2 3 false ∷ NoCycle 1 2 3 true ∷
    HasSource 1 ∷ BeforeWriter 1 7 2 ∷ HasSource 3 ∷ BeforeWriter 3 8 0 ∷ []

-- update 0 reads the initial value or from update 1, update 1 from update 0, and update 1 leaves the final value
abbrev pub two_updates_meanings : List ClauseMeaning
two_updates_meanings = HasSource 0 ∷ BeforeWriter 0 2 1 ∷ AfterSource 0 3 1 ∷ HasSource 1 ∷ AfterSource 1 4 0 ∷ HasLast 0 ∷ BeforeLast 0 5 1 0 ∷ []

abbrev pub late_read_meanings : List ClauseMeaning
late_read_meanings = HasSource 1 ∷ BeforeWriter 1 2 0 ∷ BeforePair 0 1 ∷ []

abbrev pub lost_values_meanings : List ClauseMeaning
lost_values_meanings = NoSource 0 1 false ∷ NoSource 0 1 true ∷ NoLast 0 2 false ∷ NoLast 0 2 true ∷ []
