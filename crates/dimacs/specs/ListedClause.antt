-- The literals of a clause that is lent or was made.
use Rattle.std.specs.Prelude.{ℤ, List}
use Rattle.dimacs.specs.declared.listed_clause.Literals.{Literals}
use Rattle.dimacs.specs.declared.listed_clause.Literals.TheVariants.{Lent, One, Two, Three}

-- the literals, wherever they are
abbrev pub literals_of : Literals → List ℤ
literals_of (Lent literals) = literals.now
literals_of (One places) = places
literals_of (Two places) = places
literals_of (Three places) = places
