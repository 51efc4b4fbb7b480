-- How hints are kept.
use Rattle.std.specs.Prelude.{ℤ, List}
use Rattle.lrat_check.specs.declared.hints.NumberList.{NumberList}
use Rattle.lrat_check.specs.declared.hints.NumberList.TheVariants.{Few, Short, Long}

-- the numbers, whatever room each of them has
abbrev pub numbers_in : NumberList → List ℤ
numbers_in (Few few) = few
numbers_in (Short short) = short.items
numbers_in (Long long) = long.items
