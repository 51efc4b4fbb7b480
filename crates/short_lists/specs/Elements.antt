-- The elements of a list.
use Rattle.std.specs.Prelude.{ℕ, List}
use Rattle.short_lists.specs.declared.short_list.Place.{Place}
use Rattle.short_lists.specs.declared.short_list.Place.TheVariants.{Inline, Allocated}

-- the elements, wherever they lie
abbrev pub elements_of : {T : Type 0} → {N : ℕ} → Place T N → List T
elements_of (Inline list) = list
elements_of (Allocated list) = list.items
