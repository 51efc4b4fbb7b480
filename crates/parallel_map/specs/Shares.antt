-- What workers have done of a list of items.
use Rattle.std.specs.Prelude.{◌≡◌, List, Some}
use Rattle.std.specs.List.{slice_get}
use Rattle.parallel_map.specs.declared.share.Done.{Done}

-- the result is related to the item at the place
abbrev pub IsOfItem : {I T : Type 0} → (I → T → Type 0) → List I → Done T → Type 0
IsOfItem {I} relation items done = (item : I) × (slice_get items done.place ≡ Some item) × relation item done.result
