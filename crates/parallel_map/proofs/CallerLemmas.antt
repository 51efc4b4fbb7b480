-- For callers: from what the function returns to what they say of the results.
use Rattle.std.proofs.Common.{List, [], ◌∷◌}
use Rattle.std.specs.List.{AllZip}
use Rattle.std.specs.Prelude.{Result, Ok, Err, IfOk}
use Rattle.std.specs.declared.vec.Vec.{Vec}

module _ {I T : Type 0} (R S : I → T → Type 0) (gives : (item : I) (result : T) → R item result → S item result) where
  each_is : (items : List I) (results : List T) → AllZip R items results → AllZip S items results
  each_is [] [] each = tt
  each_is [] (r ∷ results) each = absurd each
  each_is (x ∷ items) [] each = absurd each
  each_is (x ∷ items) (r ∷ results) each = (gives x r each.0, each_is items results each.1)

-- what follows for each result from what the function returns
pub all_are : {I T A E : Type 0} (items : List I) (answer : Result (Vec T A) E) (R S : I → T → Type 0) → IfOk answer (λ results. AllZip R items results.items)
    → ((item : I) (result : T) → R item result → S item result) → IfOk answer (λ results. AllZip S items results.items)
all_are items (Ok results) R S each gives = each_is R S gives items results.items each
all_are items (Err e) R S each gives = tt
