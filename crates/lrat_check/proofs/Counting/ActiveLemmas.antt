-- Active clauses, one by one.
use Rattle.std.proofs.Common.{◌≡◌, ℕ, zero, suc, ◌-◌, ◌<◌, ◌≤◌, Bool, true, false, cond, List, [], ◌∷◌, ◌++◌, length, map, get_or, refl, ap, sym, ◌∙◌, ◌||◌, arith}
use Rattle.std.specs.Prelude.{ℤ, Option, Some, None}
use Rattle.std.specs.List.{slice_get}
use Rattle.std.specs.Option.{option_or}
use Rattle.lrat_check.specs.Active.{at_start}

-- what is kept is hidden under the id, and another clause is added there, or none
pub inserted : (b : Bool) (kept added : Option (List ℤ)) (clause : List ℤ) → option_or (cond (b || false) None kept) (cond b (Some clause) added) ≡ cond b (Some clause) (option_or kept added)
inserted true kept added clause = refl
inserted false kept added clause = refl

pub removed : (b : Bool) (kept added : Option (List ℤ)) → option_or (cond (b || false) None kept) (cond (b || false) None added) ≡ cond (b || false) None (option_or kept added)
removed true kept added = refl
removed false kept added = refl

-- a clause after the formula's
pub behind : (xs ys : List (List ℤ)) (p : ℕ) → length xs ≤ p → slice_get (xs ++ ys) p ≡ slice_get ys (p - length xs)
behind [] ys p h = ap (slice_get ys) (omega arith)
behind (x ∷ xs) ys zero h = absurd (omega (arith, h))
behind (x ∷ xs) ys (suc p) h = behind xs ys p (omega (arith, h)) ∙ ap (slice_get ys) (omega arith)

abbrev pub unit_of : ℤ → List ℤ
unit_of literal = literal ∷ []

unit_at : (cube : List ℤ) (k : ℕ) (z : ℤ) → k < length cube → z ≡ get_or cube k z → slice_get (map unit_of cube) k ≡ Some (z ∷ [])
unit_at [] k z h e = absurd (omega (arith, h))
unit_at (y ∷ cube) zero z h e = ap (λ x. Some (x ∷ [])) (sym e)
unit_at (y ∷ cube) (suc k) z h e = unit_at cube k z (omega (arith, h)) e

no_unit_at : (cube : List ℤ) (k : ℕ) → length cube ≤ k → slice_get (map unit_of cube) k ≡ None
no_unit_at [] k h = refl
no_unit_at (y ∷ cube) zero h = absurd (omega (arith, h))
no_unit_at (y ∷ cube) (suc k) h = no_unit_at cube k (omega (arith, h))

-- the cube's literals stand after the formula's clauses
pub cube_at : (clauses : List (List ℤ)) (cube : List ℤ) (id : ℕ) (z : ℤ) → 1 ≤ id → length clauses ≤ id - 1 → id - 1 - length clauses < length cube → z ≡ get_or cube (id - 1 - length clauses) z →
    at_start clauses cube id ≡ Some (z ∷ [])
cube_at clauses cube zero z above past within e = absurd (omega (arith, above))
cube_at clauses cube (suc p) z above past within e =
    let place : suc p - 1 ≡ p = omega arith in
    behind clauses (map unit_of cube) p (omega (arith, past))
    ∙ unit_at cube (p - length clauses) z (omega (arith, within)) (e ∙ ap (λ k. get_or cube (k - length clauses) z) place)

-- and nothing after these
pub nothing_at : (clauses : List (List ℤ)) (cube : List ℤ) (id : ℕ) → 1 ≤ id → length clauses ≤ id - 1 → length cube ≤ id - 1 - length clauses → at_start clauses cube id ≡ None
nothing_at clauses cube zero above past none = absurd (omega (arith, above))
nothing_at clauses cube (suc p) above past none = behind clauses (map unit_of cube) p (omega (arith, past)) ∙ no_unit_at cube (p - length clauses) (omega (arith, none))
