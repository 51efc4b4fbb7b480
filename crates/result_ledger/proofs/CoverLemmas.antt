-- What a verdict says of models, where the cubes cover.
use Rattle.std.proofs.Common.{◌≡◌, ℕ, ℤ, Bool, true, List, [], ◌∷◌, ◌++◌, map, length, Some, refl, sym, ◌∙◌, inl, inr, subst}
use Rattle.std.specs.List.{list_all, Contains, slice_get}
use Rattle.std.proofs.lemmas.Option.{slice_get_within, get_or_from_slice_get}
use Rattle.trace_semantics.proofs.ElementLemmas.{all_pass, to_map}
use Rattle.cube_tree.specs.Covers.{Covers}
use Rattle.dimacs.specs.Assignment.{makes_all}
use Rattle.dimacs.specs.Formula.{FormulaValue, is_formula}
use Rattle.dimacs.specs.Literal.{is_clause}
use Rattle.dimacs.specs.Models.{IsModel}
use Rattle.lrat_check.proofs.DerivationText.LratWrittenLemmas.{steps_add_clauses}
use Rattle.lrat_check.proofs.SoundLemmas.{no_model, formula_no_zero, cube_no_zero}
use Rattle.result_ledger.specs.declared.slot.Slot.{Slot}
use Rattle.result_ledger.specs.declared.verdict.Verdict.TheVariants.{Inconsistent, Unknown}
use Rattle.result_ledger.specs.Ledger.{cubes_in}
use Rattle.cube_jobs.specs.Models.{IsModelIn}
use Rattle.result_ledger.specs.Verdict.{HasProofAt, IsVerdict}

-- the element between the two parts of a list, at its place
pub in_parts : {X Y : Type 0} (f : X → Y) (xs : List X) (before : List Y) (y : Y) (after : List Y) → map f xs ≡ before ++ y ∷ after → (x : X) × (slice_get xs (length before) ≡ Some x) × (f x ≡ y)
in_parts f [] [] y after e = absurd (cc)
in_parts f [] (z ∷ before) y after e = absurd (cc)
in_parts f (x ∷ xs) [] y after e = (x, refl, (let head : f x ≡ y = cc in head))
in_parts f (x ∷ xs) (z ∷ before) y after e = in_parts f xs before y after (let tail : map f xs ≡ before ++ y ∷ after = cc in tail)

-- a leaf whose cube these truth values make true
record MeetsLeaf (slots : List Slot) (value : ℕ → Bool) : Type 0 where
  leaf : ℕ
  slot : Slot
  there : slice_get slots leaf ≡ Some slot
  met : makes_all value slot.cube ≡ true

meets_leaf : (slots : List Slot) → Covers (cubes_in slots) → (value : ℕ → Bool) → MeetsLeaf slots value
meets_leaf slots covers value =
    let meets = covers value in
    let (slot, there, same) = in_parts (λ (x : Slot). x.cube) slots meets.before meets.cube meets.after meets.parts in
    record { leaf = length meets.before; slot = slot; there = there; met = subst (λ (cube : List ℤ). makes_all value cube ≡ true) (sym same) meets.met }

-- a leaf's answer that is accepted leaves no model in its cube
proof_has_no_model : (formula : FormulaValue) (slots : List Slot) (leaf : ℕ) (slot : Slot) → is_formula formula ≡ true → list_all is_clause (cubes_in slots) ≡ true → slice_get slots leaf ≡ Some slot →
    HasProofAt formula.clauses slots leaf → (value : ℕ → Bool) → IsModel value formula.clauses → makes_all value slot.cube ≡ true → ⊥
proof_has_no_model formula slots leaf slot ok cubes_ok there h value model met =
    let slots_same : Some slot ≡ Some h.slot = sym there ∙ h.there in
    let same : slot ≡ h.slot = cc slots_same in
    let inside : Contains slots h.slot = at_place slots leaf h.slot h.there in
    let cube_ok : is_clause h.slot.cube ≡ true = all_pass is_clause (cubes_in slots) cubes_ok h.slot.cube (to_map (λ (x : Slot). x.cube) slots h.slot inside) in
    no_model formula.clauses h.slot.cube h.holds.steps (formula_no_zero formula.variables formula.clauses ok) (cube_no_zero h.slot.cube cube_ok) (steps_add_clauses h.holds.steps h.holds.confirmed.written) h.holds.confirmed.accepted
    value model (subst (λ (x : Slot). makes_all value x.cube ≡ true) same met)
  where
    at_place : (xs : List Slot) (k : ℕ) (x : Slot) → slice_get xs k ≡ Some x → Contains xs x
    at_place xs k x e = (k, slice_get_within xs k x e, get_or_from_slice_get xs k x x e)

pub no_model_anywhere : (formula : FormulaValue) (slots : List Slot) (count : ℕ) → is_formula formula ≡ true → list_all is_clause (cubes_in slots) ≡ true → Covers (cubes_in slots) →
    IsVerdict formula.clauses slots (Inconsistent count) → (value : ℕ → Bool) → IsModel value formula.clauses → ⊥
no_model_anywhere formula slots count ok cubes_ok covers h value model =
    let meets = meets_leaf slots covers value in
    proof_has_no_model formula slots meets.leaf meets.slot ok cubes_ok meets.there (h.1 meets.leaf (slice_get_within slots meets.leaf meets.slot meets.there)) value model meets.met

pub model_in_listed : (formula : FormulaValue) (slots : List Slot) (leaves : List ℕ) → is_formula formula ≡ true → list_all is_clause (cubes_in slots) ≡ true → Covers (cubes_in slots) →
    IsVerdict formula.clauses slots (Unknown leaves) → (value : ℕ → Bool) → IsModel value formula.clauses →
    (leaf : ℕ) × (slot : Slot) × Contains leaves leaf × (slice_get slots leaf ≡ Some slot) × IsModelIn formula.clauses slot.cube value
model_in_listed formula slots leaves ok cubes_ok covers h value model =
    let meets = meets_leaf slots covers value in
    elim (h.1.every meets.leaf (slice_get_within slots meets.leaf meets.slot meets.there)) [
      | inl proved ↦ absurd (proof_has_no_model formula slots meets.leaf meets.slot ok cubes_ok meets.there proved value model meets.met)
      | inr listed ↦ (meets.leaf, meets.slot, listed, meets.there, record { model = model; inside = meets.met })
    ]
