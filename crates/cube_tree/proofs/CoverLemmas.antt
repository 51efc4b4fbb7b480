-- Each tree covers.
use Rattle.std.proofs.Common.{◌≡◌, ℕ, zero, suc, List, [], ◌∷◌, ◌++◌, map, Bool, true, false, refl, ap, sym, ◌∙◌, subst, inl, inr, append_assoc, append-nil}
use Rattle.std.specs.Prelude.{◌&&◌, not, ℤ, pos, neg_ℤ}
use Rattle.std.specs.List.{list_any}
use Rattle.std.proofs.lemmas.Bool.{and_parts, cases_Bool, false≢true}
use Rattle.std.proofs.lemmas.List.{map-append}
use Rattle.std.proofs.lemmas.List.Folds.{list_any-append}
use Rattle.std.proofs.lemmas.Bool.{or_from}
use Rattle.dimacs.specs.Assignment.{makes_true, makes_all}
use Rattle.cube_tree.specs.CubeTree.{CubeTree, leaf, split, is_variable, splits_variables, cubes_of}
use Rattle.cube_tree.specs.Covers.{MeetsOne, Covers}

-- cubes that begin with a literal
abbrev pub with_first : ℤ → List (List ℤ) → List (List ℤ)
with_first z cubes = map (λ (cube : List ℤ). z ∷ cube) cubes

met_true : (value : ℕ → Bool) (z : ℤ) (cubes : List (List ℤ)) → makes_true value z ≡ true → list_any (makes_all value) (with_first z cubes) ≡ list_any (makes_all value) cubes
met_true value z [] h = refl
met_true value z (cube ∷ cubes) h = (let first : makes_all value (z ∷ cube) ≡ makes_all value cube = ap (λ b. b && makes_all value cube) h in cc (first, met_true value z cubes h))

met_false : (value : ℕ → Bool) (z : ℤ) (cubes : List (List ℤ)) → makes_true value z ≡ false → list_any (makes_all value) (with_first z cubes) ≡ false
met_false value z [] h = refl
met_false value z (cube ∷ cubes) h = or_from _ _ (ap (λ b. b && makes_all value cube) h) (met_false value z cubes h)

-- one of the cubes is met, where the others are not and their first literal is true
meets_inside : (value : ℕ → Bool) (z : ℤ) (front cubes back : List (List ℤ)) → makes_true value z ≡ true → list_any (makes_all value) front ≡ false → list_any (makes_all value) back ≡ false →
    MeetsOne value cubes → MeetsOne value (front ++ (with_first z cubes ++ back))
meets_inside value z front cubes back h f b m =
    record {
      before = front ++ with_first z m.before;
      cube = z ∷ m.cube;
      after = with_first z m.after ++ back;
      parts = ap (λ cs. front ++ (with_first z cs ++ back)) m.parts
          ∙ ap (λ cs. front ++ (cs ++ back)) (map-append (λ (cube : List ℤ). z ∷ cube) m.before (m.cube ∷ m.after))
          ∙ ap (λ cs. front ++ cs) (append_assoc (with_first z m.before) (with_first z (m.cube ∷ m.after)) back)
          ∙ sym (append_assoc front (with_first z m.before) ((z ∷ m.cube) ∷ (with_first z m.after ++ back)));
      met = ap (λ t. t && makes_all value m.cube) h ∙ m.met;
      none_before = list_any-append (makes_all value) front (with_first z m.before) ∙ or_from _ _ f (met_true value z m.before h ∙ m.none_before);
      none_after = list_any-append (makes_all value) (with_first z m.after) back ∙ or_from _ _ (met_true value z m.after h ∙ m.none_after) b;
    }

-- a variable's negation is true where the variable is false
negated : (value : ℕ → Bool) (v : ℕ) → is_variable v ≡ true → makes_true value (neg_ℤ (pos v)) ≡ not (value v)
negated value zero h = absurd (false≢true h)
negated value (suc n) h = refl

pub tree_covers : (tree : CubeTree) → splits_variables tree ≡ true → Covers (cubes_of tree)
tree_covers leaf h value =
    record { before = []; cube = []; after = []; parts = refl; met = refl; none_before = refl; none_after = refl }
tree_covers (split v left right) h value =
    let parts = and_parts (is_variable v) (splits_variables left && splits_variables right) h in
    let below = and_parts (splits_variables left) (splits_variables right) parts.1 in
    elim (cases_Bool (value v)) [
      | inl high ↦ meets_inside value (pos v) [] (cubes_of left) (with_first (neg_ℤ (pos v)) (cubes_of right)) high refl
          (met_false value (neg_ℤ (pos v)) (cubes_of right) (negated value v parts.0 ∙ ap not high)) (tree_covers left below.0 value)
      | inr low ↦ subst (λ (cs : List (List ℤ)). MeetsOne value (with_first (pos v) (cubes_of left) ++ cs)) (append-nil (with_first (neg_ℤ (pos v)) (cubes_of right)))
          (meets_inside value (neg_ℤ (pos v)) (with_first (pos v) (cubes_of left)) (cubes_of right) [] (negated value v parts.0 ∙ ap not low)
          (met_false value (pos v) (cubes_of left) low) refl (tree_covers right below.1 value))
    ]
