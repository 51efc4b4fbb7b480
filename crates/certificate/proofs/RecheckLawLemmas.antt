-- The laws of certificates.
use Rattle.std.proofs.Common.{◌≡◌, ℕ, zero, suc, ◌+◌, ◌<◌, ◌≤◌, ℤ, List, [], ◌∷◌, ◌++◌, length, map, Bool, true, false, refl, ap, sym, ◌∙◌, subst, arith}
use Rattle.std.specs.Prelude.{Some, pos, neg_ℤ, ◌&&◌, nat_lt}
use Rattle.std.specs.List.{list_any, list_all, slice_get, AllZip}
use Rattle.std.proofs.lemmas.Bool.{and_parts, and_from, or_from, false≢true, ne_eqb, lt-ltb}
use Rattle.std.proofs.lemmas.List.Folds.{list_all-append}
use Rattle.std.proofs.lemmas.Option.{slice_get_within}
use Rattle.cube_tree.specs.CubeTree.{CubeTree, leaf, split, leaves, is_variable, splits_variables, cubes_of}
use Rattle.cube_tree.proofs.CoverLemmas.{tree_covers}
use Rattle.cube_tree.proofs.TreeLemmas.{cubes_counted}
use Rattle.dimacs.specs.Formula.{FormulaValue, is_formula}
use Rattle.dimacs.specs.Literal.{is_literal, is_clause}
use Rattle.dimacs.specs.Models.{IsModel}
use Rattle.lrat_check.specs.Checked.{IsAccepted}
use Rattle.lrat_check.specs.Derivation.{are_steps}
use Rattle.lrat_check.specs.declared.derivation.Step.{Step}
use Rattle.lrat_check.proofs.SoundLemmas.{no_model, formula_no_zero, cube_no_zero}
use Rattle.certificate.specs.CertWritten.{sections_from, certificate_of}
use Rattle.certificate.specs.Rechecked.{is_of, IsProved, IsRechecked, are_sections_of_clauses}
use Rattle.certificate.specs.declared.certificate.Certificate.{Certificate}
use Rattle.certificate.specs.declared.certificate.Section.{Section}

-- the cubes of a tree are clauses: no literal is 0
with_literal : (literal : ℤ) (cubes : List (List ℤ)) → is_literal literal ≡ true → list_all is_clause cubes ≡ true → list_all is_clause (map (λ cube. literal ∷ cube) cubes) ≡ true
with_literal literal [] h k = refl
with_literal literal (cube ∷ cubes) h k =
    let parts = and_parts (is_clause cube) (list_all is_clause cubes) k in
    and_from _ _ (and_from (is_literal literal) (is_clause cube) h parts.0) (with_literal literal cubes h parts.1)

negated : (v : ℕ) → is_variable v ≡ true → is_literal (neg_ℤ (pos v)) ≡ true
negated zero h = absurd (false≢true h)
negated (suc v) h = h

pub cubes_are_clauses : (tree : CubeTree) → splits_variables tree ≡ true → list_all is_clause (cubes_of tree) ≡ true
cubes_are_clauses leaf h = refl
cubes_are_clauses (split v left right) h =
    let parts = and_parts (is_variable v) (splits_variables left && splits_variables right) h in
    let below = and_parts (splits_variables left) (splits_variables right) parts.1 in
    list_all-append is_clause (map (λ (cube : List ℤ). pos v ∷ cube) (cubes_of left)) (map (λ (cube : List ℤ). neg_ℤ (pos v) ∷ cube) (cubes_of right))
    ∙ and_from _ _ (with_literal (pos v) (cubes_of left) parts.0 (cubes_are_clauses left below.0)) (with_literal (neg_ℤ (pos v)) (cubes_of right) (negated v parts.0) (cubes_are_clauses right below.1))

-- an element of a list passes
pub passes_at : {A : Type 0} (p : A → Bool) (before : List A) (x : A) (after : List A) → list_all p (before ++ x ∷ after) ≡ true → p x ≡ true
passes_at p [] x after h = (and_parts (p x) (list_all p after) h).0
passes_at p (y ∷ before) x after h = passes_at p before x after (and_parts (p y) (list_all p (before ++ x ∷ after)) h).1

at_place : {A : Type 0} (before : List A) (x : A) (after : List A) → slice_get (before ++ x ∷ after) (length before) ≡ Some x
at_place [] x after = refl
at_place (y ∷ before) x after = at_place before x after

-- where each leaf is proved, no model is left
pub no_model_anywhere : (formula : FormulaValue) (certificate : Certificate) (count : ℕ) → is_formula formula ≡ true → splits_variables certificate.tree ≡ true → are_sections_of_clauses certificate.sections ≡ true →
    IsRechecked formula.clauses certificate count → (value : ℕ → Bool) → IsModel value formula.clauses → ⊥
no_model_anywhere formula certificate count ok variables steps_ok h value model =
    let meets = tree_covers certificate.tree variables value in
    let there : slice_get (cubes_of certificate.tree) (length meets.before) ≡ Some meets.cube = ap (λ (cs : List (List ℤ)). slice_get cs (length meets.before)) meets.parts ∙ at_place meets.before meets.cube meets.after in
    let proved = h.proved (length meets.before) meets.cube there in
    let cube_ok : is_clause meets.cube ≡ true = passes_at is_clause meets.before meets.cube meets.after (ap (list_all is_clause) (sym meets.parts) ∙ cubes_are_clauses certificate.tree variables) in
    let derivation_ok : are_steps proved.section.derivation ≡ true =
    passes_at (λ (section : Section). are_steps section.derivation) proved.only.before proved.section proved.only.after (ap are_sections_of_clauses (sym proved.only.parts) ∙ steps_ok) in
    no_model formula.clauses meets.cube proved.section.derivation (formula_no_zero formula.variables formula.clauses ok) (cube_no_zero meets.cube cube_ok) derivation_ok proved.accepted value model meets.met

-- derivations for all leaves, in their order
none_of : (j k : ℕ) (derivations : List (List Step)) → j < k → list_any (is_of j) (sections_from k derivations) ≡ false
none_of j k [] below = refl
none_of j k (d ∷ ds) below = or_from _ _ (ne_eqb k j (λ e. absurd (omega (arith, below, e)))) (none_of j (suc k) ds (omega (arith, below)))

pub zipped : (clauses cubes : List (List ℤ)) (derivations : List (List Step)) (k j : ℕ) (cube : List ℤ) → AllZip (IsAccepted clauses) cubes derivations → slice_get cubes j ≡ Some cube →
    IsProved clauses (sections_from k derivations) (j + k) cube
zipped clauses [] ds k j cube h there = absurd (let short = slice_get_within [] j cube there in omega (arith, short))
zipped clauses (c ∷ cubes) [] k j cube h there = absurd h
zipped clauses (c ∷ cubes) (d ∷ ds) k zero cube h there =
    let same : c ≡ cube = cc in
    let here : k ≡ 0 + k = omega arith in
    let proved : IsProved clauses (sections_from k (d ∷ ds)) k cube = record {
      section = record { leaf = k; derivation = d };
      only = record { before = []; after = sections_from (suc k) ds; parts = refl; is = refl; none_before = refl; none_after = none_of k (suc k) ds (omega arith) };
      accepted = subst (λ (x : List ℤ). IsAccepted clauses x d) same h.0;
    } in
    subst (λ (n : ℕ). IsProved clauses (sections_from k (d ∷ ds)) n cube) here proved
zipped clauses (c ∷ cubes) (d ∷ ds) k (suc j) cube h there =
    let rest = zipped clauses cubes ds (suc k) j cube h.1 there in
    let number : j + suc k ≡ suc j + k = omega arith in
    record {
      section = rest.section;
      only = record {
        before = record { leaf = k; derivation = d } ∷ rest.only.before;
        after = rest.only.after;
        parts = ap (λ (ss : List Section). record { leaf = k; derivation = d } ∷ ss) rest.only.parts;
        is = rest.only.is ∙ number;
        none_before = or_from _ _ (ne_eqb k (suc j + k) (λ e. absurd (omega (arith, e)))) (subst (λ (n : ℕ). list_any (is_of n) rest.only.before ≡ false) number rest.only.none_before);
        none_after = subst (λ (n : ℕ). list_any (is_of n) rest.only.after ≡ false) number rest.only.none_after;
      };
      accepted = rest.accepted;
    }

all_known : (count k : ℕ) (cubes clauses : List (List ℤ)) (derivations : List (List Step)) → AllZip (IsAccepted clauses) cubes derivations → k + length cubes ≤ count →
    list_all (λ section. nat_lt section.leaf count) (sections_from k derivations) ≡ true
all_known count k [] clauses [] h few = refl
all_known count k [] clauses (d ∷ ds) h few = absurd h
all_known count k (c ∷ cubes) clauses [] h few = absurd h
all_known count k (c ∷ cubes) clauses (d ∷ ds) h few = and_from _ _ (lt-ltb k count (omega (arith, few))) (all_known count (suc k) cubes clauses ds h.1 (omega (arith, few)))

pub proofs_accepted : (clauses : List (List ℤ)) (tree : CubeTree) (derivations : List (List Step)) → AllZip (IsAccepted clauses) (cubes_of tree) derivations → IsRechecked clauses (certificate_of tree derivations) (leaves tree)
proofs_accepted clauses tree derivations h = record {
  counted = refl;
  known = all_known (leaves tree) 0 (cubes_of tree) clauses derivations h (omega (arith, cubes_counted tree));
  proved = λ j cube there.
      (let none : j + 0 ≡ j = omega arith in
      subst (λ (n : ℕ). IsProved clauses (sections_from 0 derivations) n cube) none (zipped clauses (cubes_of tree) derivations 0 j cube h there));
}
