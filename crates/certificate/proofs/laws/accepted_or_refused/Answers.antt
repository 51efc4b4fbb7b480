use Rattle.std.proofs.Common.{◌≡◌, ◌⊎◌, ℕ, zero, suc, ◌<◌, ◌≤◌, ℤ, List, [], ◌∷◌, length, Bool, true, false, refl, ap, sym, subst, inl, inr, arith}
use Rattle.std.specs.Prelude.{Some, ◌||◌}
use Rattle.std.specs.List.{list_any, slice_get}
use Rattle.std.proofs.lemmas.Bool.{or_from, eqb-true, true≢false, false≢true}
use Rattle.text_lines.proofs.FaultLemmas.{either}
use Rattle.cube_tree.specs.CubeTree.{leaves, cubes_of}
use Rattle.cube_tree.proofs.TreeLemmas.{cubes_counted}
use Rattle.lrat_check.proofs.RefusalLemmas as lrat
use Rattle.certificate.specs.Rechecked.{is_of, IsFirstOf, IsRechecked, section_fault, AreRight, HaveSections, IsFirstMissing, AreProvedBelow, IsFirstRefused, HasRecheckFault}
use Rattle.certificate.specs.declared.cert_fault.CertCause.{CertCause}
use Rattle.certificate.specs.declared.cert_fault.CertCause.TheVariants.{Missing, Derivation}
use Rattle.certificate.specs.declared.certificate.Certificate.{Certificate}
use Rattle.certificate.specs.declared.certificate.Section.{Section}
use Rattle.certificate.proofs.RecheckLemmas.{add_one, have_on, have_none, proved_on, proved_none, refused_found, rechecked}
use Rattle.certificate.proofs.RefusalLemmas.{cube_at}
use Rattle.certificate.proofs.laws.accepted_or_refused.Goals as goal

-- Each certificate is accepted or refused.

-- the leaves up to this one have sections, or one is missing
missing_below : (sections : List Section) (end : ℕ) → HaveSections end sections ⊎ ((leaf : ℕ) × IsFirstMissing end sections leaf)
missing_below sections zero = inl (have_none sections)
missing_below sections (suc end) = elim (missing_below sections end) [
  | inl every ↦ here (list_any (is_of end) sections) refl every
  | inr (leaf, f) ↦ inr (leaf, record { within = (let low = f.within in omega (arith, low)); missing = f.missing; lowest = f.lowest })
]
  where
    here : (b : Bool) → list_any (is_of end) sections ≡ b → HaveSections end sections → HaveSections (suc end) sections ⊎ ((leaf : ℕ) × IsFirstMissing (suc end) sections leaf)
    here true e every = inl (subst (λ (n : ℕ). HaveSections n sections) (add_one end) (have_on end sections every e))
    here false e every = inr (end, record { within = omega arith; missing = e; lowest = every })

-- where the first does not hold, the second does
second : (a b : Bool) → a ≡ false → (a || b) ≡ true → b ≡ true
second true b f h = absurd (true≢false f)
second false b f h = h

-- the first section of a leaf that has one
first_of : (sections : List Section) (leaf : ℕ) → list_any (is_of leaf) sections ≡ true → (section : Section) × IsFirstOf sections leaf section
first_of [] leaf h = absurd (false≢true h)
first_of (x ∷ xs) leaf h = here (is_of leaf x) refl (first_of xs leaf)
  where
    here : (b : Bool) → is_of leaf x ≡ b → (list_any (is_of leaf) xs ≡ true → (section : Section) × IsFirstOf xs leaf section) → (section : Section) × IsFirstOf (x ∷ xs) leaf section
    here true e rest = (x, record { before = []; after = xs; parts = refl; is = eqb-true x.leaf leaf e; none_before = refl })
    here false e rest =
        let (section, f) = rest (second (is_of leaf x) (list_any (is_of leaf) xs) e h) in
        (section, record { before = x ∷ f.before; after = f.after; parts = ap (λ (ss : List Section). x ∷ ss) f.parts; is = f.is; none_before = or_from (is_of leaf x) (list_any (is_of leaf) f.before) e f.none_before })

-- the leaves below this one are proved, or the derivation of one is refused
refused_below : (clauses cubes : List (List ℤ)) (sections : List Section) → AreRight (length cubes) sections → HaveSections (length cubes) sections → (end : ℕ) → end ≤ length cubes →
    AreProvedBelow clauses cubes sections end ⊎ ((leaf : ℕ) × IsFirstRefused clauses cubes sections leaf)
refused_below clauses cubes sections right every zero few = inl (proved_none clauses cubes sections)
refused_below clauses cubes sections right every (suc end) few = elim (refused_below clauses cubes sections right every end (omega (arith, few))) [
  | inl proved ↦ here proved (cube_at cubes end (omega (arith, few))) (first_of sections end (every end (omega (arith, few))))
  | inr refused ↦ inr refused
]
  where
    here : AreProvedBelow clauses cubes sections end → (cube : List ℤ) × (slice_get cubes end ≡ Some cube) → (section : Section) × IsFirstOf sections end section →
        AreProvedBelow clauses cubes sections (suc end) ⊎ ((leaf : ℕ) × IsFirstRefused clauses cubes sections leaf)
    here proved (cube, there) (section, first) = elim (lrat.always_one clauses cube section.derivation) [
      | inl accepted ↦ inl (subst (λ (n : ℕ). AreProvedBelow clauses cubes sections n) (add_one end) (proved_on clauses cubes sections (length cubes) end cube section right there first accepted proved))
      | inr (fault, step, refused) ↦ inr (end, refused_found clauses cubes sections (length cubes) end cube section fault step right there first refused proved)
    ]

-- with the sections nothing is wrong
right_sections : (clauses : List (List ℤ)) (certificate : Certificate) → AreRight (leaves certificate.tree) certificate.sections →
    ((count : ℕ) × IsRechecked clauses certificate count) ⊎ ((cause : CertCause) × (leaf : ℕ) × HasRecheckFault clauses certificate cause leaf)
right_sections clauses certificate right = elim (missing_below certificate.sections (leaves certificate.tree)) [
  | inl every ↦ derivations every
  | inr (leaf, missing) ↦ inr (Missing, leaf, inr (inl (refl, right, missing)))
]
  where
    derivations : HaveSections (leaves certificate.tree) certificate.sections → ((count : ℕ) × IsRechecked clauses certificate count) ⊎ ((cause : CertCause) × (leaf : ℕ) × HasRecheckFault clauses certificate cause leaf)
    derivations every =
        let cubes = cubes_of certificate.tree in
        let counted : leaves certificate.tree ≡ length cubes = sym (cubes_counted certificate.tree) in
        let right_cubes : AreRight (length cubes) certificate.sections = subst (λ (n : ℕ). AreRight n certificate.sections) counted right in
        let every_cube : HaveSections (length cubes) certificate.sections = subst (λ (n : ℕ). HaveSections n certificate.sections) counted every in
        elim (refused_below clauses cubes certificate.sections right_cubes every_cube (length cubes) (omega arith)) [
          | inl proved ↦ inl (leaves certificate.tree, rechecked clauses certificate cubes refl right proved)
          | inr (leaf, refused) ↦ inr (Derivation, leaf, inr (inr (refl, right, every, refused)))
        ]

always_one : (clauses : List (List ℤ)) (certificate : Certificate) →
    ((count : ℕ) × IsRechecked clauses certificate count) ⊎ ((cause : CertCause) × (leaf : ℕ) × HasRecheckFault clauses certificate cause leaf)
always_one clauses certificate = elim (either (section_fault (leaves certificate.tree)) certificate.sections) [
  | inl right ↦ right_sections clauses certificate right
  | inr (place, cause, f) ↦ inr (cause, f.item.leaf, inl (record { place = place; fault = f; leaf_is = refl }))
]

pub returns : goal.returns
returns c = always_one
