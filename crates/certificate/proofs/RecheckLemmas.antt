-- Sections and their leaves.
use Rattle.std.proofs.Common.{◌≡◌, ◌⊎◌, ℕ, zero, suc, ◌+◌, ◌<◌, ℤ, List, [], ◌∷◌, ◌++◌, length, take, drop, get_or, Bool, true, false, cond, refl, ap, sym, ◌∙◌, subst, inl, inr, arith, append_assoc, take-append-drop}
use Rattle.std.specs.Prelude.{Some, None, ◌||◌, nat_lt, nat_le}
use Rattle.std.specs.List.{list_any, list_all, slice_get}
use Rattle.std.proofs.Math.Seq.{take-suc, drop-cons}
use Rattle.std.proofs.lemmas.Bool.{or_from, and_from, true≢false, eqb-true, eq-eqb, leb-false, lt-ltb}
use Rattle.std.proofs.lemmas.List.{length-take}
use Rattle.std.proofs.lemmas.Option.{slice_get_within}
use Rattle.text_lines.proofs.FaultLemmas.{faultless_push, faultless_nil, none_is_some}
use Rattle.cube_tree.specs.CubeTree.{leaves, cubes_of}
use Rattle.lrat_check.specs.Checked.{IsAccepted, IsRefused}
use Rattle.lrat_check.specs.declared.refusal.StepFault.{StepFault}
use Rattle.certificate.specs.Rechecked.{is_of, IsOnlyOf, IsFirstOf, IsProved, IsRechecked, section_fault, AreRight, IsFirstWrong, HaveSections, AreProvedBelow, IsFirstRefused}
use Rattle.certificate.specs.declared.cert_fault.CertCause.{CertCause}
use Rattle.certificate.specs.declared.cert_fault.CertCause.TheVariants.{Stranger, Double}
use Rattle.certificate.specs.declared.certificate.Certificate.{Certificate}
use Rattle.certificate.specs.declared.certificate.Section.{Section}

pub add_one : (n : ℕ) → n + 1 ≡ suc n
add_one n = omega arith

-- a list around one of its elements
pub around : {A : Type 0} (xs : List A) (k : ℕ) (x : A) → k < length xs → x ≡ get_or xs k x → xs ≡ take k xs ++ x ∷ drop (k + 1) xs
around xs k x below is =
    sym (take-append-drop k xs) ∙ ap (λ l. take k xs ++ l) (drop-cons xs k x below ∙ (λ i. sym is i ∷ drop (sym (add_one k) i) xs))

pub taken_on : {A : Type 0} (xs : List A) (k : ℕ) (x : A) → k < length xs → x ≡ get_or xs k x → take (k + 1) xs ≡ take k xs ++ x ∷ []
taken_on xs k x below is = ap (λ n. take n xs) (add_one k) ∙ take-suc xs k x below ∙ ap (λ y. take k xs ++ y ∷ []) (sym is)

pub taken : {A : Type 0} (xs : List A) (k : ℕ) → k < length xs → length (take k xs) ≡ k
taken xs k below = omega (arith, length-take k xs, below)

-- the first section with which something is wrong
pub wrong_found : (count : ℕ) (sections : List Section) (place : ℕ) (section : Section) (cause : CertCause) → place < length sections → section ≡ get_or sections place section → AreRight count (take place sections) →
    section_fault count (take place sections) section ≡ Some cause → IsFirstWrong count sections cause section.leaf
wrong_found count sections place section cause below is right faulty = record {
  place = place + 1;
  fault = record {
    before = take place sections;
    item = section;
    after = drop (place + 1) sections;
    parts = around sections place section below is;
    counted = omega (arith, taken sections place below);
    faulty = faulty;
    first = right;
  };
  leaf_is = refl;
}

pub right_on : (count : ℕ) (sections : List Section) (place : ℕ) (section : Section) → place < length sections → section ≡ get_or sections place section → AreRight count (take place sections) →
    section_fault count (take place sections) section ≡ None → AreRight count (take (place + 1) sections)
right_on count sections place section below is right clear =
    subst (λ (ss : List Section). AreRight count ss) (sym (taken_on sections place section below is)) (faultless_push (section_fault count) (take place sections) section right clear)

pub none_wrong : (count : ℕ) → AreRight count []
none_wrong count = faultless_nil (section_fault count)

-- the next leaf
below_next : (j k : ℕ) → j < k + 1 → (j < k) ⊎ (j ≡ k)
below_next zero zero h = inr refl
below_next zero (suc k) h = inl (omega arith)
below_next (suc j) zero h = absurd (omega (arith, h))
below_next (suc j) (suc k) h = elim (below_next j k (omega (arith, h))) [ inl l ↦ inl (omega (arith, l)) | inr e ↦ inr (ap suc e) ]

pub have_on : (leaf : ℕ) (sections : List Section) → HaveSections leaf sections → list_any (is_of leaf) sections ≡ true → HaveSections (leaf + 1) sections
have_on leaf sections h here other below = elim (below_next other leaf below) [
  | inl l ↦ h other l
  | inr e ↦ ap (λ (n : ℕ). list_any (is_of n) sections) e ∙ here
]

pub have_none : (sections : List Section) → HaveSections 0 sections
have_none sections other below = absurd (omega (arith, below))

-- the first section of a leaf
pub first_found : (sections : List Section) (leaf place : ℕ) (section : Section) → place < length sections → section ≡ get_or sections place section → list_any (is_of leaf) (take place sections) ≡ false →
    section.leaf ≡ leaf → IsFirstOf sections leaf section
first_found sections leaf place section below is none same = record {
  before = take place sections;
  after = drop (place + 1) sections;
  parts = around sections place section below is;
  is = same;
  none_before = none;
}

-- nothing is wrong with a section
clear_parts : (count : ℕ) (before : List Section) (section : Section) (low one : Bool) → nat_le count section.leaf ≡ low → list_any (is_of section.leaf) before ≡ one →
    cond low (Some Stranger) (cond one (Some Double) None) ≡ None → (nat_le count section.leaf ≡ false) × (list_any (is_of section.leaf) before ≡ false)
clear_parts count before section true one e f h = absurd (none_is_some Stranger (sym h))
clear_parts count before section false true e f h = absurd (none_is_some Double (sym h))
clear_parts count before section false false e f h = (e, f)

clear : (count : ℕ) (before : List Section) (section : Section) → section_fault count before section ≡ None → (nat_le count section.leaf ≡ false) × (list_any (is_of section.leaf) before ≡ false)
clear count before section h = clear_parts count before section (nat_le count section.leaf) (list_any (is_of section.leaf) before) refl refl h

-- an element that passes
any_split : (p : Section → Bool) (xs : List Section) (b : Bool) → list_any p xs ≡ b → (b ≡ false) ⊎ ((m : List Section) × ((x : Section) × ((n : List Section) × ((xs ≡ m ++ x ∷ n) × (p x ≡ true)))))
any_split p [] b e = inl (sym e)
any_split p (x ∷ xs) b e = here (p x) refl (any_split p xs (list_any p xs) refl)
  where
    here : (c : Bool) → p x ≡ c → (list_any p xs ≡ false) ⊎ ((m : List Section) × ((y : Section) × ((n : List Section) × ((xs ≡ m ++ y ∷ n) × (p y ≡ true))))) →
        (b ≡ false) ⊎ ((m : List Section) × ((y : Section) × ((n : List Section) × ((x ∷ xs ≡ m ++ y ∷ n) × (p y ≡ true)))))
    here true f rest = inr ([], (x, (xs, (refl, f))))
    here false f (inl none) = inl (sym e ∙ or_from (p x) (list_any p xs) f none)
    here false f (inr (m, (y, (n, (parts, passes))))) = inr (x ∷ m, (y, (n, (ap (λ l. x ∷ l) parts, passes))))

pub any_at : (p : Section → Bool) (before : List Section) (x : Section) (after : List Section) → p x ≡ true → list_any p (before ++ x ∷ after) ≡ true
any_at p [] x after h = ap (λ (b : Bool). b || list_any p after) h
any_at p (y ∷ before) x after h = or_right (p y) (list_any p (before ++ x ∷ after)) (any_at p before x after h)
  where
    or_right : (a b : Bool) → b ≡ true → (a || b) ≡ true
    or_right true b e = refl
    or_right false b e = e

pub of_itself : (leaf : ℕ) (section : Section) → section.leaf ≡ leaf → is_of leaf section ≡ true
of_itself leaf section e = eq-eqb section.leaf leaf e

-- the first section of a leaf is the only one
pub only_of : (count : ℕ) (sections : List Section) (leaf : ℕ) (section : Section) → AreRight count sections → IsFirstOf sections leaf section → IsOnlyOf sections leaf section
only_of count sections leaf section right f = record {
  before = f.before;
  after = f.after;
  parts = f.parts;
  is = f.is;
  none_before = f.none_before;
  none_after = elim (any_split (is_of leaf) f.after (list_any (is_of leaf) f.after) refl) [
    | inl none ↦ none
    | inr (m, (other, (n, (parts, passes)))) ↦
        let same : other.leaf ≡ leaf = eqb-true other.leaf leaf passes in
        let all : sections ≡ (f.before ++ section ∷ m) ++ other ∷ n = f.parts ∙ ap (λ l. f.before ++ section ∷ l) parts ∙ sym (append_assoc f.before (section ∷ m) (other ∷ n)) in
        let once = (clear count (f.before ++ section ∷ m) other (right (f.before ++ section ∷ m) other n all)).1 in
        absurd (true≢false (sym (any_at (is_of other.leaf) f.before section m (of_itself other.leaf section (f.is ∙ sym same))) ∙ once))
  ];
}

-- one more leaf is proved
pub proved_on : (clauses cubes : List (List ℤ)) (sections : List Section) (count leaf : ℕ) (cube : List ℤ) (section : Section) → AreRight count sections → slice_get cubes leaf ≡ Some cube →
    IsFirstOf sections leaf section → IsAccepted clauses cube section.derivation → AreProvedBelow clauses cubes sections leaf → AreProvedBelow clauses cubes sections (leaf + 1)
proved_on clauses cubes sections count leaf cube section right there first accepted h other other_cube below at = elim (below_next other leaf below) [
  | inl l ↦ h other other_cube l at
  | inr e ↦
      let both : Some other_cube ≡ Some cube = sym at ∙ ap (λ (n : ℕ). slice_get cubes n) e ∙ there in
      let same : other_cube ≡ cube = cc both in
      subst (λ (n : ℕ). IsProved clauses sections n other_cube) (sym e)
      (subst (λ (c : List ℤ). IsProved clauses sections leaf c) (sym same) (record { section = section; only = only_of count sections leaf section right first; accepted = accepted }))
]

pub proved_none : (clauses cubes : List (List ℤ)) (sections : List Section) → AreProvedBelow clauses cubes sections 0
proved_none clauses cubes sections other cube below there = absurd (omega (arith, below))

pub refused_found : (clauses cubes : List (List ℤ)) (sections : List Section) (count leaf : ℕ) (cube : List ℤ) (section : Section) (fault : StepFault) (step : ℕ) → AreRight count sections → slice_get cubes leaf ≡ Some cube →
    IsFirstOf sections leaf section → IsRefused clauses cube section.derivation fault step → AreProvedBelow clauses cubes sections leaf → IsFirstRefused clauses cubes sections leaf
refused_found clauses cubes sections count leaf cube section fault step right there first refused h = record {
  cube = cube;
  section = section;
  fault = fault;
  step = step;
  there = there;
  only = only_of count sections leaf section right first;
  refused = refused;
  lowest = h;
}

-- each element passes
all_each : (p : Section → Bool) (sections : List Section) → ((b : List Section) (x : Section) (a : List Section) → sections ≡ b ++ x ∷ a → p x ≡ true) → list_all p sections ≡ true
all_each p [] h = refl
all_each p (x ∷ xs) h = and_from (p x) (list_all p xs) (h [] x xs refl) (all_each p xs (λ b y a e. h (x ∷ b) y a (ap (λ l. x ∷ l) e)))

-- sections with which nothing is wrong are of leaves
known_of : (count : ℕ) (sections : List Section) → AreRight count sections → list_all (λ section. nat_lt section.leaf count) sections ≡ true
known_of count sections right = all_each (λ section. nat_lt section.leaf count) sections
    (λ b x a e. lt-ltb x.leaf count (let high = leb-false count x.leaf (clear count b x (right b x a e)).0 in omega (arith, high)))

pub rechecked : (clauses : List (List ℤ)) (certificate : Certificate) (cubes : List (List ℤ)) → cubes ≡ cubes_of certificate.tree → AreRight (leaves certificate.tree) certificate.sections →
    AreProvedBelow clauses cubes certificate.sections (length cubes) → IsRechecked clauses certificate (leaves certificate.tree)
rechecked clauses certificate cubes same right proved = record {
  counted = refl;
  known = known_of (leaves certificate.tree) certificate.sections right;
  proved = λ leaf cube there.
      (let at : slice_get cubes leaf ≡ Some cube = ap (λ (cs : List (List ℤ)). slice_get cs leaf) same ∙ there in
      proved leaf cube (slice_get_within cubes leaf cube at) at);
}

-- an element that is there is read whatever the default is
pub same_read : (sections : List Section) (k : ℕ) (d e : Section) → k < length sections → get_or sections k d ≡ get_or sections k e
same_read [] k d e below = absurd (omega (arith, below))
same_read (x ∷ xs) zero d e below = refl
same_read (x ∷ xs) (suc k) d e below = same_read xs k d e (omega (arith, below))
