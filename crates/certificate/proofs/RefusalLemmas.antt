-- A certificate is accepted, or refused in one way.
use Rattle.std.proofs.Common.{◌≡◌, ℕ, zero, suc, ◌<◌, ℤ, List, [], ◌∷◌, ◌++◌, length, Bool, true, false, cond, refl, ap, sym, ◌∙◌, subst, inl, inr, arith, append-nil}
use Rattle.std.specs.Prelude.{Some, None, nat_lt}
use Rattle.std.specs.List.{list_any, list_all, slice_get}
use Rattle.std.proofs.lemmas.Bool.{cases_order, true≢false, ltb-true, lt-leb}
use Rattle.text_lines.proofs.FaultLemmas.{none_is_some, compared, one_first}
use Rattle.cube_tree.specs.CubeTree.{leaves, cubes_of}
use Rattle.cube_tree.proofs.TreeLemmas.{cubes_counted}
use Rattle.lrat_check.specs.Checked.{IsAccepted}
use Rattle.lrat_check.proofs.RefusalLemmas as lrat
use Rattle.certificate.specs.Rechecked.{is_of, IsOnlyOf, IsProved, IsRechecked, section_fault, AreRight, IsFirstWrong, IsFirstRefused, HasRecheckFault}
use Rattle.certificate.specs.declared.cert_fault.CertCause.{CertCause}
use Rattle.certificate.specs.declared.cert_fault.CertCause.TheVariants.{Stranger, Double}
use Rattle.certificate.specs.declared.certificate.Certificate.{Certificate}
use Rattle.certificate.specs.declared.certificate.Section.{Section}
use Rattle.certificate.proofs.RecheckLawLemmas.{passes_at}
use Rattle.certificate.proofs.RecheckLemmas.{any_at, of_itself}
use Rattle.certificate.proofs.CertificateText.SectionLemmas.{picked}

-- an element of a list that has one at each place
pub cube_at : (cubes : List (List ℤ)) (leaf : ℕ) → leaf < length cubes → (cube : List ℤ) × (slice_get cubes leaf ≡ Some cube)
cube_at [] leaf below = absurd (omega (arith, below))
cube_at (cube ∷ cubes) zero below = (cube, refl)
cube_at (cube ∷ cubes) (suc leaf) below = cube_at cubes leaf (omega (arith, below))

-- before a section of a leaf with one section none is of the leaf
none_earlier : (sections b a : List Section) (x only : Section) (leaf : ℕ) → IsOnlyOf sections leaf only → sections ≡ b ++ x ∷ a → x.leaf ≡ leaf → list_any (is_of leaf) b ≡ false
none_earlier sections b a x only leaf h e is = elim (picked h.before (only ∷ h.after) b x a (sym h.parts ∙ e)) [
  | inl (m, f) ↦ absurd (true≢false (sym (ap (list_any (is_of leaf)) f ∙ any_at (is_of leaf) b x m (of_itself leaf x is)) ∙ h.none_before))
  | inr (m, f, g) ↦ later m f g
]
  where
    later : (m : List Section) → b ≡ h.before ++ m → only ∷ h.after ≡ m ++ x ∷ a → list_any (is_of leaf) b ≡ false
    later [] f g = ap (list_any (is_of leaf)) (f ∙ append-nil h.before) ∙ h.none_before
    later (y ∷ m) f g =
        let rest : h.after ≡ m ++ x ∷ a = cc in
        absurd (true≢false (sym (ap (list_any (is_of leaf)) rest ∙ any_at (is_of leaf) m x a (of_itself leaf x is)) ∙ h.none_after))

-- a leaf has one section at most that is the only one
only_once : (sections : List Section) (leaf : ℕ) (x y : Section) → IsOnlyOf sections leaf x → IsOnlyOf sections leaf y → x ≡ y
only_once sections leaf x y h k = elim (compared h.before k.before x y h.after k.after (sym h.parts ∙ k.parts)) [
  | inl (b, e) ↦ e
  | inr (inl (m, f)) ↦ absurd (true≢false (sym (ap (list_any (is_of leaf)) f ∙ any_at (is_of leaf) h.before x m (of_itself leaf x h.is)) ∙ k.none_before))
  | inr (inr (m, f)) ↦ absurd (true≢false (sym (ap (list_any (is_of leaf)) f ∙ any_at (is_of leaf) k.before y m (of_itself leaf y k.is)) ∙ h.none_before))
]

has_one : (sections : List Section) (leaf : ℕ) (x : Section) → IsOnlyOf sections leaf x → list_any (is_of leaf) sections ≡ true
has_one sections leaf x h = ap (list_any (is_of leaf)) h.parts ∙ any_at (is_of leaf) h.before x h.after (of_itself leaf x h.is)

-- no fault where a section is of a leaf and none before it is
no_fault : (count : ℕ) (before : List Section) (section : Section) (cause : CertCause) → section.leaf < count → list_any (is_of section.leaf) before ≡ false → section_fault count before section ≡ Some cause → ⊥
no_fault count before section cause below none faulty =
    none_is_some cause (sym (ap (λ (b : Bool). cond b (Some Stranger) (cond (list_any (is_of section.leaf) before) (Some Double) None)) (lt-leb count section.leaf below)
    ∙ ap (λ (b : Bool). cond b (Some Double) None) none) ∙ faulty)

refused_proved : (clauses cubes : List (List ℤ)) (sections : List Section) (leaf : ℕ) → IsFirstRefused clauses cubes sections leaf → ((cube : List ℤ) → slice_get cubes leaf ≡ Some cube → IsProved clauses sections leaf cube) → ⊥
refused_proved clauses cubes sections leaf f proved =
    let p = proved f.cube f.there in
    let same = only_once sections leaf p.section f.section p.only f.only in
    lrat.never_both clauses f.cube f.section.derivation f.fault f.step (subst (λ (s : Section). IsAccepted clauses f.cube s.derivation) same p.accepted) f.refused

pub never_both : (clauses : List (List ℤ)) (certificate : Certificate) (count : ℕ) (cause : CertCause) (leaf : ℕ) → IsRechecked clauses certificate count → HasRecheckFault clauses certificate cause leaf → ⊥
never_both clauses certificate count cause leaf h (inl wrong) =
    let f = wrong.fault in
    let known : nat_lt f.item.leaf count ≡ true = passes_at (λ (section : Section). nat_lt section.leaf count) f.before f.item f.after (ap (list_all (λ (section : Section). nat_lt section.leaf count)) (sym f.parts) ∙ h.known) in
    let below : f.item.leaf < leaves certificate.tree = (let low = ltb-true f.item.leaf count known in omega (arith, low, h.counted)) in
    let (cube, there) = cube_at (cubes_of certificate.tree) f.item.leaf (omega (arith, below, cubes_counted certificate.tree)) in
    let proved = h.proved f.item.leaf cube there in
    no_fault (leaves certificate.tree) f.before f.item cause below (none_earlier certificate.sections f.before f.after f.item proved.section f.item.leaf proved.only f.parts refl) f.faulty
never_both clauses certificate count cause leaf h (inr (inl (told, right, missing))) =
    let (cube, there) = cube_at (cubes_of certificate.tree) leaf (omega (arith, missing.within, cubes_counted certificate.tree)) in
    let proved = h.proved leaf cube there in
    true≢false (sym (has_one certificate.sections leaf proved.section proved.only) ∙ missing.missing)
never_both clauses certificate count cause leaf h (inr (inr (told, right, every, refused))) = refused_proved clauses (cubes_of certificate.tree) certificate.sections leaf refused (h.proved leaf)

wrong_right : (count : ℕ) (sections : List Section) (cause : CertCause) (leaf : ℕ) → IsFirstWrong count sections cause leaf → AreRight count sections → ⊥
wrong_right count sections cause leaf f right = none_is_some cause (sym (right f.fault.before f.fault.item f.fault.after f.fault.parts) ∙ f.fault.faulty)

same_item : {A : Type 0} (b c : List A) (x y : A) (a d : List A) → length b ≡ length c → b ++ x ∷ a ≡ c ++ y ∷ d → x ≡ y
same_item [] [] x y a d l e = cc
same_item [] (z ∷ c) x y a d l e = absurd (omega (arith, l))
same_item (z ∷ b) [] x y a d l e = absurd (omega (arith, l))
same_item (z ∷ b) (w ∷ c) x y a d l e = same_item b c x y a d (omega (arith, l)) (cc)

pub one_refused : (clauses : List (List ℤ)) (certificate : Certificate) (c d : CertCause) (j k : ℕ) → HasRecheckFault clauses certificate c j → HasRecheckFault clauses certificate d k → (c ≡ d) × (j ≡ k)
one_refused clauses certificate c d j k (inl f) (inl g) =
    let same = one_first (section_fault (leaves certificate.tree)) certificate.sections f.place g.place c d f.fault g.fault in
    let items = same_item f.fault.before g.fault.before f.fault.item g.fault.item f.fault.after g.fault.after (omega (arith, same.0, f.fault.counted, g.fault.counted)) (sym f.fault.parts ∙ g.fault.parts) in
    (same.1, f.leaf_is ∙ ap (λ (s : Section). s.leaf) items ∙ sym g.leaf_is)
one_refused clauses certificate c d j k (inl f) (inr (inl (told, right, g))) = absurd (wrong_right (leaves certificate.tree) certificate.sections c j f right)
one_refused clauses certificate c d j k (inl f) (inr (inr (told, right, every, g))) = absurd (wrong_right (leaves certificate.tree) certificate.sections c j f right)
one_refused clauses certificate c d j k (inr (inl (told, right, f))) (inl g) = absurd (wrong_right (leaves certificate.tree) certificate.sections d k g right)
one_refused clauses certificate c d j k (inr (inr (told, right, every, f))) (inl g) = absurd (wrong_right (leaves certificate.tree) certificate.sections d k g right)
one_refused clauses certificate c d j k (inr (inl (told, right, f))) (inr (inl (tells, true_right, g))) = (
  told ∙ sym tells,
  elim (cases_order j k) [
    | inl e ↦ e
    | inr (inl h) ↦ absurd (true≢false (sym (g.lowest j h) ∙ f.missing))
    | inr (inr h) ↦ absurd (true≢false (sym (f.lowest k h) ∙ g.missing))
  ],
)
one_refused clauses certificate c d j k (inr (inl (told, right, f))) (inr (inr (tells, true_right, every, g))) = absurd (true≢false (sym (every j f.within) ∙ f.missing))
one_refused clauses certificate c d j k (inr (inr (told, right, every, f))) (inr (inl (tells, true_right, g))) = absurd (true≢false (sym (every k g.within) ∙ g.missing))
one_refused clauses certificate c d j k (inr (inr (told, right, every, f))) (inr (inr (tells, true_right, all, g))) = (
  told ∙ sym tells,
  elim (cases_order j k) [
    | inl e ↦ e
    | inr (inl h) ↦ absurd (refused_proved clauses (cubes_of certificate.tree) certificate.sections j f (λ cube there. g.lowest j cube h there))
    | inr (inr h) ↦ absurd (refused_proved clauses (cubes_of certificate.tree) certificate.sections k g (λ cube there. f.lowest k cube h there))
  ],
)
