-- The views of all seats, of which one changes or one is added.
use Rattle.std.proofs.Common.{◌≡◌, ◌≢◌, ℕ, zero, suc, ◌+◌, ◌≤◌, min, List, [], ◌∷◌, ◌++◌, set, refl, sym, ◌∙◌, ap, subst, ⊎_elim, arith}
use Rattle.std.proofs.lemmas.List.{append-nil}
use mathlib.Core.Option.{some, some-injective, some-ne-none}
use lib.ListN.{get_elem?}
use Rattle.atomic_table.proofs.Lists.{at_set, at_snoc}
use Rattle.stop_word.specs.declared.views.View.{View}
use Rattle.stop_word.specs.WordRule.{nothing, least_of, marks_in, parts_in}
use Rattle.stop_word.proofs.LeastLemmas.{least_small, least-append}

-- each seat has this
abbrev pub Each : (View → Type 0) → List View → Type 0
Each P views = (id : ℕ) (v : View) → get_elem? views id ≡ some v → P v

pub each_head : (P : View → Type 0) (x : View) (views : List View) → Each P (x ∷ views) → P x
each_head P x views each = each zero x refl

pub each_tail : (P : View → Type 0) (x : View) (views : List View) → Each P (x ∷ views) → Each P views
each_tail P x views each id v at = each (suc id) v at

-- one seat's view changes, and what the others have is kept
pub each_set : (P Q : View → Type 0) (views : List View) (id : ℕ) (w : View) → Each P views → ((v : View) → P v → Q v) → Q w → Each Q (set views id w)
each_set P Q views id w each kept mine j u at =
    ⊎_elim
    (λ (x : (j ≡ id) × (w ≡ u)). subst Q x.1 mine)
    (λ (x : (j ≢ id) × (get_elem? views j ≡ some u)). kept u (each j u x.1))
    (at_set views id j w u at)

pub each_more : (P : View → Type 0) (views : List View) (w : View) → Each P views → P w → Each P (views ++ w ∷ [])
each_more P views w each new j u at =
    ⊎_elim
    (λ (old : get_elem? views j ≡ some u). each j u old)
    (λ (same : w ≡ u). subst P same new)
    (at_snoc views w u j at)

pub set_mine : (views : List View) (id : ℕ) (v w : View) → get_elem? views id ≡ some v → get_elem? (set views id w) id ≡ some w
set_mine [] id v w there = absurd (some-ne-none v (sym there))
set_mine (x ∷ views) zero v w there = refl
set_mine (x ∷ views) (suc id) v w there = set_mine views id v w there

pub parts_set : (views : List View) (id : ℕ) (v w : View) → get_elem? views id ≡ some v → parts_in (set views id w) + v.parts ≡ parts_in views + w.parts
parts_set [] id v w there = absurd (some-ne-none v (sym there))
parts_set (x ∷ views) zero v w there =
    let same : x.parts ≡ v.parts = ap (λ (u : View). u.parts) (some-injective _ _ there) in
    omega (arith, same)
parts_set (x ∷ views) (suc id) v w there = let rest = parts_set views id v w there in omega (arith, rest)

pub parts_more : (views : List View) (w : View) → parts_in (views ++ w ∷ []) ≡ parts_in views + w.parts
parts_more [] w = omega arith
parts_more (x ∷ views) w = let rest = parts_more views w in omega (arith, rest)

-- the least of all marks
abbrev pub least_in : List View → ℕ
least_in views = least_of (marks_in views)

pub least_cons : (x : View) (views : List View) → least_in (x ∷ views) ≡ min (least_of x.marks) (least_in views)
least_cons x views = least-append x.marks (marks_in views)

pub least_at : (views : List View) (id : ℕ) (v : View) → get_elem? views id ≡ some v → least_in views ≤ least_of v.marks
least_at [] id v there = absurd (some-ne-none v (sym there))
least_at (x ∷ views) zero v there =
    let same : least_of x.marks ≡ least_of v.marks = ap (λ (u : View). least_of u.marks) (some-injective _ _ there) in
    let cons = least_cons x views in
    omega (arith, same, cons)
least_at (x ∷ views) (suc id) v there = let rest = least_at views id v there in let cons = least_cons x views in omega (arith, rest, cons)

-- numbers whose least is n join a seat's marks
pub least_set : (views : List View) (id : ℕ) (v w : View) (n : ℕ) → get_elem? views id ≡ some v → least_of w.marks ≡ min (least_of v.marks) n → least_in (set views id w) ≡ min (least_in views) n
least_set [] id v w n there joined = absurd (some-ne-none v (sym there))
least_set (x ∷ views) zero v w n there joined =
    let same : least_of x.marks ≡ least_of v.marks = ap (λ (u : View). least_of u.marks) (some-injective _ _ there) in
    let before = least_cons x views in
    let after = least_cons w views in
    omega (arith, same, before, after, joined)
least_set (x ∷ views) (suc id) v w n there joined =
    let rest = least_set views id v w n there joined in
    let before = least_cons x views in
    let after = least_cons x (set views id w) in
    omega (arith, rest, before, after)

-- a seat's marks are kept by another
pub least_spent : (views : List View) (id : ℕ) (v w : View) → get_elem? views id ≡ some v → w.marks ≡ [] → least_in views ≡ min (least_in (set views id w)) (least_of v.marks)
least_spent [] id v w there none = absurd (some-ne-none v (sym there))
least_spent (x ∷ views) zero v w there none =
    let same : least_of x.marks ≡ least_of v.marks = ap (λ (u : View). least_of u.marks) (some-injective _ _ there) in
    let nothing_left : least_of w.marks ≡ nothing = ap least_of none in
    let small = least_small (marks_in views) in
    let before = least_cons x views in
    let after = least_cons w views in
    omega (arith, same, nothing_left, small, before, after)
least_spent (x ∷ views) (suc id) v w there none =
    let rest = least_spent views id v w there none in
    let before = least_cons x views in
    let after = least_cons x (set views id w) in
    omega (arith, rest, before, after)

pub least_more : (views : List View) (w : View) → least_in (views ++ w ∷ []) ≡ min (least_in views) (least_of w.marks)
least_more [] w = let cons = least_cons w [] in omega (arith, cons)
least_more (x ∷ views) w =
    let rest = least_more views w in
    let before = least_cons x views in
    let after = least_cons x (views ++ w ∷ []) in
    omega (arith, rest, before, after)

abbrev pub IsIdle : View → Type 0
IsIdle v = v.parts ≡ 0 → v.marks ≡ []

pub idle_marks : (views : List View) → Each IsIdle views → parts_in views ≡ 0 → marks_in views ≡ []
idle_marks [] idle none = refl
idle_marks (x ∷ views) idle none =
    let mine : x.marks ≡ [] = each_head IsIdle x views idle (omega (arith, none)) in
    let others : marks_in views ≡ [] = idle_marks views (each_tail IsIdle x views idle) (omega (arith, none)) in
    ap (λ ms. ms ++ marks_in views) mine ∙ others

-- a seat with all parts has all marks
pub whole_marks : (views : List View) (id : ℕ) (v : View) → Each IsIdle views → get_elem? views id ≡ some v → parts_in views ≡ v.parts → marks_in views ≡ v.marks
whole_marks [] id v idle there all = absurd (some-ne-none v (sym there))
whole_marks (x ∷ views) zero v idle there all =
    let same : x ≡ v = some-injective _ _ there in
    let parts : x.parts ≡ v.parts = ap (λ (u : View). u.parts) same in
    let others : marks_in views ≡ [] = idle_marks views (each_tail IsIdle x views idle) (omega (arith, parts, all)) in
    ap (λ ms. x.marks ++ ms) others ∙ append-nil x.marks ∙ ap (λ (u : View). u.marks) same
whole_marks (x ∷ views) (suc id) v idle there all =
    let least = parts_at views id v there in
    let mine : x.marks ≡ [] = each_head IsIdle x views idle (omega (arith, least, all)) in
    let others : marks_in views ≡ v.marks = whole_marks views id v (each_tail IsIdle x views idle) there (omega (arith, least, all)) in
    ap (λ ms. ms ++ marks_in views) mine ∙ others
  where
    parts_at : (views : List View) (id : ℕ) (v : View) → get_elem? views id ≡ some v → v.parts ≤ parts_in views
    parts_at [] id v there = absurd (some-ne-none v (sym there))
    parts_at (x ∷ views) zero v there = let same : x.parts ≡ v.parts = ap (λ (u : View). u.parts) (some-injective _ _ there) in omega (arith, same)
    parts_at (x ∷ views) (suc id) v there = let rest = parts_at views id v there in omega (arith, rest)
