-- Slots in a list.
use Rattle.std.proofs.Common.{◌≡◌, ℕ, zero, suc, ◌+◌, ◌<◌, ℤ, List, [], ◌∷◌, ◌++◌, map, length, take, drop, get_or, Some, refl, sym, ◌∙◌, ap, subst, arith}
use Rattle.std.specs.Prelude.{slice_set, IsSome}
use Rattle.std.specs.List.{slice_get, insert}
use Rattle.std.proofs.lemmas.List.{take-append-le, take_all}
use Rattle.cube_jobs.specs.Results.{AreLeaves}
use Rattle.cube_jobs.specs.declared.job.Settled.{Settled}
use Rattle.result_ledger.specs.declared.slot.Slot.{Slot}
use Rattle.result_ledger.specs.Ledger.{empty_slot, cubes_in, HasAnswerAt, Fills, SplitsCube, IsSplitAt}
use Rattle.result_ledger.specs.Verdict.{AreWithout}

-- the cubes of slots without an answer
pub cubes_of_empty : (cubes : List (List ℤ)) → cubes_in (map empty_slot cubes) ≡ cubes
cubes_of_empty [] = refl
cubes_of_empty (cube ∷ cubes) = ap (λ (cs : List (List ℤ)). cube ∷ cs) (cubes_of_empty cubes)

-- filling a slot keeps the cubes
pub set_keeps : (slots : List Slot) (k : ℕ) (slot new : Slot) → slice_get slots k ≡ Some slot → new.cube ≡ slot.cube → cubes_in (slice_set slots k new) ≡ cubes_in slots
set_keeps [] k slot new there same = refl
set_keeps (x ∷ xs) zero slot new there same =
    let first : x ≡ slot = cc there in
    ap (λ (c : List ℤ). c ∷ cubes_in xs) (same ∙ ap (λ (s : Slot). s.cube) (sym first))
set_keeps (x ∷ xs) (suc k) slot new there same = ap (λ (cs : List (List ℤ)). x.cube ∷ cs) (set_keeps xs k slot new there same)

pub filled_keeps : (old new : List Slot) (settled : Settled) → Fills old new settled → cubes_in new ≡ cubes_in old
filled_keeps old new settled f =
    ap cubes_in f.filled ∙ set_keeps old settled.ticket (empty_slot settled.cube) (record { cube = settled.cube; outcome = Some settled.outcome }) f.empty refl

-- as many cubes as slots
pub as_many : (slots : List Slot) → length (cubes_in slots) ≡ length slots
as_many [] = refl
as_many (slot ∷ slots) = ap suc (as_many slots)

-- the cubes after a split
pub split_cubes : (old : List Slot) (before : List (List ℤ)) (cube : List ℤ) (after : List (List ℤ)) (left right : List ℤ) → cubes_in old ≡ before ++ cube ∷ after →
    cubes_in (take (length before) old ++ (empty_slot left ∷ (empty_slot right ∷ drop (suc (length before)) old))) ≡ before ++ (left ∷ (right ∷ after))
split_cubes [] [] cube after left right e = absurd (cc)
split_cubes [] (c ∷ before) cube after left right e = absurd (cc)
split_cubes (slot ∷ slots) [] cube after left right e = let rest : cubes_in slots ≡ after = cc in ap (λ (cs : List (List ℤ)). left ∷ (right ∷ cs)) rest
split_cubes (slot ∷ slots) (c ∷ before) cube after left right e =
    let rest : cubes_in slots ≡ before ++ cube ∷ after = cc in
    let first : slot.cube ≡ c = cc in
    let there = split_cubes slots before cube after left right rest in
    λ i. first i ∷ there i

-- the element after these
pub next_is : (before : List (List ℤ)) (x : List ℤ) (after : List (List ℤ)) (d : List ℤ) → get_or (before ++ x ∷ after) (length before) d ≡ x
next_is [] x after d = refl
next_is (y ∷ before) x after d = next_is before x after d

-- and the one after that
pub second_is : (before : List (List ℤ)) (x y : List ℤ) (after : List (List ℤ)) (d : List ℤ) → get_or (before ++ (x ∷ (y ∷ after))) (suc (length before)) d ≡ y
second_is [] x y after d = refl
second_is (z ∷ before) x y after d = second_is before x y after d

pub one_within : (before : List (List ℤ)) (x : List ℤ) (after : List (List ℤ)) → length before < length (before ++ x ∷ after)
one_within [] x after = omega arith
one_within (z ∷ before) x after = let h = one_within before x after in omega (arith, h)

-- a slot put after another, and that one replaced
pub put_two : (slots : List Slot) (place : ℕ) (left right : Slot) → place < length slots → slice_set (insert slots (suc place) right) place left ≡ take place slots ++ (left ∷ (right ∷ drop (suc place) slots))
put_two [] place left right h = absurd (omega arith)
put_two (slot ∷ slots) zero left right h = refl
put_two (slot ∷ slots) (suc place) left right h = ap (λ (xs : List Slot). slot ∷ xs) (put_two slots place left right (omega arith))

-- rising numbers of leaves are leaves of the tree
pub are_leaves : (slots : List Slot) (leaves : List ℕ) → AreWithout (HasAnswerAt slots) (length slots) leaves → AreLeaves (cubes_in slots) leaves
are_leaves slots leaves so = record { rising = so.rising; each = λ leaf c. let h = (so.each leaf c).0 in rw as_many h }

-- what was read is no answer
pub no_answer : (slots : List Slot) (leaf : ℕ) (slot : Slot) → slice_get slots leaf ≡ Some slot → (IsSome slot.outcome → ⊥) → HasAnswerAt slots leaf → ⊥
no_answer slots leaf slot there none h =
    let both : Some slot ≡ Some h.slot = sym there ∙ h.there in
    let same : slot ≡ h.slot = cc both in
    none (subst (λ (x : Slot). IsSome x.outcome) (sym same) h.answered)

-- the cube of a slot at its place
pub cube_at : (slots : List Slot) (leaf : ℕ) (slot : Slot) → slice_get slots leaf ≡ Some slot → slice_get (cubes_in slots) leaf ≡ Some slot.cube
cube_at [] leaf slot there = absurd (cc)
cube_at (x ∷ slots) zero slot there = let same : x ≡ slot = cc there in ap (λ (s : Slot). Some s.cube) same
cube_at (x ∷ slots) (suc leaf) slot there = cube_at slots leaf slot there

-- the same, where the leaves were gone over one by one
pub are_leaves_at : (slots : List Slot) (end : ℕ) (leaves : List ℕ) → end ≡ length slots → AreWithout (HasAnswerAt slots) end leaves → AreLeaves (cubes_in slots) leaves
are_leaves_at slots end leaves is so = are_leaves slots leaves (subst (λ (n : ℕ). AreWithout (HasAnswerAt slots) n leaves) is so)

-- what a slice writes back is the whole list
pub write_back : (new old : List Slot) (len : ℕ) → len ≡ length new → take len (new ++ drop (length new) old) ≡ new
write_back new old len same = take-append-le len new (drop (length new) old) (omega (arith, same)) ∙ take_all len new (omega (arith, same))

-- a slot put after another, and that one replaced
pub put_both : (slots : List Slot) (place : ℕ) (left right : Slot) → place < length slots → slice_set (insert slots (place + 1) right) place left ≡ take place slots ++ (left ∷ (right ∷ drop (place + 1) slots))
put_both slots place left right within =
    let one : place + 1 ≡ suc place = omega arith in
    subst (λ (n : ℕ). slice_set (insert slots n right) place left ≡ take place slots ++ (left ∷ (right ∷ drop n slots))) (sym one) (put_two slots place left right within)

-- the ledger of the split tree
pub split_at : (leaf : ℕ) (old new : List Slot) (cubes : List (List ℤ)) (asked : SplitsCube leaf (cubes_in old) cubes) →
    new ≡ take leaf old ++ (empty_slot asked.left ∷ (empty_slot asked.right ∷ drop (leaf + 1) old)) → IsSplitAt leaf cubes old new
split_at leaf old new cubes asked is =
    let one : leaf + 1 ≡ suc (length asked.before) = omega (arith, asked.counted) in
    let long : length (cubes_in old) ≡ length (asked.before ++ asked.cube ∷ asked.after) = ap length asked.old_is in
    let within : leaf < length old = omega (arith, long, as_many old, one_within asked.before asked.cube asked.after, asked.counted) in
    let at_leaf : new ≡ take (length asked.before) old ++ (empty_slot asked.left ∷ (empty_slot asked.right ∷ drop (suc (length asked.before)) old)) =
    is ∙ ap (λ (n : ℕ). take leaf old ++ (empty_slot asked.left ∷ (empty_slot asked.right ∷ drop n old))) one
    ∙ ap (λ (n : ℕ). take n old ++ (empty_slot asked.left ∷ (empty_slot asked.right ∷ drop (suc (length asked.before)) old))) asked.counted in
    record {
      left = asked.left;
      right = asked.right;
      within = within;
      new_is = is;
      cubes_are = ap cubes_in at_leaf ∙ split_cubes old asked.before asked.cube asked.after asked.left asked.right asked.old_is ∙ sym asked.new_is;
    }

-- the two cubes of the leaf that was split
pub left_is : (leaf : ℕ) (old new : List (List ℤ)) (asked : SplitsCube leaf old new) (d : List ℤ) → get_or new leaf d ≡ asked.left
left_is leaf old new asked d =
    ap (λ (xs : List (List ℤ)). get_or xs leaf d) asked.new_is ∙ ap (λ (n : ℕ). get_or (asked.before ++ (asked.left ∷ (asked.right ∷ asked.after))) n d) asked.counted
    ∙ next_is asked.before asked.left (asked.right ∷ asked.after) d

pub right_is : (leaf : ℕ) (old new : List (List ℤ)) (asked : SplitsCube leaf old new) (d : List ℤ) → get_or new (leaf + 1) d ≡ asked.right
right_is leaf old new asked d =
    let one : leaf + 1 ≡ suc (length asked.before) = omega (arith, asked.counted) in
    ap (λ (xs : List (List ℤ)). get_or xs (leaf + 1) d) asked.new_is ∙ ap (λ (n : ℕ). get_or (asked.before ++ (asked.left ∷ (asked.right ∷ asked.after))) n d) one
    ∙ second_is asked.before asked.left asked.right asked.after d
