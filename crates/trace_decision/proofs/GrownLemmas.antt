-- Leaves that are split, and ledgers that grow.
use Rattle.std.proofs.Common.{◌≡◌, ◌∙◌, ℕ, zero, suc, ◌+◌, ◌<◌, ◌≤◌, ℤ, pos, neg_ℤ, Bool, true, false, List, [], ◌∷◌, ◌++◌, length, take, drop, get_or, Some, None, inl, inr, refl, sym, ap, subst, arith, length-append, length-drop}
use Rattle.std.specs.Prelude.{◌⊎◌, if◌then◌else◌, nat_le, slice_index_or}
use Rattle.std.specs.List.{slice_get}
use Rattle.std.proofs.lemmas.Bool.{leb-true}
use Rattle.std.proofs.lemmas.List.{drop_more, length-take-le}
use Rattle.std.proofs.lemmas.Option.{get_or_from_slice_get, slice_get_within}
use Rattle.cube_tree.proofs.TreeLemmas.{cubes_counted}
use Rattle.cube_tree.specs.CubeTree.{CubeTree, cubes_of, leaves, with_split}
use Rattle.cube_tree.specs.SplitFault.{split_fault}
use Rattle.cube_tree.specs.declared.split_fault.SplitCause.{SplitCause}
use Rattle.cube_tree.specs.declared.split_fault.SplitCause.TheVariants.{NoSuchLeaf, TooManyLeaves, TooDeep}
use Rattle.result_ledger.specs.declared.slot.Slot.{Slot}
use Rattle.result_ledger.specs.Ledger.{cubes_in, empty_slot, IsSplitAt, SplitsCube}
use Rattle.result_ledger.proofs.SlotLemmas.{as_many, cube_at, split_cubes}
use Rattle.result_ledger.proofs.SplitLemmas.{At, parts_at}
use Rattle.trace_decision.specs.Rounds.{first_free, AreAfterSplits, CannotBeSplit, IsSplitIfPossible, IsSplitOn}

-- the tree that is split has the cubes of the old one with one of them replaced by two
pub splits_cube : (old : List (List ℤ)) (tree new : CubeTree) (leaf v : ℕ) → old ≡ cubes_of tree → leaf < length old → new ≡ with_split leaf v tree →
    ((t : CubeTree) (variable : ℕ) (before : List (List ℤ)) (cube : List ℤ) (after : List (List ℤ)) → cubes_of t ≡ before ++ cube ∷ after →
    cubes_of (with_split (length before) variable t) ≡ before ++ (cube ++ pos variable ∷ []) ∷ ((cube ++ neg_ℤ (pos variable) ∷ []) ∷ after)) →
    SplitsCube leaf old (cubes_of new)
splits_cube old tree new leaf v same within is law =
    let there = parts_at old leaf within in
    record {
      before = there.before;
      cube = there.cube;
      after = there.after;
      left = there.cube ++ pos v ∷ [];
      right = there.cube ++ neg_ℤ (pos v) ∷ [];
      old_is = there.parts;
      new_is = ap cubes_of is ∙ ap (λ (k : ℕ). cubes_of (with_split k v tree)) there.counted ∙ law tree v there.before there.cube there.after (sym same ∙ there.parts);
      counted = there.counted;
    }

-- the slot of a leaf
pub slot_at : (slots : List Slot) (leaf : ℕ) → leaf < length slots → (slot : Slot) × (slice_get slots leaf ≡ Some slot)
slot_at [] leaf h = absurd (omega arith)
slot_at (x ∷ slots) zero h = (x, refl)
slot_at (x ∷ slots) (suc leaf) h = slot_at slots leaf (omega arith)

-- the two elements after the same prefix
two_same : (before : List (List ℤ)) (a b c d : List ℤ) (after rest : List (List ℤ)) → before ++ (a ∷ (b ∷ after)) ≡ before ++ (c ∷ (d ∷ rest)) → (a ≡ c) × (b ≡ d)
two_same [] a b c d after rest e = (cc, cc)
two_same (x ∷ before) a b c d after rest e = two_same before a b c d after rest (cc)

-- the element at a place is the one between those before and those after it
cube_there : (before : List (List ℤ)) (cube : List ℤ) (after : List (List ℤ)) → slice_get (before ++ cube ∷ after) (length before) ≡ Some cube
cube_there [] cube after = refl
cube_there (x ∷ before) cube after = cube_there before cube after

-- one leaf was split
module _
    (variables : List ℕ) (leaf v : ℕ) (cube : List ℤ) (old new : List Slot) (tree after : CubeTree)
    (same : cubes_in old ≡ cubes_of tree) (at_leaf : slice_get (cubes_in old) leaf ≡ Some cube) (first : first_free variables cube ≡ Some v)
    (is : after ≡ with_split leaf v tree) (s : IsSplitAt leaf (cubes_of after) old new)
    (law : (t : CubeTree) (variable : ℕ) (before : List (List ℤ)) (cube : List ℤ) (after : List (List ℤ)) → cubes_of t ≡ before ++ cube ∷ after →
    cubes_of (with_split (length before) variable t) ≡ before ++ (cube ++ pos variable ∷ []) ∷ ((cube ++ neg_ℤ (pos variable) ∷ []) ∷ after))
  where
    within : leaf < length old
    within = s.within

    there : At (cubes_in old) leaf
    there = parts_at (cubes_in old) leaf (let many = as_many old in omega (arith, many, within))

    -- the cube of the leaf, by its place and by its slot
    cube_is : there.cube ≡ cube
    cube_is =
        let here : slice_get (cubes_in old) leaf ≡ Some there.cube =
        ap (λ (xs : List (List ℤ)). slice_get xs leaf) there.parts ∙ ap (λ (k : ℕ). slice_get (there.before ++ there.cube ∷ there.after) k) there.counted ∙ cube_there there.before there.cube there.after in
        let both : Some there.cube ≡ Some cube = sym here ∙ at_leaf in
        cc

    found : (slot : Slot) × (slice_get old leaf ≡ Some slot)
    found = slot_at old leaf within

    its_cube : found.0.cube ≡ cube
    its_cube =
        let both : Some found.0.cube ≡ Some cube = sym (cube_at old leaf found.0 found.1) ∙ at_leaf in
        cc

    -- the cubes after the split, by the ledger and by the tree
    by_ledger : cubes_in new ≡ there.before ++ (s.left ∷ (s.right ∷ there.after))
    by_ledger =
        let one : leaf + 1 ≡ suc (length there.before) = omega (arith, there.counted) in
        ap cubes_in (s.new_is
        ∙ ap (λ (n : ℕ). take leaf old ++ (empty_slot s.left ∷ (empty_slot s.right ∷ drop n old))) one
        ∙ ap (λ (n : ℕ). take n old ++ (empty_slot s.left ∷ (empty_slot s.right ∷ drop (suc (length there.before)) old))) there.counted)
        ∙ split_cubes old there.before there.cube there.after s.left s.right there.parts

    by_tree : cubes_of after ≡ there.before ++ ((there.cube ++ pos v ∷ []) ∷ ((there.cube ++ neg_ℤ (pos v) ∷ []) ∷ there.after))
    by_tree = ap cubes_of is ∙ ap (λ (k : ℕ). cubes_of (with_split k v tree)) there.counted ∙ law tree v there.before there.cube there.after (sym same ∙ there.parts)

    new_cubes : (s.left ≡ there.cube ++ pos v ∷ []) × (s.right ≡ there.cube ++ neg_ℤ (pos v) ∷ [])
    new_cubes = two_same there.before s.left s.right (there.cube ++ pos v ∷ []) (there.cube ++ neg_ℤ (pos v) ∷ []) there.after there.after (sym by_ledger ∙ s.cubes_are ∙ by_tree)

    pub split_on : IsSplitOn variables leaf old new
    split_on =
        let slot : Slot = found.0 in
        let same_cube : there.cube ≡ slot.cube = cube_is ∙ sym its_cube in
        let left_is : s.left ≡ slot.cube ++ pos v ∷ [] = new_cubes.0 ∙ ap (λ (c : List ℤ). c ++ pos v ∷ []) same_cube in
        let right_is : s.right ≡ slot.cube ++ neg_ℤ (pos v) ∷ [] = new_cubes.1 ∙ ap (λ (c : List ℤ). c ++ neg_ℤ (pos v) ∷ []) same_cube in
        record {
          slot = slot;
          variable = v;
          there = found.1;
          first = ap (first_free variables) its_cube ∙ first;
          new_is = s.new_is ∙ (λ i. take leaf old ++ (empty_slot (left_is i) ∷ (empty_slot (right_is i) ∷ drop (leaf + 1) old)));
        }

-- ---- leaves that are not split

-- why a leaf of a tree is not split
past_limit : (tree : CubeTree) (k : ℕ) (cause : SplitCause) → split_fault tree k ≡ Some cause → k < leaves tree → (1024 ≤ leaves tree) ⊎ (20 ≤ length (slice_index_or (cubes_of tree) k []))
past_limit tree k cause is within = told (nat_le (leaves tree) k) refl (nat_le 1024 (leaves tree)) refl (nat_le 20 (length (slice_index_or (cubes_of tree) k []))) refl is
  where
    told : (none : Bool) → nat_le (leaves tree) k ≡ none → (many : Bool) → nat_le 1024 (leaves tree) ≡ many → (deep : Bool) → nat_le 20 (length (slice_index_or (cubes_of tree) k [])) ≡ deep →
        (if none then Some NoSuchLeaf else if many then Some TooManyLeaves else if deep then Some TooDeep else None) ≡ Some cause → (1024 ≤ leaves tree) ⊎ (20 ≤ length (slice_index_or (cubes_of tree) k []))
    told true none many a deep b e = absurd (let past = leb-true (leaves tree) k none in omega (arith, past, within))
    told false none true a deep b e = inl (leb-true 1024 (leaves tree) a)
    told false none false a true b e = inr (leb-true 20 (length (slice_index_or (cubes_of tree) k [])) b)
    told false none false a false b e = absurd (cc)

-- a leaf whose cube has all of the variables
pub no_variable : (variables : List ℕ) (leaf : ℕ) (cube : List ℤ) (slots : List Slot) → leaf < length slots → slice_get (cubes_in slots) leaf ≡ Some cube → first_free variables cube ≡ None → CannotBeSplit variables leaf slots
no_variable variables leaf cube slots within at none =
    let (slot, there) = slot_at slots leaf within in
    let both : Some slot.cube ≡ Some cube = sym (cube_at slots leaf slot there) ∙ at in
    let same : slot.cube ≡ cube = cc both in
    record { slot = slot; there = there; why = inl (ap (first_free variables) same ∙ none) }

-- a leaf of a tree that may not grow
pub may_not_grow : (variables : List ℕ) (leaf : ℕ) (cause : SplitCause) (slots : List Slot) (tree : CubeTree) → cubes_in slots ≡ cubes_of tree → leaf < length slots → split_fault tree leaf ≡ Some cause → CannotBeSplit variables leaf slots
may_not_grow variables leaf cause slots tree same within refused =
    let (slot, there) = slot_at slots leaf within in
    let count : length slots ≡ leaves tree = sym (as_many slots) ∙ ap length same ∙ cubes_counted tree in
    let at : slice_get (cubes_of tree) leaf ≡ Some slot.cube = subst (λ (cs : List (List ℤ)). slice_get cs leaf ≡ Some slot.cube) same (cube_at slots leaf slot there) in
    let cube_is : get_or (cubes_of tree) leaf [] ≡ slot.cube = get_or_from_slice_get (cubes_of tree) leaf slot.cube [] at in
    record {
      slot = slot;
      there = there;
      why = elim (past_limit tree leaf cause refused (omega (arith, within, count))) [
        | inl many ↦ inr (inr (omega (arith, many, count)))
        | inr deep ↦ inr (inl (let long : length (get_or (cubes_of tree) leaf []) ≡ length slot.cube = ap length cube_is in omega (arith, deep, long)))
      ];
    }

-- ---- one leaf after the other

-- a split makes one leaf more
split_longer : (variables : List ℕ) (leaf : ℕ) (old new : List Slot) → IsSplitOn variables leaf old new → length new ≡ length old + 1
split_longer variables leaf old new s =
    let within = slice_get_within old leaf s.slot s.there in
    let left : Slot = empty_slot (s.slot.cube ++ pos s.variable ∷ []) in
    let right : Slot = empty_slot (s.slot.cube ++ neg_ℤ (pos s.variable) ∷ []) in
    let long : length new ≡ length (take leaf old ++ (left ∷ (right ∷ drop (leaf + 1) old))) = ap length s.new_is in
    let front : length (take leaf old) ≡ leaf = length-take-le leaf old (omega (arith, within)) in
    omega (arith, long, front, within, length-append (take leaf old) (left ∷ (right ∷ drop (leaf + 1) old)), length-drop (leaf + 1) old)

-- As many of these leaves as k were split where they could be: what comes of splitting the others comes of splitting all.
pub record IsUnderWay (variables leaves : List ℕ) (k : ℕ) (first now : List Slot) : Type 0 where
  pub more : ℕ
  pub counted : length now ≡ length first + more
  pub goes_on : (new : List Slot) → AreAfterSplits variables (drop k leaves) more now new → AreAfterSplits variables leaves 0 first new

module _ (variables leaves : List ℕ) (k leaf : ℕ) (first now new : List Slot) (way : IsUnderWay variables leaves k first now) (within : k < length leaves) (is : leaf ≡ get_or leaves k 0 + way.more) where
  -- from the leaf at this place on
  from_here : (after : List Slot) → AreAfterSplits variables (get_or leaves k 0 ∷ drop (k + 1) leaves) way.more now after → AreAfterSplits variables leaves 0 first after
  from_here after so = way.goes_on after (subst (λ (ls : List ℕ). AreAfterSplits variables ls way.more now after) (sym (drop_more leaves k 0 within)) so)

  pub one_more : IsSplitIfPossible variables leaf now new → IsUnderWay variables leaves (k + 1) first new
  one_more (inl split) =
      let one : length new ≡ length now + 1 = split_longer variables leaf now new split in
      let here : IsSplitOn variables (get_or leaves k 0 + way.more) now new = subst (λ (n : ℕ). IsSplitOn variables n now new) is split in
      record {
        more = way.more + 1;
        counted = omega (arith, one, way.counted);
        goes_on = λ after so. from_here after (inl (new, here, so));
      }
  one_more (inr (cannot, same)) =
      let here : CannotBeSplit variables (get_or leaves k 0 + way.more) now = subst (λ (n : ℕ). CannotBeSplit variables n now) is cannot in
      record {
        more = way.more;
        counted = ap length same ∙ way.counted;
        goes_on = λ after so. from_here after (inr (here, subst (λ (slots : List Slot). AreAfterSplits variables (drop (k + 1) leaves) way.more slots after) same so));
      }

-- ---- how many leaves there are

-- there are as many leaves as before or more; where as many, nothing has changed
pub not_fewer : (variables leaves : List ℕ) (more : ℕ) (old new : List Slot) → AreAfterSplits variables leaves more old new → length old ≤ length new
not_fewer variables [] more old new same = let long : length new ≡ length old = ap length same in omega (arith, long)
not_fewer variables (leaf ∷ leaves) more old new (inl (between, split, after)) =
    let one = split_longer variables (leaf + more) old between split in
    let rest = not_fewer variables leaves (more + 1) between new after in
    omega (arith, one, rest)
not_fewer variables (leaf ∷ leaves) more old new (inr (none, after)) = not_fewer variables leaves more old new after

pub as_before : (variables leaves : List ℕ) (more : ℕ) (old new : List Slot) → AreAfterSplits variables leaves more old new → length new ≡ length old → new ≡ old
as_before variables [] more old new same long = same
as_before variables (leaf ∷ leaves) more old new (inl (between, split, after)) long =
    let one = split_longer variables (leaf + more) old between split in
    let rest = not_fewer variables leaves (more + 1) between new after in
    absurd (omega (arith, one, rest, long))
as_before variables (leaf ∷ leaves) more old new (inr (none, after)) long = as_before variables leaves more old new after long
