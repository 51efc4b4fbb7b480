use Rattle.std.proofs.Common.{arith, ◌≡◌, ◌<◌, ◌≤◌, ◌+◌, ℕ, zero, suc, List, [], ◌∷◌, ◌++◌, length, get_or, refl, ap, sym, ◌∙◌, append_assoc, append-nil}
use Rattle.std.specs.Prelude.{Option}
use Rattle.std.specs.List.{slice_get}
use Rattle.std.proofs.lemmas.List.Elements.{Contains-get_or}
use Rattle.std.proofs.Math.ListN.{drop}
use Rattle.forced_order.specs.Rows.{OrderValue}
use Rattle.trace_part.specs.declared.left_names.LeftName.{LeftName}
use Rattle.trace_part.specs.Told.{told_of, told_from, first_of}
use Rattle.trace_part.proofs.pairs.push_told_from.Goals as goal

-- The pairs of the names of a group, from one name to the next.

drop_at : (xs : List LeftName) (k : ℕ) (d : LeftName) → k < length xs → drop k xs ≡ get_or xs k d ∷ drop (suc k) xs
drop_at [] k d l = absurd (omega (arith, l))
drop_at (x ∷ xs) zero d l = refl
drop_at (x ∷ xs) (suc k) d l = drop_at xs k d (omega (arith, l))

first_left : (xs : List LeftName) (k : ℕ) → first_of (drop k xs) ≡ slice_get xs k
first_left [] zero = refl
first_left [] (suc k) = refl
first_left (x ∷ xs) zero = refl
first_left (x ∷ xs) (suc k) = first_left xs k

none_left : (xs : List LeftName) (k : ℕ) → length xs ≤ k → drop k xs ≡ []
none_left [] zero l = refl
none_left [] (suc k) l = refl
none_left (x ∷ xs) zero l = absurd (omega (arith, l))
none_left (x ∷ xs) (suc k) l = none_left xs k (omega (arith, l))

told_step : (order : OrderValue) (groups : List (List LeftName)) (group : List LeftName) (k : ℕ) (d : LeftName) (next : Option LeftName) (old new total : List (LeftName × LeftName)) → k < length group → next ≡ slice_get group (k + 1) →
    old ++ told_from order groups (drop k group) ≡ total → new ≡ old ++ told_of order (get_or group k d) next groups → new ++ told_from order groups (drop (k + 1) group) ≡ total
told_step order groups group k d next old new total l at before e =
    let one : k + 1 ≡ suc k = omega arith in
    let named : first_of (drop (suc k) group) ≡ next = first_left group (suc k) ∙ sym (at ∙ ap (slice_get group) one) in
    (λ i. e i ++ told_from order groups (drop (one i) group))
    ∙ append_assoc old (told_of order (get_or group k d) next groups) (told_from order groups (drop (suc k) group))
    ∙ ap (λ n. old ++ (told_of order (get_or group k d) n groups ++ told_from order groups (drop (suc k) group))) (sym named)
    ∙ ap (λ ns. old ++ told_from order groups ns) (sym (drop_at group k d l))
    ∙ before

told_end : (order : OrderValue) (groups : List (List LeftName)) (group : List LeftName) (k : ℕ) (made total : List (LeftName × LeftName)) → length group ≤ k → made ++ told_from order groups (drop k group) ≡ total → made ≡ total
told_end order groups group k made total l e = sym (ap (λ ns. made ++ told_from order groups ns) (none_left group k l) ∙ append-nil made) ∙ e

pub push_told_of-requires : goal.push_told_of-requires
push_told_of-requires c = record { forward = c.requires.forward _ (Contains-get_or c.args.group.now c.loop-k.k _ c.loop-k-test.true) }

pub loop-k-preserved : goal.loop-k-preserved
loop-k-preserved c =
    told_step c.args.order.now c.args.groups.now c.args.group.now c.loop-k.k _ c.next_name.result c.loop-k.pairs.items c.push_told_of.new.pairs.items _
    c.loop-k-test.true c.next_name.ensures c.loop-k.invariant c.in_ok-push_told_of.ensures

pub returns : goal.returns
returns c = told_end c.args.order.now c.args.groups.now c.args.group.now c.loop-k.k c.loop-k.pairs.items _ (omega (arith, c.loop-k.auto.k-end, c.loop-k-test.false)) c.loop-k.invariant
