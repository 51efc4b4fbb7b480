use Rattle.std.proofs.Common.{◌≡◌, ◌<◌, ◌+◌, ◌++◌, ◌∷◌, [], ℕ, List, length, map, take, get_or, Bool, true, false, cond, refl, ap, sym, ◌∙◌, append-nil}
use Rattle.std.specs.Prelude.{◌==◌}
use Rattle.std.specs.List.{filter}
use Rattle.std.proofs.lemmas.List.{map-append, take_more}
use Rattle.std.proofs.lemmas.List.Elements.{filter-append}
use Rattle.var_layout.proofs.known_pairs.paired_with.Goals as goal
use Rattle.var_layout.proofs.known_pairs.paired_with.Goals.{then-begins_with+in_ok-push, else-begins_with}

-- one pair more

if_begins : (pair : ℕ × ℕ) (b : Bool) → map (λ (x : ℕ × ℕ). x.1) (cond b (pair ∷ []) []) ≡ cond b (pair.1 ∷ []) []
if_begins pair true = refl
if_begins pair false = refl

found_step : (pairs : List (ℕ × ℕ)) (i k : ℕ) (pair : ℕ × ℕ) (items : List ℕ) (b : Bool) → k < length pairs → get_or pairs k (0, 0) ≡ pair → (pair.0 == i) ≡ b →
    items ≡ map (λ (x : ℕ × ℕ). x.1) (filter (λ (x : ℕ × ℕ). x.0 == i) (take k pairs)) → items ++ cond b (pair.1 ∷ []) [] ≡ map (λ (x : ℕ × ℕ). x.1) (filter (λ (x : ℕ × ℕ). x.0 == i) (take (k + 1) pairs))
found_step pairs i k pair items b within here e so_far =
    let kept : List (ℕ × ℕ) = filter (λ (x : ℕ × ℕ). x.0 == i) (take k pairs) in
    (λ n. so_far n ++ sym (if_begins pair b) n)
    ∙ sym (map-append (λ (x : ℕ × ℕ). x.1) kept (cond b (pair ∷ []) []))
    ∙ ap (map (λ (x : ℕ × ℕ). x.1)) (sym (ap (filter (λ (x : ℕ × ℕ). x.0 == i)) (take_more pairs k (0, 0) within ∙ ap (λ x. take k pairs ++ x ∷ []) here)
    ∙ filter-append (λ (x : ℕ × ℕ). x.0 == i) (take k pairs) (pair ∷ []) ∙ ap (λ h. kept ++ cond h (pair ∷ []) []) e))

pub loop-pair-preserved : goal.loop-pair-preserved
loop-pair-preserved c =
    let step = found_step c.args.pairs.now c.args.i c.loop-pair.pair-index (get_or c.args.pairs.now c.loop-pair.pair-index (0, 0)) c.loop-pair.found.items in
    elim c.if-begins_with.branch [
      | then-begins_with+in_ok-push w ↦ (ap (λ v. v.items) w.found-is ∙ w.in_ok-push.ensures.items ∙ step true c.loop-pair-test.true refl (sym c.begins_with.ensures ∙ w.if-begins_with.true) c.loop-pair.invariant)
      | else-begins_with w ↦ (ap (λ v. v.items) w.found-is ∙ sym (append-nil c.loop-pair.found.items) ∙ step false c.loop-pair-test.true refl (sym c.begins_with.ensures ∙ w.if-begins_with.false) c.loop-pair.invariant)
    ]
