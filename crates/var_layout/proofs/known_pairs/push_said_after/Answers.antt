use Rattle.std.proofs.Common.{◌≡◌, ◌+◌, ◌++◌, ◌∷◌, [], ℕ, List, map, Bool, true, false, cond, refl, ap, sym, ◌∙◌, append_assoc, append-nil}
use Rattle.std.specs.List.{filter, range_with_len}
use Rattle.std.proofs.lemmas.List.{map-append}
use Rattle.trace_semantics.specs.Trace.{TraceValue}
use Rattle.var_layout.specs.KnownPairs.{is_said}
use Rattle.var_layout.proofs.RangeLemmas.{filter_range_more}
use Rattle.var_layout.proofs.known_pairs.push_said_after.Goals as goal
use Rattle.var_layout.proofs.known_pairs.push_said_after.Goals.{then-is_said+in_ok-push, else-is_said}

-- one operation more

if_said : (i j : ℕ) (b : Bool) → map {B = ℕ × ℕ} (λ (k : ℕ). (i, k)) (cond b (j ∷ []) []) ≡ cond b ((i, j) ∷ []) []
if_said i j true = refl
if_said i j false = refl

said_step : (t : TraceValue) (i j : ℕ) (old items : List (ℕ × ℕ)) (b : Bool) → is_said t i j ≡ b → items ≡ old ++ map (λ (k : ℕ). (i, k)) (filter (is_said t i) (range_with_len 0 j)) →
    items ++ cond b ((i, j) ∷ []) [] ≡ old ++ map (λ (k : ℕ). (i, k)) (filter (is_said t i) (range_with_len 0 (j + 1)))
said_step t i j old items b e so_far =
    let made : List (ℕ × ℕ) = map (λ (k : ℕ). (i, k)) (filter (is_said t i) (range_with_len 0 j)) in
    ap (λ l. l ++ cond b ((i, j) ∷ []) []) so_far ∙ append_assoc old made (cond b ((i, j) ∷ []) [])
    ∙ ap (λ l. old ++ (made ++ l)) (sym (if_said i j b))
    ∙ ap (λ l. old ++ l) (sym (ap (map {B = ℕ × ℕ} (λ (k : ℕ). (i, k))) (filter_range_more (is_said t i) j b e) ∙ map-append {B = ℕ × ℕ} (λ (k : ℕ). (i, k)) (filter (is_said t i) (range_with_len 0 j)) (cond b (j ∷ []) [])))

pub loop-j-preserved : goal.loop-j-preserved
loop-j-preserved c =
    let step = said_step c.args.numbering.now c.args.i c.loop-j.j c.args.said.now.items c.loop-j.said.items in
    elim c.if-is_said.branch [
      | then-is_said+in_ok-push w ↦ (ap (λ v. v.items) w.said-is ∙ w.in_ok-push.ensures.items ∙ step true (sym c.is_said.ensures ∙ w.if-is_said.true) c.loop-j.invariant)
      | else-is_said w ↦ (ap (λ v. v.items) w.said-is ∙ sym (append-nil c.loop-j.said.items) ∙ step false (sym c.is_said.ensures ∙ w.if-is_said.false) c.loop-j.invariant)
    ]
