use Rattle.std.proofs.Common.{◌≡◌, ◌≤◌, ◌<◌, ◌^◌, ◌∷◌, ◌++◌, [], ◌∙◌, List, ℕ, ℤ, true, ap, sym, subst, arith, w64}
use Rattle.std.specs.Prelude.{pos}
use Rattle.std.proofs.lemmas.Int.{to_z_pos}
use Rattle.lrat_check.specs.LratFaults.{hint_fault}
use Rattle.lrat_check.specs.LratText.{is_id_number, most_id}
use Rattle.lrat_check.specs.ShortNumbers.{IsFirstNumber, ReadsOn}
use Rattle.lrat_check.proofs.DerivationText.ListLemmas.{hint_right, hint_not_zero, is_an_id}
use Rattle.lrat_check.proofs.DerivationText.ShortNumberLemmas.{first_number, reads_number}
use Rattle.lrat_check.proofs.short_numbers.push_short_hints.Goals as goal

pub loop-rest-preserved : goal.loop-rest-preserved
loop-rest-preserved c =
    let id = c.short_number-id.result.0 in
    let count = c.short_number-id.result.1 in
    let rest = c.loop-rest.rest.now in
    let after = c.behind-rest.result.now in
    let more : 0 < c.short_number-id.result.1 = omega (arith, c.if-count-eq0.false) in
    let most : c.short_number-id.result.0 ≤ most_id = omega (arith, c.short_number-id.ensures.small) in
    let low : c.short_number-id.result.0 < 2 ^ 63 = omega (arith, c.short_number-id.ensures.small) in
    let good : is_id_number (pos c.short_number-id.result.0) ≡ true = is_an_id id c.if-id-eq0.false most in
    let first : IsFirstNumber c.loop-rest.rest.now (pos c.short_number-id.result.0) c.behind-rest.result.now =
    subst (λ (behind : List ℕ). IsFirstNumber rest (pos id) behind) (sym c.behind-rest.ensures) (first_number rest id count more (c.short_number-id.ensures.number more)) in
    let new : c.push.new.self.items ≡ c.loop-rest.hints.items ++ pos c.short_number-id.result.0 ∷ [] = c.in_ok-push.ensures.items ∙ ap (λ (y : ℤ). c.loop-rest.hints.items ++ y ∷ []) (to_z_pos w64 id low) in
    subst (λ (ns : List ℤ). ReadsOn hint_fault is_id_number c.args.hints.now.items c.args.line.now ns after) (sym new)
    (reads_number hint_fault is_id_number c.args.hints.now.items c.args.line.now c.loop-rest.hints.items rest after (pos id) c.loop-rest.invariant first
    (hint_right (pos id) good) (hint_not_zero (pos id) good) good)
