use Rattle.std.proofs.Common.{◌≡◌, ◌≤◌, ◌<◌, ◌∷◌, ◌++◌, [], ◌∙◌, List, ℕ, ℤ, ap, sym, subst, map, arith}
use Rattle.std.specs.Prelude.{pos}
use Rattle.std.proofs.lemmas.List.{map_push}
use Rattle.lrat_check.specs.LratFaults.{id_fault}
use Rattle.lrat_check.specs.LratText.{is_id_number, most_id}
use Rattle.lrat_check.specs.ShortNumbers.{IsFirstNumber, ReadsOn}
use Rattle.lrat_check.proofs.DerivationText.ListLemmas.{id_right, id_not_zero, is_an_id}
use Rattle.lrat_check.proofs.DerivationText.ShortNumberLemmas.{first_number, reads_number}
use Rattle.lrat_check.proofs.short_numbers.push_short_ids.Goals as goal

pub loop-rest-preserved : goal.loop-rest-preserved
loop-rest-preserved c =
    let id = c.short_number-id.result.0 in
    let count = c.short_number-id.result.1 in
    let rest = c.loop-rest.rest.now in
    let after = c.behind-rest.result.now in
    let more : 0 < c.short_number-id.result.1 = omega (arith, c.if-count-eq0.false) in
    let most : c.short_number-id.result.0 ≤ most_id = omega (arith, c.short_number-id.ensures.small) in
    let first : IsFirstNumber c.loop-rest.rest.now (pos c.short_number-id.result.0) c.behind-rest.result.now =
    subst (λ (behind : List ℕ). IsFirstNumber rest (pos id) behind) (sym c.behind-rest.ensures) (first_number rest id count more (c.short_number-id.ensures.number more)) in
    let new : map pos c.push.new.self.items ≡ map pos c.loop-rest.ids.items ++ pos c.short_number-id.result.0 ∷ [] = ap (map pos) c.in_ok-push.ensures.items ∙ map_push pos c.loop-rest.ids.items id in
    subst (λ (ns : List ℤ). ReadsOn id_fault is_id_number (map pos c.args.ids.now.items) c.args.line.now ns after) (sym new)
    (reads_number id_fault is_id_number (map pos c.args.ids.now.items) c.args.line.now (map pos c.loop-rest.ids.items) rest after (pos id) c.loop-rest.invariant first
    (id_right id most) (id_not_zero id c.if-id-eq0.false) (is_an_id id c.if-id-eq0.false most))
