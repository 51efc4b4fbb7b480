use Rattle.std.proofs.Common.{◌≡◌, ◌≤◌, ◌<◌, ◌+◌, ◌∷◌, ◌++◌, [], ◌∙◌, List, ℕ, ℤ, true, cond, drop, ap, sym, subst, arith}
use Rattle.std.specs.Prelude.{pos, neg_ℤ}
use Rattle.dimacs.specs.Literal.{is_literal, most_variable}
use Rattle.text_lines.specs.Numbers.{digits_after_sign}
use Rattle.lrat_check.specs.LratFaults.{literal_fault}
use Rattle.lrat_check.specs.ShortNumbers.{IsFirstNumber, IsShortNumber, ReadsOn}
use Rattle.lrat_check.proofs.DerivationText.ListLemmas.{literal_right, literal_not_zero}
use Rattle.lrat_check.proofs.DerivationText.ShortNumberLemmas.{signed_number, signed_literal, reads_number}
use Rattle.lrat_check.proofs.short_numbers.push_short_literals.Goals as goal

pub loop-digits-preserved : goal.loop-digits-preserved
loop-digits-preserved c =
    let variable = c.short_number-variable.result.0 in
    let count = c.short_number-variable.result.1 in
    let rest = c.loop-digits.rest.now in
    let after = c.behind-rest.result.now in
    let z : ℤ = cond c.begins_with_minus.result (neg_ℤ (pos c.short_number-variable.result.0)) (pos c.short_number-variable.result.0) in
    let more : 0 < c.short_number-variable.result.1 = omega (arith, c.if-count-eq0.false) in
    let most : c.short_number-variable.result.0 ≤ most_variable = omega (arith, c.if-variable-from.false, c.from.ensures) in
    let good : is_literal (cond c.begins_with_minus.result (neg_ℤ (pos c.short_number-variable.result.0)) (pos c.short_number-variable.result.0)) ≡ true = signed_literal c.begins_with_minus.result variable c.if-variable-eq0.false most in
    let short : IsShortNumber (digits_after_sign c.loop-digits.rest.now) c.short_number-variable.result.0 c.short_number-variable.result.1 =
    subst (λ (t : List ℕ). IsShortNumber t variable count) c.without_minus-digits.ensures (c.short_number-variable.ensures.number more) in
    let behind : c.behind-rest.result.now ≡ drop (c.short_number-variable.result.1 + 1) (digits_after_sign c.loop-digits.rest.now) = c.behind-rest.ensures ∙ ap (λ (t : List ℕ). drop (count + 1) t) c.without_minus-digits.ensures in
    let first : IsFirstNumber c.loop-digits.rest.now (cond c.begins_with_minus.result (neg_ℤ (pos c.short_number-variable.result.0)) (pos c.short_number-variable.result.0)) c.behind-rest.result.now =
    subst (λ (t : List ℕ). IsFirstNumber rest z t) (sym behind) (signed_number rest c.begins_with_minus.result variable count (sym c.begins_with_minus.ensures) more c.if-variable-eq0.false short) in
    let new : c.push.new.self.items ≡ c.loop-digits.literals.items ++ (cond c.begins_with_minus.result (neg_ℤ (pos c.short_number-variable.result.0)) (pos c.short_number-variable.result.0)) ∷ [] =
    c.in_ok-push.ensures.items ∙ ap (λ (y : ℤ). c.loop-digits.literals.items ++ y ∷ []) c.signed.ensures in
    subst (λ (ns : List ℤ). ReadsOn literal_fault is_literal c.args.literals.now.items c.args.line.now ns after) (sym new)
    (reads_number literal_fault is_literal c.args.literals.now.items c.args.line.now c.loop-digits.literals.items rest after z c.loop-digits.invariant first
    (literal_right z good) (literal_not_zero z good) good)
