use Rattle.std.proofs.Common.{◌≡◌, ◌+◌, List, ℕ, arith, drop, sym, subst}
use Rattle.std.specs.Prelude.{pos}
use Rattle.lrat_check.specs.ShortNumbers.{IsFirstNumber}
use Rattle.lrat_check.proofs.DerivationText.ShortNumberLemmas.{first_number}
use Rattle.lrat_check.proofs.short_numbers.behind_zero.Goals as goal

pub returns : goal.returns
returns c =
    let read = c.short_number-value in
    let number = first_number c.args.line.now read.result.0 read.result.1 (omega (arith, c.if-count-eq0.false)) (read.ensures.number (omega (arith, c.if-count-eq0.false))) in
    let zero : read.result.0 ≡ 0 = omega (arith, c.if-value-ne0.false) in
    subst (λ (rest : List ℕ). IsFirstNumber c.args.line.now (pos 0) rest) (sym c.behind.ensures)
    (subst (λ (n : ℕ). IsFirstNumber c.args.line.now (pos n) (drop (read.result.1 + 1) c.args.line.now)) zero number)
