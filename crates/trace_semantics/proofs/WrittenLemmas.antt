-- Numbers as they are written.
use Rattle.std.proofs.Common.{◌≡◌, ℕ, ◌-◌, ◌^◌, ◌<◌, ◌≤◌, List, ap, sym, arith, rules}
use Rattle.std.specs.Prelude.{Option, Some, None, nat_le, if◌then◌else◌, IfSome}
use Rattle.std.specs.Fmt.{decimal}
use Rattle.std.specs.Option.{option_and_then}
use Rattle.std.proofs.lemmas.Bool.Decides.{nat_tests}
use Rattle.std.proofs.lemmas.Option.{cond_some}
use Rattle.text_lines.specs.Numbers.{plain_number, plain_number_up_to}
use Rattle.text_lines.proofs.Decimals.PlainLemmas.{plain_is_decimal}

value_of_option : (o : Option ℕ) (most v : ℕ) → option_and_then (λ n. if nat_le n most then Some n else None) o ≡ Some v → (o ≡ Some v) × (v ≤ most)
value_of_option None most v h = absurd (cc)
value_of_option (Some n) most v h =
    let found = cond_some (nat_le n most) n v h in
    (ap Some found.1, (let le : n ≤ most = grind (arith, nat_tests, found.0) in omega (arith, le, found.1)))

-- a number is written by its digits
pub number_written : (most : ℕ) (d : List ℕ) (v : ℕ) → most < 2 ^ 64 → Some v ≡ plain_number_up_to most d → (d ≡ decimal v) × (v ≤ most)
number_written most d v small h =
    let found = value_of_option (plain_number d) most v (sym h) in
    (plain_is_decimal d v (omega (arith, found.1, small)) found.0, found.1)

pub value_written : (o : Option ℕ) (d : List ℕ) → o ≡ plain_number_up_to (2 ^ 64 - 1) d → IfSome o (λ v. d ≡ decimal v)
value_written None d h = search rules
value_written (Some v) d h = (number_written (2 ^ 64 - 1) d v (omega arith) h).0
