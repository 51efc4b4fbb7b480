-- Words that write no literal, and words that write no order.
use Rattle.std.proofs.Common.{◌≡◌, ◌≢◌, ◌≤◌, ◌<◌, ℕ, ℤ, List, true, false, sym, ◌∙◌, ap, subst, arith}
use Rattle.std.specs.Prelude.{Some, None, Option, MatchOption, pos, nat_abs, nat_le, nat_lt}
use Rattle.std.proofs.lemmas.Bool.{and_parts, cond-true}
use Rattle.dimacs.specs.Literal.{is_literal, most_variable}
use Rattle.lrat_check.specs.LratFaults.{literal_fault}
use Rattle.lrat_check.specs.declared.lrat_fault.LratCause.{LratCause}
use Rattle.lrat_check.specs.declared.lrat_fault.LratCause.TheVariants.{BadNumber}
use Rattle.text_lines.specs.Numbers.{solver_number}
use Rattle.var_layout.proofs.OrderLemmas.{order_literal_up_to, order_small}
use Rattle.verdict_notes.specs.OpenCubes.{Says, Writes, WritesNone, WritesNoLiteral}
use Rattle.verdict_notes.specs.declared.open_orders.NumberedOrder.{NumberedOrder}

-- 0 is no literal
pub none_of_zero : (word : List ℕ) → solver_number word ≡ Some (pos 0) → WritesNoLiteral word
none_of_zero word zero z is written =
    let same : pos 0 ≡ z = (let both : Some (pos 0) ≡ Some z = sym zero ∙ written in cc) in
    let clash : is_literal (pos 0) ≡ true = subst (λ (x : ℤ). is_literal x ≡ true) (sym same) is in
    absurd (let no : false ≡ true = clash in cc)

-- nor is what a literal must not be
fits : (z : ℤ) (cause : LratCause) → is_literal z ≡ true → literal_fault (Some z) ≡ Some cause → ⊥
fits z cause is fault =
    let most = (and_parts (nat_lt 0 (nat_abs z)) (nat_le (nat_abs z) most_variable) is).1 in
    let well : literal_fault (Some z) ≡ None = cond-true (nat_le (nat_abs z) most_variable) None (Some BadNumber) most in
    absurd (let clash : None ≡ Some cause = sym well ∙ fault in cc)

pub none_of_fault : (word : List ℕ) (cause : LratCause) → literal_fault (solver_number word) ≡ Some cause → WritesNoLiteral word
none_of_fault word cause fault z is written = fits z cause is (subst (λ (o : Option ℤ). literal_fault o ≡ Some cause) written fault)

-- a word that writes no literal writes no order of few operations
pub none_written : (n : ℕ) (word : List ℕ) → n ≤ 160 → WritesNoLiteral word → WritesNone n word
none_written n word few none order w =
    let says : Says n w.0 order.first order.second = w.2 in
    let small = order_small n few in
    let literal = order_literal_up_to most_variable n order.first order.second (omega (arith, small)) says.0 says.1 says.2 in
    none w.0 (subst (λ (z : ℤ). is_literal z ≡ true) says.3 literal) w.1

-- a word that writes a literal which says no order writes none
pub none_said : (n : ℕ) (word : List ℕ) (literal : ℤ) → solver_number word ≡ Some literal → ((i j : ℕ) → Says n literal i j → ⊥) → WritesNone n word
none_said n word literal written none order w =
    let same : w.0 ≡ literal = (let both : Some w.0 ≡ Some literal = sym w.1 ∙ written in cc) in
    none order.first order.second (subst (λ (z : ℤ). Says n z order.first order.second) same w.2)

-- a word that writes a literal which says an order writes it
pub said_written : (n : ℕ) (word : List ℕ) (literal : ℤ) (order : NumberedOrder) → solver_number word ≡ Some literal → Says n literal order.first order.second → Writes n word order
said_written n word literal order written says = (literal, written, says)

-- what is so of the literal is so of the word
pub written_if_said : (n : ℕ) (word : List ℕ) (literal : ℤ) → solver_number word ≡ Some literal → (result : Option NumberedOrder) →
    MatchOption result ((i j : ℕ) → Says n literal i j → ⊥) (λ order. Says n literal order.first order.second) → MatchOption result (WritesNone n word) (Writes n word)
written_if_said n word literal written (Some order) says = said_written n word literal order written says
written_if_said n word literal written None none = none_said n word literal written none
