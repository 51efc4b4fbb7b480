use Rattle.std.proofs.Common.{◌≡◌, ℕ, ◌<◌, List, Bool, length, arith}
use Rattle.std.specs.Prelude.{Option, Some, None, position}
use Rattle.std.specs.List.{position_or_len}
use Rattle.std.proofs.lemmas.Bool.{false_from_ne_true}
use Rattle.std.proofs.lemmas.Bool.Decides.{nat_tests}
use Rattle.std.proofs.lemmas.List.Sums.{position_or_len_is}
use Rattle.memchr.specs.Find.{IsFirstByte}
use Rattle.text_lines.specs.Lines.{is_line_feed}
use Rattle.text_lines.proofs.lines.find_line_feed.Goals as goal

-- The first place that passes, as the kit's search says it.

first_place : (p : ℕ → Bool) (xs : List ℕ) (r : Option ℕ) → IsFirstByte p xs r → r ≡ position p xs
first_place p xs None h =
    let end : position_or_len p xs ≡ length xs = position_or_len_is p xs (length xs) 0 (omega arith) (λ k l. false_from_ne_true _ (h k (omega arith) l)) (λ l. absurd (omega arith)) in
    grind (arith, nat_tests, end)
first_place p xs (Some k) h =
    let at : position_or_len p xs ≡ k = position_or_len_is p xs k 0 (omega (arith, h.0.high)) (λ j l. false_from_ne_true _ (h.0.before j (omega arith) l)) (λ _. h.1) in
    let within : k < length xs = h.0.high in
    grind (arith, nat_tests, at, within)

pub returns : goal.returns
returns c = first_place is_line_feed c.args.text.now c.memchr.result c.memchr.ensures
