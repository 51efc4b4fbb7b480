-- Lists of seats: how they are cut off the first one, and joined again.
use Rattle.std.proofs.Common.{◌≡◌, ℕ, ◌+◌, ◌-◌, ◌<◌, ◌≤◌, min, List, [], ◌∷◌, ◌++◌, length, Some, refl, sym, ◌∙◌, ap, subst, arith}
use Rattle.std.specs.List.{All}
use Rattle.std.proofs.lemmas.List.{map-append, length-append}
use Rattle.std.proofs.lemmas.List.Elements.{All-push, All-pop}
use Rattle.atomic_table.specs.Seated.{TableId}
use Rattle.stop_word.specs.declared.views.View.{View}
use Rattle.stop_word.specs.WordRule.{view_of, least_of, parts_in}
use Rattle.stop_word.specs.Seats.{SeatValue, known_by, KnowsNothing, AreAllSeats}
use Rattle.stop_word.proofs.LeastLemmas.{least-append}
use Rattle.stop_word.proofs.ViewLemmas.{least_in, least_more, parts_more}

known_more : (seats : List SeatValue) (s : SeatValue) → known_by (seats ++ s ∷ []) ≡ known_by seats ++ s.knows ∷ []
known_more seats s = map-append (λ (s : SeatValue). s.knows) seats (s ∷ [])

parts_of_more : (seats : List SeatValue) (s : SeatValue) → parts_in (known_by (seats ++ s ∷ [])) ≡ parts_in (known_by seats) + s.knows.parts
parts_of_more seats s = ap parts_in (known_more seats s) ∙ parts_more (known_by seats) s.knows

least_of_more : (seats : List SeatValue) (s : SeatValue) → least_in (known_by (seats ++ s ∷ [])) ≡ min (least_in (known_by seats)) (least_of s.knows.marks)
least_of_more seats s = ap least_in (known_more seats s) ∙ least_more (known_by seats) s.knows

all_known : (P : View → Type 0) (seats : List SeatValue) (s : SeatValue) → All P (known_by seats) → P s.knows → All P (known_by (seats ++ s ∷ []))
all_known P seats s all mine = subst (All P) (sym (known_more seats s)) (All-push P (known_by seats) s.knows all mine)

-- seats that were cut off the first one, which keeps the parts that are left
pub record AreCut (word : TableId) (count : ℕ) (first : SeatValue) (seats : List SeatValue) : Type 0 where
  pub counted : length seats + 1 ≡ count
  pub at_word : All (λ (s : SeatValue). s.word ≡ word) seats
  pub new : All KnowsNothing (known_by seats)
  pub first_at_word : first.word ≡ word
  pub first_new : KnowsNothing first.knows
  pub parts : parts_in (known_by seats) + first.knows.parts ≡ 8
  pub parts_left : first.knows.parts + count ≡ 9

pub one_cut : (word : TableId) (count : ℕ) (first after new : SeatValue) (seats : List SeatValue) → AreCut word count first seats → 1 < first.knows.parts →
    after.word ≡ first.word → after.knows ≡ view_of first.knows.marks first.knows.least (first.knows.parts - 1) →
    new.word ≡ first.word → new.knows ≡ view_of [] first.knows.least 1 → AreCut word (count + 1) after (seats ++ new ∷ [])
one_cut word count first after new seats cut more after_at left new_at right =
    let left_parts : after.knows.parts ≡ first.knows.parts - 1 = ap (λ (v : View). v.parts) left in
    let new_parts : new.knows.parts ≡ 1 = ap (λ (v : View). v.parts) right in
    let long = length-append seats (new ∷ []) in
    let sum = parts_of_more seats new in
    record {
      counted = omega (arith, long, cut.counted);
      at_word = All-push (λ (s : SeatValue). s.word ≡ word) seats new cut.at_word (new_at ∙ cut.first_at_word);
      new = all_known KnowsNothing seats new cut.new (ap (λ (v : View). v.marks) right, ap (λ (v : View). v.least) right ∙ cut.first_new.1);
      first_at_word = after_at ∙ cut.first_at_word;
      first_new = (ap (λ (v : View). v.marks) left ∙ cut.first_new.0, ap (λ (v : View). v.least) left ∙ cut.first_new.1);
      parts = omega (arith, cut.parts, sum, left_parts, new_parts, more);
      parts_left = omega (arith, cut.parts_left, left_parts, more);
    }

-- the first seat goes to the others
pub all_cut : (word : TableId) (count : ℕ) (first : SeatValue) (seats : List SeatValue) → AreCut word count first seats →
    (length (seats ++ first ∷ []) ≡ count) × AreAllSeats word (seats ++ first ∷ []) × All KnowsNothing (known_by (seats ++ first ∷ []))
all_cut word count first seats cut =
    let long = length-append seats (first ∷ []) in
    let sum = parts_of_more seats first in (
      omega (arith, long, cut.counted),
      record {
        at_word = All-push (λ (s : SeatValue). s.word ≡ word) seats first cut.at_word cut.first_at_word;
        all_parts = omega (arith, sum, cut.parts);
      },
      all_known KnowsNothing seats first cut.new cut.first_new,
    )

-- The whole is what some of these seats know, joined; the rest are still to be joined.
pub record AreJoined (word : TableId) (all : List SeatValue) (whole : SeatValue) (rest : List SeatValue) : Type 0 where
  pub at_word : All (λ (s : SeatValue). s.word ≡ word) rest
  pub whole_at_word : whole.word ≡ word
  pub parts : parts_in (known_by rest) + whole.knows.parts ≡ 8
  pub least : min (least_in (known_by rest)) (least_of whole.knows.marks) ≡ least_in (known_by all)
  pub shown : (n : ℕ) → n ≤ whole.knows.least → All (λ (v : View). n ≤ v.least) (known_by rest) → All (λ (v : View). n ≤ v.least) (known_by all)

all_front : (P : SeatValue → Type 0) (seats : List SeatValue) (s : SeatValue) → All P (seats ++ s ∷ []) → All P seats × P s
all_front P seats s all = All-pop P (seats ++ s ∷ []) seats (Some s) refl all

-- the last one is taken first
pub first_joined : (word : TableId) (all rest : List SeatValue) (last : SeatValue) → all ≡ rest ++ last ∷ [] → AreAllSeats word all → AreJoined word all last rest
first_joined word all rest last is seats =
    let at = all_front (λ (s : SeatValue). s.word ≡ word) rest last (subst (All (λ (s : SeatValue). s.word ≡ word)) is seats.at_word) in
    record {
      at_word = at.0;
      whole_at_word = at.1;
      parts = sym (parts_of_more rest last) ∙ sym (ap (λ ss. parts_in (known_by ss)) is) ∙ seats.all_parts;
      least = sym (least_of_more rest last) ∙ sym (ap (λ ss. least_in (known_by ss)) is);
      shown = λ n mine others. subst (λ ss. All (λ (v : View). n ≤ v.least) (known_by ss)) (sym is) (all_known (λ (v : View). n ≤ v.least) rest last others mine);
    }

pub one_joined : (word : TableId) (all before rest : List SeatValue) (whole seat after : SeatValue) → AreJoined word all whole before → before ≡ rest ++ seat ∷ [] → after.word ≡ whole.word →
    after.knows ≡ view_of (whole.knows.marks ++ seat.knows.marks) (min whole.knows.least seat.knows.least) (whole.knows.parts + seat.knows.parts) → AreJoined word all after rest
one_joined word all before rest whole seat after joined is after_at both =
    let at = all_front (λ (s : SeatValue). s.word ≡ word) rest seat (subst (All (λ (s : SeatValue). s.word ≡ word)) is joined.at_word) in
    let sum : parts_in (known_by before) ≡ parts_in (known_by rest) + seat.knows.parts = ap (λ ss. parts_in (known_by ss)) is ∙ parts_of_more rest seat in
    let lower : least_in (known_by before) ≡ min (least_in (known_by rest)) (least_of seat.knows.marks) = ap (λ ss. least_in (known_by ss)) is ∙ least_of_more rest seat in
    let parts : after.knows.parts ≡ whole.knows.parts + seat.knows.parts = ap (λ (v : View). v.parts) both in
    let least : after.knows.least ≡ min whole.knows.least seat.knows.least = ap (λ (v : View). v.least) both in
    let marks : least_of after.knows.marks ≡ min (least_of whole.knows.marks) (least_of seat.knows.marks) = ap (λ (v : View). least_of v.marks) both ∙ least-append whole.knows.marks seat.knows.marks in
    record {
      at_word = at.0;
      whole_at_word = after_at ∙ joined.whole_at_word;
      parts = omega (arith, joined.parts, sum, parts);
      least = omega (arith, joined.least, lower, marks);
      shown = λ n mine others.
          joined.shown n (omega (arith, mine, least)) (subst (λ ss. All (λ (v : View). n ≤ v.least) (known_by ss)) (sym is) (all_known (λ (v : View). n ≤ v.least) rest seat others (omega (arith, mine, least))));
    }
