-- How the name of an operation is written and read.
use Rattle.std.proofs.Common.{◌≡◌, ℕ, ◌+◌, ◌^◌, ◌<◌, ◌≤◌, List, [], ◌∷◌, ◌++◌, length, take, drop, get_or, Bool, true, false, cond, not, ◌&&◌, ◌||◌, ltb, leb, suc, refl, ap, sym, ◌∙◌, arith, append_assoc}
use Rattle.std.specs.Prelude.{Option, Some, None, is_none, position}
use Rattle.std.specs.List.{list_all, list_any, before_first, after_first, position_or_len}
use Rattle.std.specs.Option.{option_and_then}
use Rattle.std.specs.Fmt.{decimal}
use Rattle.std.proofs.lemmas.Bool.{and_parts, and_from, or_parts, or_right, eqb-true, ltb-true, ltb-false, le-leb, lt-leb, leb-true, leb-false, cond-true, false≢true, false_from_ne_true}
use Rattle.std.proofs.lemmas.Fmt.{decimal_injective}
use Rattle.std.proofs.lemmas.Option.{cond_some, none-some, option_and_then_some}
use Rattle.std.proofs.lemmas.List.{take_at, drop_at, length_push}
use Rattle.std.proofs.lemmas.List.Folds.{list_any-append, list_any_at}
use Rattle.std.proofs.lemmas.List.Sums.{split_at_first, passes_at_first}
use Rattle.text_lines.specs.Numbers.{plain_number, plain_number_up_to}
use Rattle.text_lines.proofs.Decimals.PlainLemmas.{plain_is_decimal, decimal_is_plain}
use Rattle.trace_semantics.specs.declared.operation.OpName.{OpName}
use Rattle.schedule_text.specs.declared.schedule_fault.ScheduleCause.{ScheduleCause}
use Rattle.schedule_text.specs.declared.schedule_fault.ScheduleCause.TheVariants.{BadName, BadNumber, TooMany}
use Rattle.trace_semantics.proofs.NameByteLemmas.{apart, none_in_name, name_bytes}
use Rattle.trace_semantics.specs.Names.{is_name, may_be_in_name}
use Rattle.trace_semantics.specs.Place.{place_of}
use Rattle.schedule_text.specs.ScheduleText.{place_within, name_word, is_op_name, is_dot, name_fault}
use Rattle.trace_semantics.specs.declared.limits.Limits.{Limits}
use Rattle.trace_semantics.specs.Limits.{max_operations, max_place}
use Rattle.trace_semantics.proofs.LimitLemmas.{places_in}

-- an element passes if and only if the first place that passes is within the list
found_within_of : (b any : Bool) (m n : ℕ) → (b || any) ≡ true → (any ≡ true → m < n) → cond (not b) (1 + m) 0 < suc n
found_within_of true any m n h more = omega arith
found_within_of false any m n h more = omega (arith, more h)

pub found_within : (p : ℕ → Bool) (xs : List ℕ) → list_any p xs ≡ true → position_or_len p xs < length xs
found_within p [] h = absurd (false≢true h)
found_within p (x ∷ xs) h = found_within_of (p x) (list_any p xs) (position_or_len p xs) (length xs) h (found_within p xs)

no_place : (b : Bool) (i : ℕ) → None ≡ cond b (Some i) None → b ≡ false
no_place true i e = absurd (none-some i e)
no_place false i e = refl

pub position_none : (p : ℕ → Bool) (xs : List ℕ) → None ≡ position p xs → list_any p xs ≡ false
position_none p xs e =
    let least = ltb-false _ _ (no_place (ltb (position_or_len p xs) (length xs)) (position_or_len p xs) e) in
    false_from_ne_true (list_any p xs) (λ h. omega (arith, least, found_within p xs h))

pub position_some : (p : ℕ → Bool) (xs : List ℕ) (i : ℕ) → Some i ≡ position p xs → (list_any p xs ≡ true) × (i ≡ position_or_len p xs) × (i < length xs)
position_some p xs i e =
    let found = cond_some (ltb (position_or_len p xs) (length xs)) (position_or_len p xs) i (sym e) in
    let within = ltb-true _ _ found.0 in
    (list_any_at p xs (position_or_len p xs) 0 within (passes_at_first p xs 0 within), sym found.1, omega (arith, within, found.1))

undotted : (p : List ℕ) → list_all may_be_in_name p ≡ true → list_any is_dot p ≡ false
undotted = none_in_name is_dot (λ x. apart 46 x refl)

dot_place : (p d : List ℕ) → list_any is_dot p ≡ false → position_or_len is_dot (p ++ 46 ∷ d) ≡ length p
dot_place [] d h = refl
dot_place (x ∷ xs) d h =
    let parts = or_parts (is_dot x) (list_any is_dot xs) h in
    ap (λ b. cond (not b) (1 + position_or_len is_dot (xs ++ 46 ∷ d)) 0) parts.0 ∙ omega (arith, dot_place xs d parts.1)

dotted : (p d : List ℕ) → list_any is_dot (p ++ 46 ∷ d) ≡ true
dotted p d = list_any-append is_dot p (46 ∷ d) ∙ or_right (list_any is_dot p) true refl

before_dot : (p d : List ℕ) → list_any is_dot p ≡ false → before_first is_dot (p ++ 46 ∷ d) ≡ p
before_dot p d h = ap (λ k. take k (p ++ 46 ∷ d)) (dot_place p d h) ∙ take_at p (46 ∷ d) (length p) refl

after_dot : (p d : List ℕ) → list_any is_dot p ≡ false → after_first is_dot (p ++ 46 ∷ d) ≡ d
after_dot p d h =
    ap (λ k. drop (k + 1) (p ++ 46 ∷ d)) (dot_place p d h)
    ∙ ap (drop (length p + 1)) (sym (append_assoc p (46 ∷ []) d))
    ∙ drop_at (p ++ 46 ∷ []) d (length p + 1) (length_push p 46)

-- a word with a dot is what stands before it, the dot, and what stands after it
cut_word_at_dot : (word : List ℕ) → list_any is_dot word ≡ true → word ≡ before_first is_dot word ++ 46 ∷ after_first is_dot word
cut_word_at_dot word h =
    let within = found_within is_dot word h in
    let byte : get_or word (position_or_len is_dot word) 0 ≡ 46 = eqb-true (get_or word (position_or_len is_dot word) 0) 46 (passes_at_first is_dot word 0 within) in
    split_at_first is_dot word 0 within ∙ ap (λ b. before_first is_dot word ++ b ∷ after_first is_dot word) byte

-- a place is written in decimal
pub place_some : (limits : Limits) (word : List ℕ) (k : ℕ) → place_within limits word ≡ Some k → (word ≡ decimal k) × (1 ≤ k) × (k ≤ max_place limits)
place_some limits word k e =
    option_and_then_some (λ n. cond (leb n (max_place limits)) (Some n) None) (place_of word) k e (λ p read bounded.
    let within = cond_some (leb p (max_place limits)) p k bounded in
    let highest = leb-true p (max_place limits) within.0 in
    option_and_then_some (λ n. cond (leb 1 n) (Some n) None) (plain_number_up_to 4294967295 word) p read (λ m plain low.
    let least = cond_some (leb 1 m) m p low in
    option_and_then_some (λ n. cond (leb n 4294967295) (Some n) None) (plain_number word) m plain (λ j number high.
    let most = cond_some (leb j 4294967295) j m high in
    let below = leb-true j 4294967295 most.0 in
    let above = leb-true 1 m least.0 in
    let small : j < 2 ^ 64 = omega (arith, below) in
    (plain_is_decimal word j small number ∙ ap decimal (most.1 ∙ least.1 ∙ within.1), omega (arith, above, least.1, within.1), omega (arith, highest, within.1)))))

place_read : (k : ℕ) → 1 ≤ k → k ≤ 4294967295 → place_of (decimal k) ≡ Some k
place_read k low high =
    ap (λ o. option_and_then (λ n. cond (leb 1 n) (Some n) None) (option_and_then (λ n. cond (leb n 4294967295) (Some n) None) o)) (decimal_is_plain k (omega (arith, high)))
    ∙ ap (option_and_then (λ n. cond (leb 1 n) (Some n) None)) (cond-true (leb k 4294967295) (Some k) None (le-leb k 4294967295 high))
    ∙ cond-true (leb 1 k) (Some k) None (le-leb 1 k low)

pub place_decimal : (limits : Limits) (k : ℕ) → 1 ≤ k → k ≤ max_place limits → place_within limits (decimal k) ≡ Some k
place_decimal limits k low high =
    ap (option_and_then (λ n. cond (leb n (max_place limits)) (Some n) None)) (place_read k low (omega (arith, high, places_in limits)))
    ∙ cond-true (leb k (max_place limits)) (Some k) None (le-leb k (max_place limits) high)

-- the parts of a name that can be written
pub record IsWritable (limits : Limits) (n : OpName) : Type 0 where
  pub name : is_name n.process ≡ true
  pub low : 1 ≤ n.place
  pub high : n.place ≤ max_place limits
  pub small : n.place ≤ 4294967295

pub writable : (limits : Limits) (n : OpName) → is_op_name limits n ≡ true → IsWritable limits n
writable limits n h =
    let outer = and_parts (is_name n.process && leb 1 n.place) (leb n.place (max_place limits)) h in
    let inner = and_parts (is_name n.process) (leb 1 n.place) outer.0 in
    let most = leb-true n.place (max_place limits) outer.1 in
    record { name = inner.0; low = leb-true 1 n.place inner.1; high = most; small = omega (arith, most, places_in limits) }

pub op_name_from : (limits : Limits) (n : OpName) → is_name n.process ≡ true → 1 ≤ n.place → n.place ≤ max_place limits → is_op_name limits n ≡ true
op_name_from limits n name low high = and_from _ _ (and_from _ _ name (le-leb 1 n.place low)) (le-leb n.place (max_place limits) high)

pub name_undotted : (p : List ℕ) → is_name p ≡ true → list_any is_dot p ≡ false
name_undotted p h = undotted p (name_bytes p h)

-- the three tests of a word, in their order
abbrev tested : Bool → Bool → Option ℕ → Bool → Option ScheduleCause
tested dot name place full = cond (not (dot && name)) (Some BadName) (cond (is_none place) (Some BadNumber) (cond full (Some TooMany) None))

record Passed (dot name : Bool) (place : Option ℕ) (full : Bool) : Type 0 where
  dotted : dot ≡ true
  named : name ≡ true
  placed : is_none place ≡ false
  room : full ≡ false

all_passed : (dot name : Bool) (place : Option ℕ) (full : Bool) → tested dot name place full ≡ None → Passed dot name place full
all_passed false name place full e = absurd (none-some BadName (sym e))
all_passed true false place full e = absurd (none-some BadName (sym e))
all_passed true true None full e = absurd (none-some BadNumber (sym e))
all_passed true true (Some k) true e = absurd (none-some TooMany (sym e))
all_passed true true (Some k) false e = record { dotted = refl; named = refl; placed = refl; room = refl }

-- a word without a fault is the name of its parts
pub record IsNameRead (limits : Limits) (earlier : ℕ) (word : List ℕ) (n : OpName) : Type 0 where
  pub reads : word ≡ name_word n
  pub written : is_op_name limits n ≡ true
  pub room : earlier < max_operations limits

pub name_read : (limits : Limits) (earlier : ℕ) (word : List ℕ) (n : OpName) → name_fault limits earlier word ≡ None → n.process ≡ before_first is_dot word → place_within limits (after_first is_dot word) ≡ Some n.place → IsNameRead limits earlier word n
name_read limits earlier word n clear process place =
    let passed = all_passed (list_any is_dot word) (is_name (before_first is_dot word)) (place_within limits (after_first is_dot word)) (leb (max_operations limits) earlier) clear in
    let number = place_some limits (after_first is_dot word) n.place place in
    record {
      reads = cut_word_at_dot word passed.dotted ∙ (λ i. sym process i ++ 46 ∷ number.0 i);
      written = op_name_from limits n (ap is_name process ∙ passed.named) number.1 number.2;
      room = leb-false (max_operations limits) earlier passed.room;
    }

some_place : (o : Option ℕ) → is_none o ≡ false → (k : ℕ) × (o ≡ Some k)
some_place None h = absurd (false≢true (sym h))
some_place (Some k) h = (k, refl)

pub some_name : (limits : Limits) (earlier : ℕ) (word : List ℕ) → name_fault limits earlier word ≡ None → (n : OpName) × IsNameRead limits earlier word n
some_name limits earlier word clear =
    let passed = all_passed (list_any is_dot word) (is_name (before_first is_dot word)) (place_within limits (after_first is_dot word)) (leb (max_operations limits) earlier) clear in
    let place = some_place (place_within limits (after_first is_dot word)) passed.placed in
    let n : OpName = record { process = before_first is_dot word; place = place.0 } in
    (n, name_read limits earlier word n clear refl place.1)

-- a name that can be written has no fault
pub name_clear : (limits : Limits) (earlier : ℕ) (n : OpName) → is_op_name limits n ≡ true → earlier < max_operations limits → name_fault limits earlier (name_word n) ≡ None
name_clear limits earlier n h room =
    let parts = writable limits n h in
    let none = name_undotted n.process parts.name in
    let dot = dotted n.process (decimal n.place) in
    let name = ap is_name (before_dot n.process (decimal n.place) none) ∙ parts.name in
    let place = ap (place_within limits) (after_dot n.process (decimal n.place) none) ∙ place_decimal limits n.place parts.low parts.high in
    let few = lt-leb (max_operations limits) earlier room in
    (λ i. tested (dot i) (name i) (place i) (few i))

-- a word writes one name
pub same_name : (limits : Limits) (m n : OpName) → is_op_name limits m ≡ true → is_op_name limits n ≡ true → name_word m ≡ name_word n → m ≡ n
same_name limits m n h k e =
    let first = writable limits m h in
    let second = writable limits n k in
    let process = sym (before_dot m.process (decimal m.place) (name_undotted m.process first.name)) ∙ ap (before_first is_dot) e ∙ before_dot n.process (decimal n.place) (name_undotted n.process second.name) in
    let digits = sym (after_dot m.process (decimal m.place) (name_undotted m.process first.name)) ∙ ap (after_first is_dot) e ∙ after_dot n.process (decimal n.place) (name_undotted n.process second.name) in
    let place = decimal_injective m.place n.place (omega (arith, first.small)) (omega (arith, second.small)) digits in
    (λ i. record { process = process i; place = place i })
