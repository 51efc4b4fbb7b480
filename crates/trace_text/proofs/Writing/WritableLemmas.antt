-- The words of what a trace that can be written says: their names are names, their numbers are in their ranges, and no byte is above 127.
use Rattle.std.proofs.Common.{◌≡◌, ℕ, ◌-◌, ◌^◌, ◌<◌, ◌≤◌, List, [], ◌∷◌, ◌++◌, Bool, true, false, not, ◌&&◌, leb, codes, refl, ap, ◌∙◌, arith}
use Rattle.std.specs.Prelude.{Option, Some, None, is_none, nat_le, nat_lt, if◌then◌else◌}
use Rattle.std.specs.Fmt.{decimal}
use Rattle.std.specs.List.{list_all}
use Rattle.std.specs.Option.{option_and_then}
use Rattle.std.proofs.lemmas.Bool.{and_parts, and_from, or_from, cond-true, ltb-true, leb-true, le-leb}
use Rattle.std.proofs.lemmas.List.Folds.{list_any-append}
use Rattle.text_lines.proofs.Decimals.PlainLemmas.{decimal_is_plain}
use Rattle.trace_text.specs.declared.entry.Entry.{Entry}
use Rattle.trace_text.specs.declared.entry.Entry.TheVariants.{Initial as InitialEntry, Final as FinalEntry, Process as ProcessEntry, Operation as OperationEntry, Before as BeforeEntry}
use Rattle.trace_semantics.specs.declared.operation.Op.{Op}
use Rattle.trace_semantics.specs.declared.operation.Op.TheVariants.{Read as ReadOp, Write as WriteOp, Update as UpdateOp}
use Rattle.trace_semantics.specs.declared.operation.OpName.{OpName}
use Rattle.trace_semantics.specs.declared.operation.Origin.{Origin}
use Rattle.trace_semantics.specs.declared.operation.Origin.TheVariants.{Any, Initial, Operation}
use Rattle.trace_semantics.specs.declared.operation.Span.{Span}
use Rattle.trace_text.specs.Entry.{op_statement, source_of, times_said, statement_for, has_numbers, has_time_numbers}
use Rattle.trace_semantics.specs.Names.{is_name}
use Rattle.trace_text.specs.Seen.{names_of_source}
use Rattle.trace_text.specs.Statement.{source_words, times_words, words_for}
use Rattle.trace_semantics.specs.Trace.{is_written_value, is_written_name, is_written_origin, is_written_span, is_written_op, is_written_pair}
use Rattle.trace_semantics.specs.Place.{place_of}
use Rattle.trace_text.specs.TraceFault.{is_value, is_within, is_place, names_of, references_of_source}
use Rattle.trace_text.proofs.LineWords.HighLemmas.{high_word, high_words, low_name, low_decimal}
use Rattle.trace_text.proofs.LineWords.KnownLemmas.{place_read}
use Rattle.trace_semantics.specs.declared.limits.Limits.{Limits}
use Rattle.trace_semantics.specs.Limits.{max_place}
use Rattle.trace_semantics.specs.Operation.{origin_of}

-- an entry that can be written
abbrev pub is_writable : Entry → Bool
is_writable (InitialEntry location value) = is_written_value (location, value)
is_writable (FinalEntry location value) = is_written_value (location, value)
is_writable (ProcessEntry name) = is_name name
is_writable (OperationEntry op) = is_written_op op
is_writable (BeforeEntry first second) = is_written_pair (first, second)

-- the parts of a name that can be written
pub record IsWritableName (n : OpName) : Type 0 where
  pub named : is_name n.process ≡ true
  pub least : 1 ≤ n.place
  pub most : n.place ≤ 4294967295

pub name_parts : (n : OpName) → is_written_name n ≡ true → IsWritableName n
name_parts n h =
    let outer = and_parts (is_name n.process) (nat_le 1 n.place && nat_le n.place 4294967295) h in
    let inner = and_parts (nat_le 1 n.place) (nat_le n.place 4294967295) outer.1 in
    record { named = outer.0; least = leb-true 1 n.place inner.0; most = leb-true n.place 4294967295 inner.1 }

-- the parts of an operation that can be written
pub record IsWritableRead (location : List ℕ) (value : ℕ) (origin : Origin) (span : Option Span) : Type 0 where
  pub named : is_name location ≡ true
  pub small : value < 2 ^ 64
  pub origin_is : is_written_origin origin ≡ true
  pub span_is : is_written_span span ≡ true

pub read_parts : (a : List ℕ) (d : ℕ) (o : Origin) (span : Option Span) → is_written_op (ReadOp a d o span) ≡ true → IsWritableRead a d o span
read_parts a d o span h =
    let outer = and_parts (is_name a) (nat_lt d (2 ^ 64) && (is_written_origin o && is_written_span span)) h in
    let inner = and_parts (nat_lt d (2 ^ 64)) (is_written_origin o && is_written_span span) outer.1 in
    let last = and_parts (is_written_origin o) (is_written_span span) inner.1 in
    record { named = outer.0; small = ltb-true d (2 ^ 64) inner.0; origin_is = last.0; span_is = last.1 }

pub record IsWritableWrite (location : List ℕ) (value : ℕ) (span : Option Span) : Type 0 where
  pub named : is_name location ≡ true
  pub small : value < 2 ^ 64
  pub span_is : is_written_span span ≡ true

pub write_parts : (a : List ℕ) (d : ℕ) (span : Option Span) → is_written_op (WriteOp a d span) ≡ true → IsWritableWrite a d span
write_parts a d span h =
    let outer = and_parts (is_name a) (nat_lt d (2 ^ 64) && is_written_span span) h in
    let inner = and_parts (nat_lt d (2 ^ 64)) (is_written_span span) outer.1 in
    record { named = outer.0; small = ltb-true d (2 ^ 64) inner.0; span_is = inner.1 }

pub record IsWritableUpdate (location : List ℕ) (read left : ℕ) (origin : Origin) (span : Option Span) : Type 0 where
  pub named : is_name location ≡ true
  pub read_small : read < 2 ^ 64
  pub left_small : left < 2 ^ 64
  pub origin_is : is_written_origin origin ≡ true
  pub span_is : is_written_span span ≡ true

pub update_parts : (a : List ℕ) (d e : ℕ) (o : Origin) (span : Option Span) → is_written_op (UpdateOp a d e o span) ≡ true → IsWritableUpdate a d e o span
update_parts a d e o span h =
    let outer = and_parts (is_name a) (nat_lt d (2 ^ 64) && (nat_lt e (2 ^ 64) && (is_written_origin o && is_written_span span))) h in
    let middle = and_parts (nat_lt d (2 ^ 64)) (nat_lt e (2 ^ 64) && (is_written_origin o && is_written_span span)) outer.1 in
    let inner = and_parts (nat_lt e (2 ^ 64)) (is_written_origin o && is_written_span span) middle.1 in
    let last = and_parts (is_written_origin o) (is_written_span span) inner.1 in
    record { named = outer.0; read_small = ltb-true d (2 ^ 64) middle.0; left_small = ltb-true e (2 ^ 64) inner.0; origin_is = last.0; span_is = last.1 }

pub read_origin : (a : List ℕ) (d : ℕ) (o : Origin) (span : Option Span) → is_written_op (ReadOp a d o span) ≡ true → is_written_origin o ≡ true
read_origin a d o span h = (read_parts a d o span h).origin_is

pub update_origin : (a : List ℕ) (d e : ℕ) (o : Origin) (span : Option Span) → is_written_op (UpdateOp a d e o span) ≡ true → is_written_origin o ≡ true
update_origin a d e o span h = (update_parts a d e o span h).origin_is

pub value_parts : (a : List ℕ) (d : ℕ) → is_written_value (a, d) ≡ true → (is_name a ≡ true) × (d < 2 ^ 64)
value_parts a d h = let parts = and_parts (is_name a) (nat_lt d (2 ^ 64)) h in (parts.0, ltb-true d (2 ^ 64) parts.1)

-- numbers that are written are read
decimal_is_value : (n : ℕ) → n < 2 ^ 64 → is_value (decimal n) ≡ true
decimal_is_value n small =
    ap (λ o. not (is_none (option_and_then (λ k. if leb k (2 ^ 64 - 1) then Some k else None) o))) (decimal_is_plain n small)
    ∙ ap (λ o. not (is_none o)) (cond-true (leb n (2 ^ 64 - 1)) (Some n) None (le-leb n (2 ^ 64 - 1) (omega (arith, small))))

pub place_decimal : (n : OpName) → IsWritableName n → place_of (decimal n.place) ≡ Some n.place
place_decimal n w = place_read n.place (le-leb 1 n.place w.least) (le-leb n.place 4294967295 w.most)

decimal_is_place : (limits : Limits) (n : OpName) → IsWritableName n → nat_le n.place (max_place limits) ≡ true → is_place limits (decimal n.place) ≡ true
decimal_is_place limits n w high = ap (is_within limits) (place_decimal n w) ∙ high

-- the places that are named are no higher than limits allow
abbrev pub is_origin_within : Limits → Origin → Bool
is_origin_within limits Any = true
is_origin_within limits Initial = true
is_origin_within limits (Operation n) = nat_le n.place (max_place limits)

abbrev pub is_entry_within : Limits → Entry → Bool
is_entry_within limits (InitialEntry location value) = true
is_entry_within limits (FinalEntry location value) = true
is_entry_within limits (ProcessEntry name) = true
is_entry_within limits (OperationEntry op) = is_origin_within limits (origin_of op)
is_entry_within limits (BeforeEntry first second) = nat_le first.place (max_place limits) && nat_le second.place (max_place limits)

-- names are names
origin_names : (o : Origin) → is_written_origin o ≡ true → list_all is_name (names_of_source (source_of o)) ≡ true
origin_names Any h = refl
origin_names Initial h = refl
origin_names (Operation n) h = and_from (is_name n.process) true (name_parts n h).named refl

op_names : (op : Op) → is_written_op op ≡ true → list_all is_name (names_of (op_statement op)) ≡ true
op_names (ReadOp a d o span) h = let w = read_parts a d o span h in and_from (is_name a) (list_all is_name (names_of_source (source_of o))) w.named (origin_names o w.origin_is)
op_names (WriteOp a d span) h = and_from (is_name a) true (write_parts a d span h).named refl
op_names (UpdateOp a d e o span) h = let w = update_parts a d e o span h in and_from (is_name a) (list_all is_name (names_of_source (source_of o))) w.named (origin_names o w.origin_is)

pub entry_names : (e : Entry) → is_writable e ≡ true → list_all is_name (names_of (statement_for e)) ≡ true
entry_names (InitialEntry a d) h = and_from (is_name a) true (value_parts a d h).0 refl
entry_names (FinalEntry a d) h = and_from (is_name a) true (value_parts a d h).0 refl
entry_names (ProcessEntry name) h = and_from (is_name name) true h refl
entry_names (OperationEntry op) h = op_names op h
entry_names (BeforeEntry m n) h =
    let parts = and_parts (is_written_name m) (is_written_name n) h in
    and_from (is_name m.process) (is_name n.process && true) (name_parts m parts.0).named (and_from (is_name n.process) true (name_parts n parts.1).named refl)

-- numbers are in their ranges
origin_places : (limits : Limits) (o : Origin) → is_written_origin o ≡ true → is_origin_within limits o ≡ true → list_all (λ (r : List ℕ × List ℕ). is_place limits r.1) (references_of_source (source_of o)) ≡ true
origin_places limits Any h k = refl
origin_places limits Initial h k = refl
origin_places limits (Operation n) h k = and_from (is_place limits (decimal n.place)) true (decimal_is_place limits n (name_parts n h) k) refl

one_value : (d : ℕ) → d < 2 ^ 64 → (is_value (decimal d) && true) ≡ true
one_value d small = and_from (is_value (decimal d)) true (decimal_is_value d small) refl

-- times are numbers
time_numbers : (span : Option Span) → is_written_span span ≡ true → has_time_numbers (times_said span) ≡ true
time_numbers None h = refl
time_numbers (Some span) h =
    let parts = and_parts (nat_lt span.start (2 ^ 64)) (nat_lt span.end (2 ^ 64)) h in
    and_from (is_value (decimal span.start)) (is_value (decimal span.end) && true) (decimal_is_value span.start (ltb-true span.start (2 ^ 64) parts.0)) (one_value span.end (ltb-true span.end (2 ^ 64) parts.1))

op_numbers : (limits : Limits) (op : Op) → is_written_op op ≡ true → is_origin_within limits (origin_of op) ≡ true → has_numbers limits (op_statement op) ≡ true
op_numbers limits (ReadOp a d o span) h k =
    let w = read_parts a d o span h in
    and_from (is_value (decimal d) && has_time_numbers (times_said span)) _ (and_from (is_value (decimal d)) (has_time_numbers (times_said span)) (decimal_is_value d w.small) (time_numbers span w.span_is)) (origin_places limits o w.origin_is k)
op_numbers limits (WriteOp a d span) h k =
    let w = write_parts a d span h in
    and_from (is_value (decimal d) && has_time_numbers (times_said span)) true (and_from (is_value (decimal d)) (has_time_numbers (times_said span)) (decimal_is_value d w.small) (time_numbers span w.span_is)) refl
op_numbers limits (UpdateOp a d e o span) h k =
    let w = update_parts a d e o span h in
    and_from (is_value (decimal d) && (is_value (decimal e) && has_time_numbers (times_said span))) _
    (and_from (is_value (decimal d)) (is_value (decimal e) && has_time_numbers (times_said span)) (decimal_is_value d w.read_small)
    (and_from (is_value (decimal e)) (has_time_numbers (times_said span)) (decimal_is_value e w.left_small) (time_numbers span w.span_is))) (origin_places limits o w.origin_is k)

pub entry_numbers : (limits : Limits) (e : Entry) → is_writable e ≡ true → is_entry_within limits e ≡ true → has_numbers limits (statement_for e) ≡ true
entry_numbers limits (InitialEntry a d) h k = and_from (is_value (decimal d) && true) true (one_value d (value_parts a d h).1) refl
entry_numbers limits (FinalEntry a d) h k = and_from (is_value (decimal d) && true) true (one_value d (value_parts a d h).1) refl
entry_numbers limits (ProcessEntry name) h k = refl
entry_numbers limits (OperationEntry op) h k = op_numbers limits op h k
entry_numbers limits (BeforeEntry m n) h k =
    let parts = and_parts (is_written_name m) (is_written_name n) h in
    let high = and_parts (nat_le m.place (max_place limits)) (nat_le n.place (max_place limits)) k in
    and_from (is_place limits (decimal m.place)) (is_place limits (decimal n.place) && true) (decimal_is_place limits m (name_parts m parts.0) high.0) (and_from (is_place limits (decimal n.place)) true (decimal_is_place limits n (name_parts n parts.1) high.1) refl)

-- no byte is above 127
low_pair : (word : List ℕ) (n : ℕ) (rest : List (List ℕ)) → is_name word ≡ true → n < 2 ^ 64 → high_words rest ≡ false → high_words (word ∷ decimal n ∷ rest) ≡ false
low_pair word n rest named small more = or_from (high_word word) (high_words (decimal n ∷ rest)) (low_name word named) (or_from (high_word (decimal n)) (high_words rest) (low_decimal n small) more)

low_op_name : (n : OpName) (rest : List (List ℕ)) → is_written_name n ≡ true → high_words rest ≡ false → high_words (n.process ∷ decimal n.place ∷ rest) ≡ false
low_op_name n rest h more = let w = name_parts n h in low_pair n.process n.place rest w.named (omega (arith, w.most)) more

low_origin : (o : Origin) → is_written_origin o ≡ true → high_words (source_words (source_of o)) ≡ false
low_origin Any h = refl
low_origin Initial h = refl
low_origin (Operation n) h = or_from (high_word (codes "from")) (high_words (n.process ∷ decimal n.place ∷ [])) refl (low_op_name n [] h refl)

low_times : (span : Option Span) → is_written_span span ≡ true → high_words (times_words (times_said span)) ≡ false
low_times None h = refl
low_times (Some span) h =
    let parts = and_parts (nat_lt span.start (2 ^ 64)) (nat_lt span.end (2 ^ 64)) h in
    or_from (high_word (codes "at")) _ refl (or_from (high_word (decimal span.start)) _ (low_decimal span.start (ltb-true span.start (2 ^ 64) parts.0))
    (or_from (high_word (decimal span.end)) false (low_decimal span.end (ltb-true span.end (2 ^ 64) parts.1)) refl))

low_last : (o : Origin) (span : Option Span) → is_written_origin o ≡ true → is_written_span span ≡ true → high_words (source_words (source_of o) ++ times_words (times_said span)) ≡ false
low_last o span h k =
    list_any-append high_word (source_words (source_of o)) (times_words (times_said span)) ∙ or_from (high_words (source_words (source_of o))) (high_words (times_words (times_said span))) (low_origin o h) (low_times span k)

low_op : (op : Op) → is_written_op op ≡ true → high_words (words_for (op_statement op)) ≡ false
low_op (ReadOp a d o span) h = let w = read_parts a d o span h in or_from (high_word (codes "R")) _ refl (low_pair a d (source_words (source_of o) ++ times_words (times_said span)) w.named w.small (low_last o span w.origin_is w.span_is))
low_op (WriteOp a d span) h = let w = write_parts a d span h in or_from (high_word (codes "W")) _ refl (low_pair a d (times_words (times_said span)) w.named w.small (low_times span w.span_is))
low_op (UpdateOp a d e o span) h =
    let w = update_parts a d e o span h in
    let last = source_words (source_of o) ++ times_words (times_said span) in
    or_from (high_word (codes "U")) _ refl (low_pair a d (decimal e ∷ last) w.named w.read_small (or_from (high_word (decimal e)) (high_words last) (low_decimal e w.left_small) (low_last o span w.origin_is w.span_is)))

pub entry_low : (e : Entry) → is_writable e ≡ true → high_words (words_for (statement_for e)) ≡ false
entry_low (InitialEntry a d) h = let w = value_parts a d h in or_from (high_word (codes "init")) _ refl (low_pair a d [] w.0 w.1 refl)
entry_low (FinalEntry a d) h = let w = value_parts a d h in or_from (high_word (codes "final")) _ refl (low_pair a d [] w.0 w.1 refl)
entry_low (ProcessEntry name) h = or_from (high_word (codes "proc")) _ refl (or_from (high_word name) false (low_name name h) refl)
entry_low (OperationEntry op) h = low_op op h
entry_low (BeforeEntry m n) h =
    let parts = and_parts (is_written_name m) (is_written_name n) h in
    or_from (high_word (codes "before")) _ refl (low_op_name m (n.process ∷ decimal n.place ∷ []) parts.0 (low_op_name n [] parts.1 refl))
