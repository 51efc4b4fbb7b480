-- A statement whose numbers are in their ranges is of an entry.
use Rattle.std.proofs.Common.{◌≡◌, ℕ, ◌-◌, ◌^◌, List, Bool, true, not, ◌&&◌, refl, ap, sym, arith}
use Rattle.std.specs.Prelude.{Option, Some, None, is_none, nat_le, if◌then◌else◌}
use Rattle.std.specs.Fmt.{decimal}
use Rattle.std.specs.List.{list_all}
use Rattle.std.proofs.lemmas.Bool.{and_parts, and_from, lt-ltb, le-leb}
use Rattle.std.proofs.lemmas.Option.{option_and_then_some, cond_some}
use Rattle.text_lines.specs.Numbers.{plain_number_up_to}
use Rattle.trace_text.specs.declared.entry.Entry.{Entry}
use Rattle.trace_text.specs.declared.entry.Entry.TheVariants.{Initial as InitialEntry, Final as FinalEntry, Process as ProcessEntry, Operation as OperationEntry, Before as BeforeEntry}
use Rattle.trace_semantics.specs.declared.operation.Op.TheVariants.{Read as ReadOp, Write as WriteOp, Update as UpdateOp}
use Rattle.trace_semantics.specs.declared.operation.Origin.{Origin}
use Rattle.trace_semantics.specs.declared.operation.Origin.TheVariants.{Any, Initial, Operation}
use Rattle.trace_semantics.specs.declared.operation.Span.{Span}
use Rattle.trace_text.specs.Entry.{source_of, times_said, statement_for, has_numbers, has_time_numbers, fits_value, fits_place, origin_fits, span_fits, entry_fits}
use Rattle.trace_text.specs.Statement.{ReadsFrom, Unsaid, FromInit, FromOp, TimesSaid, Untimed, At, Statement, Init, Final, Proc, Read, Write, Update, Before}
use Rattle.trace_semantics.specs.Place.{place_of}
use Rattle.trace_text.specs.TraceFault.{is_value, is_within, is_place, references_of_source}
use Rattle.trace_semantics.proofs.WrittenLemmas.{number_written}
use Rattle.trace_semantics.specs.declared.limits.Limits.{Limits}

some_of : {X : Type 0} (o : Option X) → not (is_none o) ≡ true → (x : X) × (o ≡ Some x)
some_of None h = absurd (cc)
some_of (Some x) h = (x, refl)

-- the number that a word writes
record Writes (fits : ℕ → Bool) (word : List ℕ) : Type 0 where
  number : ℕ
  digits : decimal number ≡ word
  in_range : fits number ≡ true

value_of : (word : List ℕ) → is_value word ≡ true → Writes fits_value word
value_of word h =
    let found = some_of (plain_number_up_to (2 ^ 64 - 1) word) h in
    let written = number_written (2 ^ 64 - 1) word found.0 (omega arith) (sym found.1) in
    record { number = found.0; digits = sym written.0; in_range = lt-ltb found.0 (2 ^ 64) (omega (arith, written.1)) }

some_place : (limits : Limits) (o : Option ℕ) → is_within limits o ≡ true → (place : ℕ) × (o ≡ Some place)
some_place limits None h = absurd (cc)
some_place limits (Some place) h = (place, refl)

place_written : (limits : Limits) (word : List ℕ) → is_place limits word ≡ true → Writes fits_place word
place_written limits word h =
    let found = some_place limits (place_of word) h in
    option_and_then_some (λ n. if nat_le 1 n then Some n else None) (plain_number_up_to 4294967295 word) found.0 found.1 (λ m plain low.
    let least = cond_some (nat_le 1 m) m found.0 low in
    let written = number_written 4294967295 word m (omega arith) (sym plain) in
    record { number = m; digits = sym written.0; in_range = and_from (nat_le 1 m) (nat_le m 4294967295) least.0 (le-leb m 4294967295 written.1) })

abbrev are_places : Limits → List (List ℕ × List ℕ) → Bool
are_places limits rs = list_all (λ (r : List ℕ × List ℕ). is_place limits r.1) rs

-- the origin that a source says
record SaysOrigin (source : ReadsFrom) : Type 0 where
  origin : Origin
  says : source_of origin ≡ source
  in_range : origin_fits origin ≡ true

origin_said : (limits : Limits) (source : ReadsFrom) → are_places limits (references_of_source source) ≡ true → SaysOrigin source
origin_said limits Unsaid h = record { origin = Any; says = refl; in_range = refl }
origin_said limits FromInit h = record { origin = Initial; says = refl; in_range = refl }
origin_said limits (FromOp process place) h =
    let at = place_written limits place (and_parts (is_place limits place) true h).0 in
    record { origin = Operation (record { process = process; place = at.number }); says = ap (FromOp process) at.digits; in_range = at.in_range }

-- the span that times say
record SaysSpan (times : TimesSaid) : Type 0 where
  span : Option Span
  says : times_said span ≡ times
  in_range : span_fits span ≡ true

span_said : (times : TimesSaid) → has_time_numbers times ≡ true → SaysSpan times
span_said Untimed h = record { span = None; says = refl; in_range = refl }
span_said (At start end) h =
    let parts = and_parts (is_value start) (is_value end && true) h in
    let first = value_of start parts.0 in
    let last = value_of end (and_parts (is_value end) true parts.1).0 in
    record { span = Some (record { start = first.number; end = last.number }); says = (λ i. At (first.digits i) (last.digits i)); in_range = and_from (fits_value first.number) (fits_value last.number) first.in_range last.in_range }

-- the entry that a statement says
pub record SaysEntry (s : Statement) : Type 0 where
  pub entry : Entry
  pub says : statement_for entry ≡ s
  pub in_range : entry_fits entry ≡ true

one_value : (value : List ℕ) (b : Bool) → ((is_value value && true) && b) ≡ true → is_value value ≡ true
one_value value b h = (and_parts (is_value value) true (and_parts (is_value value && true) b h).0).0

pub entry_of : (limits : Limits) (s : Statement) → has_numbers limits s ≡ true → SaysEntry s
entry_of limits (Init a value) h = let v = value_of value (one_value value true h) in record { entry = InitialEntry a v.number; says = ap (Init a) v.digits; in_range = v.in_range }
entry_of limits (Final a value) h = let v = value_of value (one_value value true h) in record { entry = FinalEntry a v.number; says = ap (Final a) v.digits; in_range = v.in_range }
entry_of limits (Proc name) h = record { entry = ProcessEntry name; says = refl; in_range = refl }
entry_of limits (Read a value source times) h =
    let outer = and_parts (is_value value && has_time_numbers times) (are_places limits (references_of_source source)) h in
    let inner = and_parts (is_value value) (has_time_numbers times) outer.0 in
    let v = value_of value inner.0 in
    let o = origin_said limits source outer.1 in
    let t = span_said times inner.1 in
    record {
      entry = OperationEntry (ReadOp a v.number o.origin t.span);
      says = λ i. Read a (v.digits i) (o.says i) (t.says i);
      in_range = and_from (fits_value v.number) (origin_fits o.origin && span_fits t.span) v.in_range (and_from (origin_fits o.origin) (span_fits t.span) o.in_range t.in_range);
    }
entry_of limits (Write a value times) h =
    let inner = and_parts (is_value value) (has_time_numbers times) (and_parts (is_value value && has_time_numbers times) true h).0 in
    let v = value_of value inner.0 in
    let t = span_said times inner.1 in
    record { entry = OperationEntry (WriteOp a v.number t.span); says = λ i. Write a (v.digits i) (t.says i); in_range = and_from (fits_value v.number) (span_fits t.span) v.in_range t.in_range }
entry_of limits (Update a read left source times) h =
    let outer = and_parts (is_value read && (is_value left && has_time_numbers times)) (are_places limits (references_of_source source)) h in
    let inner = and_parts (is_value read) (is_value left && has_time_numbers times) outer.0 in
    let last = and_parts (is_value left) (has_time_numbers times) inner.1 in
    let v = value_of read inner.0 in
    let w = value_of left last.0 in
    let o = origin_said limits source outer.1 in
    let t = span_said times last.1 in
    record {
      entry = OperationEntry (UpdateOp a v.number w.number o.origin t.span);
      says = λ i. Update a (v.digits i) (w.digits i) (o.says i) (t.says i);
      in_range = and_from (fits_value v.number) (fits_value w.number && (origin_fits o.origin && span_fits t.span)) v.in_range
          (and_from (fits_value w.number) (origin_fits o.origin && span_fits t.span) w.in_range (and_from (origin_fits o.origin) (span_fits t.span) o.in_range t.in_range));
    }
entry_of limits (Before process place other other_place) h =
    let parts = and_parts (is_place limits place) (is_place limits other_place && true) h in
    let one = place_written limits place parts.0 in
    let two = place_written limits other_place (and_parts (is_place limits other_place) true parts.1).0 in
    record {
      entry = BeforeEntry (record { process = process; place = one.number }) (record { process = other; place = two.number });
      says = λ i. Before process (one.digits i) other (two.digits i);
      in_range = and_from (fits_place one.number) (fits_place two.number) one.in_range two.in_range;
    }
