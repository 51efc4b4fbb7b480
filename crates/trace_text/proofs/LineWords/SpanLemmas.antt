-- The spans of operations, as their statements say them: their times are numbers, and none ends before it starts.
use Rattle.std.proofs.Common.{◌≡◌, ℕ, ◌-◌, ◌^◌, ◌<◌, List, map, Bool, true, false, not, ◌&&◌, leb, refl, ap, sym, ◌∙◌, arith, subst}
use Rattle.std.specs.Prelude.{Option, Some, None, nat_lt, if◌then◌else◌}
use Rattle.std.specs.Fmt.{decimal}
use Rattle.std.specs.List.{Contains, filter, flat_map, list_any, list_all}
use Rattle.std.specs.Option.{option_and_then}
use Rattle.std.proofs.lemmas.Bool.{and_parts, cond-true, le-leb, le-ltb, ltb-true, ltb-false}
use Rattle.text_lines.specs.FirstFault.{IsFaultless}
use Rattle.text_lines.specs.Numbers.{plain_number_up_to}
use Rattle.text_lines.proofs.Decimals.PlainLemmas.{decimal_is_plain}
use Rattle.trace_semantics.specs.declared.limits.Limits.{Limits}
use Rattle.trace_semantics.specs.declared.operation.Op.{Op}
use Rattle.trace_semantics.specs.declared.operation.Op.TheVariants.{Read as ReadOp, Write as WriteOp, Update as UpdateOp}
use Rattle.trace_semantics.specs.declared.operation.Span.{Span}
use Rattle.trace_semantics.specs.declared.trace.Process.{Process}
use Rattle.trace_semantics.specs.Names.{is_name}
use Rattle.trace_semantics.specs.Operation.{span_of}
use Rattle.trace_semantics.specs.Trace.{IsSpan, is_written_origin, is_written_span, is_written_op, is_written_process}
use Rattle.trace_semantics.proofs.ElementLemmas.{placed, tail_in, all_pass, from_filter, to_map, to_flat_map}
use Rattle.trace_text.specs.declared.trace_fault.TraceCause.{TraceCause}
use Rattle.trace_text.specs.declared.trace_fault.TraceCause.TheVariants.{BadName, BadNumber, OpOutsideProc, LateHeaderLine, EndsBeforeStart}
use Rattle.trace_text.specs.declared.entry.Entry.{Entry}
use Rattle.trace_text.specs.declared.entry.Entry.TheVariants.{Initial as InitialEntry, Final as FinalEntry, Process as ProcessEntry, Operation as OperationEntry, Before as BeforeEntry}
use Rattle.trace_text.specs.Entry.{op_statement, statement_for, times_said, has_numbers, fits_value, origin_fits, span_fits, op_fits, entry_fits, is_turned_span, is_turned}
use Rattle.trace_text.specs.Gathered.{is_of_process, process_statements}
use Rattle.trace_text.specs.Statement.{Statement, Proc}
use Rattle.trace_text.specs.TraceFault.{is_proc, is_operation, is_value_line, names_of, times_of, is_less, are_turned, or_else, statement_fault}

-- a number that is written is read
pub number_read : (n : ℕ) → n < 2 ^ 64 → plain_number_up_to (2 ^ 64 - 1) (decimal n) ≡ Some n
number_read n small =
    ap (λ o. option_and_then (λ k. if leb k (2 ^ 64 - 1) then Some k else None) o) (decimal_is_plain n small)
    ∙ cond-true (leb n (2 ^ 64 - 1)) (Some n) None (le-leb n (2 ^ 64 - 1) (omega (arith, small)))

-- the span of an operation that can be written
pub span_written : (op : Op) → is_written_op op ≡ true → is_written_span (span_of op) ≡ true
span_written (ReadOp a d o span) h =
    let rest = and_parts (nat_lt d (2 ^ 64)) (is_written_origin o && is_written_span span) (and_parts (is_name a) (nat_lt d (2 ^ 64) && (is_written_origin o && is_written_span span)) h).1 in
    (and_parts (is_written_origin o) (is_written_span span) rest.1).1
span_written (WriteOp a d span) h = (and_parts (nat_lt d (2 ^ 64)) (is_written_span span) (and_parts (is_name a) (nat_lt d (2 ^ 64) && is_written_span span) h).1).1
span_written (UpdateOp a d e o span) h =
    let first = and_parts (is_name a) (nat_lt d (2 ^ 64) && (nat_lt e (2 ^ 64) && (is_written_origin o && is_written_span span))) h in
    let second = and_parts (nat_lt d (2 ^ 64)) (nat_lt e (2 ^ 64) && (is_written_origin o && is_written_span span)) first.1 in
    let third = and_parts (nat_lt e (2 ^ 64)) (is_written_origin o && is_written_span span) second.1 in
    (and_parts (is_written_origin o) (is_written_span span) third.1).1

pub span_from_fits : (span : Option Span) → span_fits span ≡ true → is_written_span span ≡ true
span_from_fits None h = refl
span_from_fits (Some span) h = h

-- what the two times of a span compare as
less_said : (span : Span) → is_written_span (Some span) ≡ true → are_turned (times_said (Some span)) ≡ nat_lt span.end span.start
less_said span w =
    let small = and_parts (nat_lt span.start (2 ^ 64)) (nat_lt span.end (2 ^ 64)) w in
    let start = number_read span.start (ltb-true span.start (2 ^ 64) small.0) in
    let end = number_read span.end (ltb-true span.end (2 ^ 64) small.1) in
    (λ i. is_less (end i) (start i))

-- times that are not turned are those of a span
span_from : (span : Option Span) → is_written_span span ≡ true → are_turned (times_said span) ≡ false → IsSpan span
span_from None w h = tt
span_from (Some span) w h = ltb-false span.end span.start (sym (less_said span w) ∙ h)

span_straight : (span : Option Span) → is_written_span span ≡ true → IsSpan span → are_turned (times_said span) ≡ false
span_straight None w ok = refl
span_straight (Some span) w ok = less_said span w ∙ le-ltb span.end span.start ok

times_are : (op : Op) → times_of (op_statement op) ≡ times_said (span_of op)
times_are (ReadOp a d o span) = refl
times_are (WriteOp a d span) = refl
times_are (UpdateOp a d e o span) = refl

-- an operation that does not end before it starts says so
pub op_straight : (op : Op) → is_written_op op ≡ true → IsSpan (span_of op) → are_turned (times_of (op_statement op)) ≡ false
op_straight op w ok = ap are_turned (times_are op) ∙ span_straight (span_of op) (span_written op w) ok

op_span_fits : (op : Op) → op_fits op ≡ true → is_written_span (span_of op) ≡ true
op_span_fits (ReadOp a d o span) h = span_from_fits span (and_parts (origin_fits o) (span_fits span) (and_parts (fits_value d) (origin_fits o && span_fits span) h).1).1
op_span_fits (WriteOp a d span) h = span_from_fits span (and_parts (fits_value d) (span_fits span) h).1
op_span_fits (UpdateOp a d e o span) h =
    let rest = and_parts (fits_value e) (origin_fits o && span_fits span) (and_parts (fits_value d) (fits_value e && (origin_fits o && span_fits span)) h).1 in
    span_from_fits span (and_parts (origin_fits o) (span_fits span) rest.1).1

span_turned : (span : Option Span) → is_written_span span ≡ true → are_turned (times_said span) ≡ is_turned_span span
span_turned None w = refl
span_turned (Some span) w = less_said span w

-- an entry ends before it starts if and only if its statement says so
pub turned_said : (e : Entry) → entry_fits e ≡ true → are_turned (times_of (statement_for e)) ≡ is_turned e
turned_said (InitialEntry a d) h = refl
turned_said (FinalEntry a d) h = refl
turned_said (ProcessEntry name) h = refl
turned_said (OperationEntry op) h = ap are_turned (times_are op) ∙ span_turned (span_of op) (op_span_fits op h)
turned_said (BeforeEntry m n) h = refl

not_turned : (a b c d e : Bool) (rest : Option TraceCause) →
    or_else (if a then Some LateHeaderLine else if b then Some OpOutsideProc else if c then Some BadName else if d then Some BadNumber else if e then Some EndsBeforeStart else None) rest ≡ None → e ≡ false
not_turned true b c d e rest h = absurd (cc)
not_turned false true c d e rest h = absurd (cc)
not_turned false false true d e rest h = absurd (cc)
not_turned false false false true e rest h = absurd (cc)
not_turned false false false false true rest h = absurd (cc)
not_turned false false false false false rest h = refl

-- a statement without a fault ends no earlier than it starts
straight_from : (limits : Limits) (earlier : List Statement) (s : Statement) → statement_fault limits earlier s ≡ None → are_turned (times_of s) ≡ false
straight_from limits earlier s h =
    not_turned (is_value_line s && list_any is_proc earlier) (is_operation s && not (list_any is_proc earlier)) (not (list_all is_name (names_of s))) (not (has_numbers limits s)) (are_turned (times_of s)) _ h

-- statements without a fault are of operations that do not end before they start
pub span_right : (limits : Limits) (ss : List Statement) (ps : List Process) → IsFaultless (statement_fault limits) ss → filter is_of_process ss ≡ flat_map process_statements ps → list_all is_written_process ps ≡ true →
    (p : Process) → Contains ps p → (op : Op) → Contains p.operations op → IsSpan (span_of op)
span_right limits ss ps f e w p c op d =
    let listed : Contains (flat_map process_statements ps) (op_statement op) = to_flat_map process_statements ps p (op_statement op) c (tail_in (Proc p.name) (map op_statement p.operations) (op_statement op) (to_map op_statement p.operations op d)) in
    let there : Contains ss (op_statement op) = (from_filter is_of_process ss (op_statement op) (subst (λ (l : List Statement). Contains l (op_statement op)) (sym e) listed)).0 in
    let at = placed ss (op_statement op) there in
    let straight = straight_from limits at.front (op_statement op) (f at.front (op_statement op) at.back at.parts) in
    let written = and_parts (is_name p.name) (list_all is_written_op p.operations) (all_pass is_written_process ps w p c) in
    span_from (span_of op) (span_written op (all_pass is_written_op p.operations written.1 op d)) (ap are_turned (sym (times_are op)) ∙ straight)
