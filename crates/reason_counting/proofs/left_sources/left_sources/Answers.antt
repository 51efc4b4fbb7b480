use Rattle.std.proofs.Common.{rules, ◌≡◌, List, [], refl, ap, subst, inl}
use Rattle.std.specs.List.{Contains}
use Rattle.trace_semantics.specs.Operation.{location_of, value_read, origin_of}
use Rattle.reason_clauses.specs.SourceRefused.{AreNotGiven, IsNoReader, IsPartlyRefused, NotGiven}
use Rattle.reason_clauses.proofs.RefusedLemmas.{refusal_on}
use Rattle.reason_counting.specs.OtherSources.{IsPartRefused}
use Rattle.reason_counting.specs.declared.left_sources.LeftSources.{LeftSources}
use Rattle.reason_counting.proofs.LeftLemmas.{reader_left}
use Rattle.reason_counting.proofs.OtherLemmas.{are_others, part_orders, part_refused}
use Rattle.reason_counting.proofs.left_sources.left_sources.Goals as goal

pub returns-clause-bars : goal.returns-clause-bars
returns-clause-bars c =
    let read = c.in_ok-read.read in
    let is = c.in_ok-read.ensures.read in
    let left : LeftSources = record { location = read.location; stretches = c.bar_taken_sources.new.left; is_initial_left = c.in_ok-is_initial_left.is_initial_left } in
    reader_left c.args.trace.now c.args.writers.now.by_value c.bar_taken_sources.new.orders.items left c.args.reader is.op read.value read.location.now read.origin.now c.args.pieces.now
    is.location_is refl is.origin_is is.number is.reads c.in_ok-want_pieces.ensures.given c.in_ok-is_initial_left.ensures.bars

pub returns-clause-only : goal.returns-clause-only
returns-clause-only c =
    let t = c.args.trace.now in
    let r = c.args.reader in
    let d = c.in_ok-read.read.value in
    let pieces = c.args.pieces.now in
    let is = c.in_ok-read.ensures.read in
    let origin = c.in_ok-read.read.origin.now in
    let location = c.in_ok-read.read.location.now in
    part_orders t r pieces is.op d origin location is.number is.reads is.origin_is is.location_is c.args.orders.now.items c.bar_taken_sources.new.orders.items c.in_ok-is_initial_left.ensures.only

pub returns-clause-left : goal.returns-clause-left
returns-clause-left c =
    let t = c.args.trace.now in
    let r = c.args.reader in
    let d = c.in_ok-read.read.value in
    let pieces = c.args.pieces.now in
    let is = c.in_ok-read.ensures.read in
    let origin = c.in_ok-read.read.origin.now in
    let location = c.in_ok-read.read.location.now in
    let left : LeftSources = record { location = c.in_ok-read.read.location; stretches = c.bar_taken_sources.new.left; is_initial_left = c.in_ok-is_initial_left.is_initial_left } in
    let none : c.new-stretches.result.items ≡ [] = search rules in
    are_others t r pieces is.op d origin location is.number is.reads is.origin_is is.location_is left refl c.new-stretches.result.items none c.in_ok-is_initial_left.ensures.stretches c.in_ok-is_initial_left.ensures.left

pub returns-in_err-read-clause-refused : goal.returns-in_err-read-clause-refused
returns-in_err-read-clause-refused c =
    refusal_on (IsNoReader c.args.trace.now c.args.reader) (IsPartRefused c.args.trace.now c.args.reader c.args.pieces.now) c.from_residual.result c.in_err-read.field-0.0 c.from_residual.ensures.1 (λ cause h. inl h) c.in_err-read.ensures.refused

pub returns-in_err-want_pieces-clause-refused : goal.returns-in_err-want_pieces-clause-refused
returns-in_err-want_pieces-clause-refused c =
    let t = c.args.trace.now in
    let r = c.args.reader in
    let d = c.in_ok-read.read.value in
    let pieces = c.args.pieces.now in
    let is = c.in_ok-read.ensures.read in
    let origin = c.in_ok-read.read.origin.now in
    let location = c.in_ok-read.read.location.now in
    refusal_on (AreNotGiven t location d r pieces) (IsPartRefused t r pieces) c.from_residual-in_err-want_pieces.result c.in_err-want_pieces.field-0.0 c.from_residual-in_err-want_pieces.ensures.1
    (λ cause h. part_refused t r pieces is.op d origin location is.number is.reads is.origin_is is.location_is cause (NotGiven h)) c.in_err-want_pieces.ensures.refused

pub returns-in_err-is_initial_left-clause-refused : goal.returns-in_err-is_initial_left-clause-refused
returns-in_err-is_initial_left-clause-refused c =
    let t = c.args.trace.now in
    let r = c.args.reader in
    let d = c.in_ok-read.read.value in
    let pieces = c.args.pieces.now in
    let is = c.in_ok-read.ensures.read in
    let origin = c.in_ok-read.read.origin.now in
    let location = c.in_ok-read.read.location.now in
    refusal_on (IsPartlyRefused t r pieces origin location d) (IsPartRefused t r pieces) c.from_residual-in_err-is_initial_left.result c.in_err-is_initial_left.field-0.0 c.from_residual-in_err-is_initial_left.ensures.1
    (part_refused t r pieces is.op d origin location is.number is.reads is.origin_is is.location_is) c.in_err-is_initial_left.ensures.refused
