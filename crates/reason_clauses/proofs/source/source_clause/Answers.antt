use Rattle.std.proofs.Common.{inl}
use Rattle.order_clauses.specs.Numbered.{named}
use Rattle.order_reasons.specs.Sources.{IsSourceClause}
use Rattle.reason_clauses.specs.Made.{Makes}
use Rattle.reason_clauses.specs.SourceRefused.{AreNotGiven, IsNoReader, IsReaderOrder, IsReaderRefused, IsSourceOrder, IsSourceRefused}
use Rattle.reason_clauses.proofs.AddedLemmas.{adds_weaker}
use Rattle.reason_clauses.proofs.ReaderLemmas.{given_refused, reader_order, reader_refused}
use Rattle.reason_clauses.proofs.RefusedLemmas.{refusal_on}
use Rattle.reason_clauses.proofs.SourceLemmas.{source_at, source_holds}
use Rattle.reason_clauses.proofs.source.source_clause.Goals as goal

pub returns-clause-made : goal.returns-clause-made
returns-clause-made c =
    let read = c.in_ok-read.read in
    let is = c.in_ok-read.ensures.read in
    source_at c.args.trace.now c.bar_sources.new.orders.items c.args.reader is.op read.value read.location.now read.origin.now c.args.pieces.now is.location_is is.origin_is is.number is.reads c.in_ok-want_pieces.ensures.given c.in_ok-bar_sources.ensures.bars

pub returns-clause-holds : goal.returns-clause-holds
returns-clause-holds c =
    let made : Makes c.args.trace.now c.bar_sources.new.orders.items (λ clause. IsSourceClause c.args.trace.now clause (named c.args.trace.now c.args.reader)) = returns-clause-made c in
    source_holds c.args.trace.now c.bar_sources.new.orders.items c.args.reader made

pub returns-clause-only : goal.returns-clause-only
returns-clause-only c =
    let t = c.args.trace.now in
    let r = c.args.reader in
    let pieces = c.args.pieces.now in
    let d = c.in_ok-read.read.value in
    let location = c.in_ok-read.read.location.now in
    let origin = c.in_ok-read.read.origin.now in
    let is = c.in_ok-read.ensures.read in
    adds_weaker c.args.orders.now.items c.bar_sources.new.orders.items (IsReaderOrder t r pieces origin location d) (IsSourceOrder t r pieces)
    (reader_order t r pieces is.op d location origin is.location_is is.origin_is is.number is.reads) c.in_ok-bar_sources.ensures.only

pub returns-in_err-read-clause-refused : goal.returns-in_err-read-clause-refused
returns-in_err-read-clause-refused c =
    refusal_on (IsNoReader c.args.trace.now c.args.reader) (IsSourceRefused c.args.trace.now c.args.reader c.args.pieces.now) c.from_residual.result c.in_err-read.field-0.0 c.from_residual.ensures.1 (λ cause h. inl h) c.in_err-read.ensures.refused

pub returns-in_err-want_pieces-clause-refused : goal.returns-in_err-want_pieces-clause-refused
returns-in_err-want_pieces-clause-refused c =
    let t = c.args.trace.now in
    let r = c.args.reader in
    let pieces = c.args.pieces.now in
    let d = c.in_ok-read.read.value in
    let location = c.in_ok-read.read.location.now in
    let is = c.in_ok-read.ensures.read in
    refusal_on (AreNotGiven t location d r pieces) (IsSourceRefused t r pieces) c.from_residual-in_err-want_pieces.result c.in_err-want_pieces.field-0.0 c.from_residual-in_err-want_pieces.ensures.1
    (given_refused t r pieces is.op d location is.location_is is.number is.reads) c.in_err-want_pieces.ensures.refused

pub returns-in_err-bar_sources-clause-refused : goal.returns-in_err-bar_sources-clause-refused
returns-in_err-bar_sources-clause-refused c =
    let t = c.args.trace.now in
    let r = c.args.reader in
    let pieces = c.args.pieces.now in
    let d = c.in_ok-read.read.value in
    let location = c.in_ok-read.read.location.now in
    let origin = c.in_ok-read.read.origin.now in
    let is = c.in_ok-read.ensures.read in
    refusal_on (IsReaderRefused t r pieces origin location d) (IsSourceRefused t r pieces) c.from_residual-in_err-bar_sources.result c.in_err-bar_sources.field-0.0 c.from_residual-in_err-bar_sources.ensures.1
    (reader_refused t r pieces is.op d location origin is.location_is is.origin_is is.number is.reads) c.in_err-bar_sources.ensures.refused
