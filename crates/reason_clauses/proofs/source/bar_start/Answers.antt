use Rattle.std.proofs.Common.{◌≡◌, refl, sym, ◌∙◌}
use Rattle.std.specs.Prelude.{Some, None}
use Rattle.reason_clauses.specs.AddedOrders.{IsOrder}
use Rattle.reason_clauses.specs.SourceRefused.{InitialOpen, IsInitialOrder}
use Rattle.reason_clauses.proofs.AddedLemmas.{adds_weaker}
use Rattle.reason_clauses.proofs.SourceLemmas.{start_by}
use Rattle.reason_clauses.proofs.source.bar_start.Goals as goal

pub returns-clause-bars : goal.returns-clause-bars
returns-clause-bars c =
    start_by c.args.trace.now c.push_order.new.orders.items c.args.reader.now.operation c.in-Some.x c.args.reader.now.read.origin.now c.args.reader.now.pieces.now c.args.reader.now.read.location.now c.args.reader.now.read.value c.start_witness.result
    (c.start_witness.ensures.given c.args.trace.now c.args.reader.now.read.location.now c.args.reader.now.read.value c.args.reader.now.operation) c.in-Some.is c.in_ok-push_order.ensures.says

pub returns-clause-only : goal.returns-clause-only
returns-clause-only c =
    adds_weaker c.args.orders.now.items c.push_order.new.orders.items (IsOrder c.args.reader.now.operation c.in-Some.x) (IsInitialOrder c.args.trace.now c.args.reader.now.operation c.args.reader.now.pieces.now c.args.reader.now.read.origin.now c.args.reader.now.read.location.now c.args.reader.now.read.value)
    (λ o h. (c.in-Some.x, c.may_be_initial.ensures.only c.if-not-may_be_initial.false, c.start_witness.ensures.only c.in-Some.x c.in-Some.is, h)) c.in_ok-push_order.ensures.only

pub returns-in_default-clause-refused : goal.returns-in_default-clause-refused
returns-in_default-clause-refused c =
    InitialOpen (c.may_be_initial.ensures.only c.if-not-may_be_initial.false) (λ x witness. absurd (let clash : None ≡ Some x = sym c.in_default.is ∙ c.start_witness.ensures.found x witness in cc)) refl
