use Rattle.std.proofs.Common.{◌≡◌, true, false, refl, ap, sym, ◌∙◌, inl, inr}
use Rattle.std.specs.Prelude.{ℕ, Some, is_some}
use Rattle.order_clauses.specs.Numbered.{named, IsKnown}
use Rattle.reason_clauses.specs.AddedOrders.{IsOrder}
use Rattle.reason_clauses.specs.LastBarred.{IsUnwrittenBy}
use Rattle.reason_clauses.specs.LastRefused.{IsPossibleLast, IsLastOrder}
use Rattle.reason_clauses.specs.Numbered.{at_number}
use Rattle.reason_clauses.proofs.AddedLemmas.{adds_over}
use Rattle.reason_clauses.proofs.LastLemmas.{process_barred_by, nothing_barred, nothing_written, possible_last, silent_past, witness_bars}
use Rattle.reason_clauses.proofs.last.bar_last.Goals as goal

pub returns-in_default-clause-writes : goal.returns-in_default-clause-writes
returns-in_default-clause-writes c =
    nothing_written c.args.trace.now c.args.end.now.location.now c.args.run.now c.last_of.result c.requires.run c.last_of.ensures.member (λ known. c.left_there.ensures.same known ∙ c.in_default.is) c.last_of.ensures.above

pub returns-in_default-clause-bars : goal.returns-in_default-clause-bars
returns-in_default-clause-bars c =
    let silent : (k : ℕ) → IsUnwrittenBy c.args.trace.now c.args.end.now.location.now (at_number c.args.run.now.process k) = returns-in_default-clause-writes c in
    nothing_barred c.args.trace.now c.args.orders.now.items c.args.end.now.location.now c.args.end.now.pieces.now c.args.run.now.process silent

pub returns-then-not-may_be_final-clause-bars : goal.returns-then-not-may_be_final-clause-bars
returns-then-not-may_be_final-clause-bars c =
    let t = c.args.trace.now in
    let location = c.args.end.now.location.now in
    let q = c.args.run.now.process in
    let known : IsKnown t (at_number q c.last_of.result) = c.left_there.ensures.known (ap is_some c.in-Some.is) in
    process_barred_by t c.args.orders.now.items location c.args.end.now.pieces.now q c.last_of.result c.in-Some.left known (c.left_there.ensures.same known ∙ c.in-Some.is) (silent_past t location c.args.run.now c.last_of.result c.requires.run c.last_of.ensures.above)
    (λ clause all given there final_one. absurd (c.may_be_final.ensures.found c.if-not-may_be_final.true (λ d e. final_one d (c.requires.final_value ∙ e))))

pub returns-then-not-may_be_final-clause-writes : goal.returns-then-not-may_be_final-clause-writes
returns-then-not-may_be_final-clause-writes c =
    let t = c.args.trace.now in
    let n = at_number c.args.run.now.process c.last_of.result in
    let known : IsKnown t n = c.left_there.ensures.known (ap is_some c.in-Some.is) in
    (named t n, ap is_some (c.left_there.ensures.same known ∙ c.in-Some.is))

pub returns-clause-writes : goal.returns-clause-writes
returns-clause-writes c =
    let t = c.args.trace.now in
    let n = at_number c.args.run.now.process c.last_of.result in
    let known : IsKnown t n = c.left_there.ensures.known (ap is_some c.in-Some.is) in
    (named t n, ap is_some (c.left_there.ensures.same known ∙ c.in-Some.is))

pub returns-clause-bars : goal.returns-clause-bars
returns-clause-bars c =
    let t = c.args.trace.now in
    let location = c.args.end.now.location.now in
    let q = c.args.run.now.process in
    let n = at_number q c.last_of.result in
    let known : IsKnown t n = c.left_there.ensures.known (ap is_some c.in-Some.is) in
    process_barred_by t c.push_order.new.orders.items location c.args.end.now.pieces.now q c.last_of.result c.in-Some.left known (c.left_there.ensures.same known ∙ c.in-Some.is) (silent_past t location c.args.run.now c.last_of.result c.requires.run c.last_of.ensures.above)
    (witness_bars t c.recall_invariant.ensures c.push_order.new.orders.items location c.args.end.now.pieces.now n c.in-Some-late_witness.x c.in-Some.left c.late_witness.result (c.late_witness.ensures.given t location) c.in-Some-late_witness.is
    (λ e. (let clash : true ≡ false = sym (c.are_same.ensures.found e) ∙ c.if-are_same.false in cc)) c.in_ok-push_order.ensures.says)

pub returns-clause-only : goal.returns-clause-only
returns-clause-only c =
    let t = c.args.trace.now in
    let location = c.args.end.now.location.now in
    let n = at_number c.args.run.now.process c.last_of.result in
    let known : IsKnown t n = c.left_there.ensures.known (ap is_some c.in-Some.is) in
    let possible : IsPossibleLast t location n = possible_last t location n c.in-Some.left c.args.end.now.final_value c.requires.final_value known (c.left_there.ensures.same known ∙ c.in-Some.is) (c.may_be_final.ensures.only c.if-not-may_be_final.false) (silent_past t location c.args.run.now c.last_of.result c.requires.run c.last_of.ensures.above) in
    adds_over c.args.orders.now.items c.args.orders.now.items c.push_order.new.orders.items (IsOrder c.in-Some-late_witness.x n) (IsLastOrder t location c.args.end.now.pieces.now) (λ o h. (c.in-Some-late_witness.x, n, possible, sym c.late_witness.ensures.taker ∙ c.in-Some-late_witness.is, h)) (λ o d. inl d) c.in_ok-push_order.ensures.only

pub returns-in_default-late_witness-clause-refused : goal.returns-in_default-late_witness-clause-refused
returns-in_default-late_witness-clause-refused c =
    let t = c.args.trace.now in
    let location = c.args.end.now.location.now in
    let n = at_number c.args.run.now.process c.last_of.result in
    let known : IsKnown t n = c.left_there.ensures.known (ap is_some c.in-Some.is) in
    let possible : IsPossibleLast t location n = possible_last t location n c.in-Some.left c.args.end.now.final_value c.requires.final_value known (c.left_there.ensures.same known ∙ c.in-Some.is) (c.may_be_final.ensures.only c.if-not-may_be_final.false) (silent_past t location c.args.run.now c.last_of.result c.requires.run c.last_of.ensures.above) in
    (n, possible, inr (sym c.late_witness.ensures.taker ∙ c.in_default-late_witness.is, refl))

pub returns-then-are_same-clause-refused : goal.returns-then-are_same-clause-refused
returns-then-are_same-clause-refused c =
    let t = c.args.trace.now in
    let location = c.args.end.now.location.now in
    let n = at_number c.args.run.now.process c.last_of.result in
    let known : IsKnown t n = c.left_there.ensures.known (ap is_some c.in-Some.is) in
    let possible : IsPossibleLast t location n = possible_last t location n c.in-Some.left c.args.end.now.final_value c.requires.final_value known (c.left_there.ensures.same known ∙ c.in-Some.is) (c.may_be_final.ensures.only c.if-not-may_be_final.false) (silent_past t location c.args.run.now c.last_of.result c.requires.run c.last_of.ensures.above) in
    (n, possible, inl (sym c.late_witness.ensures.taker ∙ c.in-Some-late_witness.is ∙ ap Some (c.are_same.ensures.only c.if-are_same.true), refl))
