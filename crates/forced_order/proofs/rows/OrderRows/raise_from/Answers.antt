use Rattle.std.proofs.Common.{◌≤◌, ◌<◌, ◌+◌, ℕ, sym, ◌∙◌, subst, below_more, arith}
use Rattle.std.proofs.lemmas.Bool.{or_parts}
use Rattle.forced_order.specs.Rows.{OrderValue, last_before}
use Rattle.forced_order.proofs.RiseLemmas.{rise_as, rise_joined}
use Rattle.forced_order.proofs.RowLemmas.{raised_over}
use Rattle.forced_order.proofs.rows.OrderRows.raise_from.Goals as goal

pub loop-process-preserved : goal.loop-process-preserved
loop-process-preserved c =
    let old : OrderValue = c.loop-process.self in
    let new : OrderValue = c.raise-more.new.self in
    let q = c.loop-process.process in
    record {
      forced = λ t forced given. raised_over t old new c.args.first c.args.second q c.last_before-place.result forced c.last_before-place.ensures c.raise-more.ensures.raised (c.loop-process.invariant.forced t forced given);
      rise = rise_as c.either-rose.result _ c.args.self.now new c.either-rose.ensures (rise_joined c.loop-process.rose c.raise-more.result c.args.self.now old new c.loop-process.invariant.rise c.raise-more.ensures.rise);
      first = λ e has few. (let none = or_parts c.loop-process.rose c.raise-more.result (sym c.either-rose.ensures ∙ e) in
          subst (λ (o : OrderValue). c.args.first.place ≤ last_before o c.args.second c.args.first.process) (sym (c.raise-more.ensures.rise.same none.1)) (c.loop-process.invariant.first none.0 has few));
      before = λ e has. (let none = or_parts c.loop-process.rose c.raise-more.result (sym c.either-rose.ensures ∙ e) in
          let high = c.raise-more.ensures.high none.1 (c.loop-process.invariant.rise.rows c.args.second has) (omega arith) in
          subst (λ (o : OrderValue). (r : ℕ) → r < q + 1 → last_before o c.args.first r ≤ last_before o c.args.second r) (sym (c.raise-more.ensures.rise.same none.1))
          (below_more (λ (r : ℕ). last_before old c.args.first r ≤ last_before old c.args.second r) q (c.loop-process.invariant.before none.0 has)
          (subst (λ p. p ≤ last_before old c.args.second q) c.last_before-place.ensures high)));
    }
