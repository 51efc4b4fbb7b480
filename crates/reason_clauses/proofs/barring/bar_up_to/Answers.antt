use Rattle.std.proofs.Common.{◌≡◌, true, false, sym, ◌∙◌}
use Rattle.reason_clauses.specs.Numbered.{at_number}
use Rattle.reason_clauses.proofs.NumberedLemmas.{bars_up_to}
use Rattle.reason_clauses.proofs.barring.bar_up_to.Goals as goal

pub returns-clause-bars : goal.returns-clause-bars
returns-clause-bars c =
    let other : c.args.witness ≡ at_number c.args.process c.args.place → ⊥ = λ e. (let clash : true ≡ false = sym (c.are_same.ensures.found e) ∙ c.if-are_same.false in cc) in
    bars_up_to c.bar_hidden.new.orders.items c.args.reader c.args.witness c.args.process c.args.place c.in_ok-bar_hidden.ensures.hidden other
