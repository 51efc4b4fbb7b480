use Rattle.std.proofs.Common.{◌≡◌, [], ◌∷◌, ◌++◌, length, sym, ◌∙◌, ap, append_assoc, arith}
use Rattle.std.specs.Vec.Iter.{into_iter_items}
use Rattle.result_ledger.proofs.EnteredLemmas.{all_entered, entered, entered_on, keeps_cubes, next_fits}
use Rattle.result_ledger.proofs.entering.enter_all.Goals as goal

pub enter_one-requires : goal.enter_one-requires
enter_one-requires c =
    let at = c.loop-settled in
    let is = at.invariant.1 ∙ ap (λ l. at.yielded ++ l) c.in-Some.ensures.steps.0 in
    next_fits c.args.ledger.now at.ledger c.args.results.items at.yielded c.in-Some.settled _ is c.requires at.invariant.0

pub loop-settled-preserved : goal.loop-settled-preserved
loop-settled-preserved c =
    let at = c.loop-settled in
    let is = at.invariant.1 ∙ ap (λ l. at.yielded ++ l) c.in-Some.ensures.steps.0 in
    let was = at.invariant.2 in
    let gone = c.in-Some.ensures.steps.1 in
    let short = ap length c.in-Some.ensures.steps.0 in (
      entered_on c.args.ledger.now at.ledger c.enter_one.new.ledger at.yielded c.in-Some.settled at.invariant.0 c.enter_one.ensures,
      is ∙ sym (append_assoc at.yielded (c.in-Some.settled ∷ []) _),
      omega arith,
    )

pub returns-clause-entered : goal.returns-clause-entered
returns-clause-entered c =
    let at = c.loop-settled in
    let none : length (into_iter_items at.settled-iterator) ≡ 0 = sym at.invariant.2 ∙ c.in-None.ensures.steps.0 in
    entered c.args.ledger.now c.args.results.items at.ledger (all_entered c.args.results.items at.yielded _ at.invariant.1 none c.args.ledger.now at.ledger at.invariant.0)

pub returns-clause-cubes : goal.returns-clause-cubes
returns-clause-cubes c = keeps_cubes c.args.ledger.now c.loop-settled.yielded c.loop-settled.ledger c.loop-settled.invariant.0
