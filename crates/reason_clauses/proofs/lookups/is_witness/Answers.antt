use Rattle.std.proofs.Common.{◌≡◌, true, false, sym, ◌∙◌}
use Rattle.reason_clauses.proofs.MakerLemmas.{given_witness}
use Rattle.reason_clauses.proofs.lookups.is_witness.Goals as goal

pub returns-clause-only : goal.returns-clause-only
returns-clause-only c right known =
    let other : c.args.witness ≡ c.args.reader → ⊥ = λ e. (let clash : true ≡ false = sym (c.are_same.ensures.found e) ∙ c.if-are_same.false in cc) in
    given_witness c.args.trace.now c.recall_invariant.ensures c.args.reader c.args.witness c.in-Some.op.now c.args.location.now c.args.value c.in-Some.ensures.there (c.hides.ensures.only right) other known
