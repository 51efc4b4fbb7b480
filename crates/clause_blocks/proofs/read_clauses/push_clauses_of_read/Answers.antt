use Rattle.std.proofs.Common.{◌∙◌, sym}
use Rattle.var_layout.specs.declared.layout.ReadsFromOwner.TheVariants.{Read}
use Rattle.var_layout.proofs.VariableLemmas.{void_over}
use Rattle.clause_blocks.proofs.NumbersOfNames.VariableLemmas.{fits_formula}
use Rattle.clause_blocks.proofs.read_clauses.push_clauses_of_read.Goals as goal

pub push_void-requires : goal.push_void-requires
push_void-requires c =
    let t = c.args.layout.now in
    fits_formula t c.recall_limits.ensures.trace c.recall_limits.ensures.few c.in-Some.variable
    (void_over t (Read c.args.r) c.in-Some.variable (sym c.void_var.ensures ∙ c.in-Some.is))
