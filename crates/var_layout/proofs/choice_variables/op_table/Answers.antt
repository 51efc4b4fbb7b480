use Rattle.std.proofs.Common.{◌≡◌, length, arith, ap, ◌∙◌}
use Rattle.var_layout.specs.Candidates.{candidates}
use Rattle.var_layout.proofs.BoundLemmas.{choices_fit}
use Rattle.var_layout.proofs.choice_variables.op_table.Goals as goal

pub numbered-requires : goal.numbered-requires
numbered-requires c =
    let t = c.args.trace.now in
    let same : length c.as_slice-2.result.now ≡ length (candidates t c.args.i) = ap length (c.as_slice-2.ensures.value ∙ c.in_ok-candidates.ensures) in
    omega (arith, choices_fit t c.args.i c.args.first c.requires.first c.requires.few c.requires.within, same)
