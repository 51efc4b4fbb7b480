use Rattle.std.proofs.Common.{◌≡◌, length, arith, ap, ◌∙◌}
use Rattle.var_layout.specs.FinalVariables.{final_candidates}
use Rattle.var_layout.proofs.BoundLemmas.{finals_fit}
use Rattle.var_layout.proofs.final_variables.final_table.Goals as goal

pub numbered-requires : goal.numbered-requires
numbered-requires c =
    let t = c.args.trace.now in
    let same : length c.as_slice-2.result.now ≡ length (final_candidates t c.args.numbered_final.value.now) = ap length (c.as_slice-2.ensures.value ∙ c.in_ok-leavers.ensures ∙ ap (λ u. final_candidates u c.args.numbered_final.value.now) c.requires.same) in
    omega (arith, finals_fit t c.args.numbered_final.number c.args.numbered_final.first c.args.numbered_final.value.now c.requires.is_trace c.requires.few c.requires.first, same)
