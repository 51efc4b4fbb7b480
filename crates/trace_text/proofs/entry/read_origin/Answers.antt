use Rattle.std.proofs.Common.{◌≡◌, Bool, true, false, ◌&&◌, refl, ap, ◌∙◌}
use Rattle.std.proofs.lemmas.Result.{err_from_is_err_and}
use Rattle.trace_text.specs.declared.statement.ReadsFrom.{ReadsFrom as WrittenReadsFrom}
use Rattle.trace_text.specs.Entry.{has_place}
use Rattle.trace_text.specs.Said.{said_source}
use Rattle.trace_text.specs.TraceFault.{is_place}
use Rattle.trace_text.proofs.Reading.NumberLemmas.{refused_part}
use Rattle.trace_text.proofs.entry.read_origin.Goals as goal

only_part : (b : Bool) → b ≡ false → (b && true) ≡ false
only_part true h = absurd (cc)
only_part false h = refl

pub returns-in_err-read_op_name-in-FromOp-clause-refused : goal.returns-in_err-read_op_name-in-FromOp-clause-refused
returns-in_err-read_op_name-in-FromOp-clause-refused c =
    let p = err_from_is_err_and c.from_residual.result c.from_residual.ensures.1 in
    rw (p.1, p.2) (refused_part (has_place c.args.limits (said_source c.args.source)) (is_place c.args.limits c.in-FromOp.place.now) _
    (λ none. ap (λ (s : WrittenReadsFrom). has_place c.args.limits (said_source s)) c.in-FromOp.is ∙ only_part (is_place c.args.limits c.in-FromOp.place.now) none) c.in_err-read_op_name-in-FromOp.ensures.refused)
