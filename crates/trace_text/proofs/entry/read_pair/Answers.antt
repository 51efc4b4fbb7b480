use Rattle.std.proofs.Common.{◌≡◌, Bool, true, false, ◌&&◌}
use Rattle.std.proofs.lemmas.Result.{err_from_is_err_and}
use Rattle.text_lines.specs.declared.plain_fault.PlainFault.{PlainFault}
use Rattle.text_lines.specs.PlainFault.{IsRefusedFor}
use Rattle.trace_text.specs.declared.trace_fault.TraceCause.{TraceCause}
use Rattle.trace_text.specs.Entry.{number_fault}
use Rattle.trace_text.proofs.entry.read_pair.Goals as goal

-- Refusals for a fault.

-- the second of two tests fails
second_number : (a b : Bool) (r : PlainFault TraceCause) → a ≡ true → IsRefusedFor (number_fault b) r → IsRefusedFor (number_fault (a && (b && true))) r
second_number true true r h k = k
second_number true false r h k = k
second_number false b r h k = absurd (cc)

pub returns-in_err-second-clause-refused : goal.returns-in_err-second-clause-refused
returns-in_err-second-clause-refused c =
    let p = err_from_is_err_and c.from_residual-in_err-second.result c.from_residual-in_err-second.ensures.1 in
    rw (p.1, p.2) (second_number _ _ _ c.in_ok-first.ensures.fine c.in_err-second.ensures.refused)
