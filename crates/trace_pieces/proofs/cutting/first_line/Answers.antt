use Rattle.std.proofs.Common.{◌+◌, ◌-◌, length, take, drop, sym, subst, arith}
use Rattle.std.proofs.lemmas.List.{length-drop, take_all}
use Rattle.trace_pieces.specs.Scanning.{IsFirstLine}
use Rattle.trace_pieces.proofs.ScanLemmas.{line_with_feed, line_without_feed}
use Rattle.trace_pieces.proofs.cutting.first_line.Goals as goal

pub returns-in-Some : goal.returns-in-Some
returns-in-Some c =
    let text = c.args.text.now in
    let rest = drop (c.in-Some.end + 1) text in
    let long = length-drop (c.in-Some.end + 1) text in
    subst (λ after. IsFirstLine text (take c.in-Some.end text) after) (sym (take_all (length text - (c.in-Some.end + 1)) rest (omega (arith, long)))) (line_with_feed text c.in-Some.end c.in-Some.ensures)

pub returns-in-None : goal.returns-in-None
returns-in-None c = line_without_feed c.args.text.now c.in-None.ensures
