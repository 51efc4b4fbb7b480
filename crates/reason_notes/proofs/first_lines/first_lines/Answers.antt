use Rattle.std.proofs.Common.{◌≡◌, ◌<◌, ℕ, List, ◌∷◌, length, sym, subst, rules, arith}
use Rattle.text_lines.specs.Lines.{lines_of}
use Rattle.trace_semantics.proofs.ElementLemmas.{none_in}
use Rattle.reason_notes.specs.Noted.{NoneRefutes}
use Rattle.reason_notes.specs.declared.first_lines.LinesWanted.TheVariants.{Ended}
use Rattle.reason_notes.specs.declared.noted_line.NotedLine.{NotedLine}
use Rattle.reason_notes.proofs.NotedLemmas.{AreNotedTo, noted_none, none_refutes, more_noted, ended_noted}
use Rattle.reason_notes.proofs.first_lines.first_lines.Goals as goal

pub loop-line-init : goal.loop-line-init
loop-line-init c =
    let t = c.args.trace.now in
    let rest = c.in_ok-rest.rest.now in
    subst (λ (l : List NotedLine). AreNotedTo t c.args.text.now c.args.most l (lines_of rest) × NoneRefutes l) (sym c.new-noted.ensures.items) (noted_none t c.args.text.now c.args.most rest c.in_ok-rest.ensures.lines, λ other k empty. none_in other k)

pub returns-then-eq : goal.returns-then-eq
returns-then-eq c =
    let t = c.args.trace.now in
    let line = c.in-Some.line.now in
    let others = lines_of c.in-Some.after.now in
    let h : AreNotedTo t c.args.text.now c.args.most c.loop-line.noted.items (line ∷ others) = subst (λ (l : List (List ℕ)). AreNotedTo t c.args.text.now c.args.most c.loop-line.noted.items l) c.in-Some.ensures.lines c.loop-line.invariant.0 in
    let fits : length c.loop-line.noted.items < c.args.most = omega (arith, c.len.ensures, c.if-len-most.false) in
    let ended : c.in_ok-reading.reading ≡ Ended = search rules in
    ended_noted t c.args.text.now c.args.most c.loop-line.noted.items c.add_noted.new.noted.items line others h fits c.loop-line.invariant.1 c.in_ok-outcome.outcome c.in_ok-reading.reading c.in_ok-outcome.ensures c.in_ok-reading.ensures ended

pub loop-line-preserved : goal.loop-line-preserved
loop-line-preserved c =
    let t = c.args.trace.now in
    let line = c.in-Some.line.now in
    let others = lines_of c.in-Some.after.now in
    let h : AreNotedTo t c.args.text.now c.args.most c.loop-line.noted.items (line ∷ others) = subst (λ (l : List (List ℕ)). AreNotedTo t c.args.text.now c.args.most c.loop-line.noted.items l) c.in-Some.ensures.lines c.loop-line.invariant.0 in
    let fits : length c.loop-line.noted.items < c.args.most = omega (arith, c.len.ensures, c.if-len-most.false) in
    let more : c.in_ok-reading.reading ≡ Ended → ⊥ = search rules in
    let new = c.add_noted.new.noted.items in (
      more_noted t c.args.text.now c.args.most c.loop-line.noted.items new line others h fits c.loop-line.invariant.1 c.in_ok-outcome.outcome c.in_ok-reading.reading c.in_ok-outcome.ensures c.in_ok-reading.ensures more,
      none_refutes t c.args.text.now c.args.most c.loop-line.noted.items new line others h fits c.loop-line.invariant.1 c.in_ok-outcome.outcome c.in_ok-reading.reading c.in_ok-reading.ensures more,
    )
