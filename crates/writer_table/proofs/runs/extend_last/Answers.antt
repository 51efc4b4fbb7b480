use Rattle.std.proofs.Common.{◌≡◌, ◌<◌, ◌-◌, length, ap, sym, ◌∙◌, rules, arith}
use Rattle.std.proofs.lemmas.List.{get_or_default}
use Rattle.writer_table.specs.declared.runs.Run.{Run}
use Rattle.writer_table.proofs.OrderedLemmas.{none_over}
use Rattle.writer_table.proofs.RunLemmas.{last_longer}
use Rattle.writer_table.proofs.runs.extend_last.Goals as goal

pub returns-clause-more : goal.returns-clause-more
returns-clause-more c =
    let runs = c.args.runs.now.items in
    let count = c.len-count.result in
    let old = c.index_mut.result.now in
    let long : count ≡ length runs = search rules in
    let some = c.if-count-eq0.false in
    let low : count - 1 < length runs = omega (arith, long, some) in
    last_longer runs count old c.push.new.self c.args.process c.args.place c.in_ok-done.done long c.if-count-eq0.false (sym c.index_mut.ensures.value)
    (ap (λ (r : Run). r.process) (c.index_mut.ensures.value ∙ get_or_default runs (count - 1) old c.index.result.now low ∙ sym c.index.ensures) ∙ c.if-index-process.false) c.in_ok-done.ensures.longer

pub returns-clause-past : goal.returns-clause-past
returns-clause-past c none k less so =
    let runs = c.args.runs.now.items in
    let count = c.len-count.result in
    let old = c.index_mut.result.now in
    let long : count ≡ length runs = search rules in
    let some = c.if-count-eq0.false in
    let low : count - 1 < length runs = omega (arith, long, some) in
    let over = c.in_ok-done.ensures.over none in
    absurd (none_over runs c.args.process k c.args.place over.0 old less so (count - 1, low, sym c.index_mut.ensures.value)
    (ap (λ (r : Run). r.process) (c.index_mut.ensures.value ∙ get_or_default runs (count - 1) old c.index.result.now low ∙ sym c.index.ensures) ∙ c.if-index-process.false) over.1 over.2)
