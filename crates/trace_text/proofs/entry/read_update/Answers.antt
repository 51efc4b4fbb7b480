use Rattle.std.proofs.Common.{◌∷◌}
use Rattle.std.specs.List.{list_all}
use Rattle.std.proofs.lemmas.Result.{err_from_is_err_and}
use Rattle.trace_text.specs.Entry.{has_numbers, has_place, has_time_numbers}
use Rattle.trace_text.specs.Said.{said_source, said_times}
use Rattle.trace_text.specs.Statement.{Update}
use Rattle.trace_text.specs.TraceFault.{is_value, time_words}
use Rattle.trace_text.proofs.Reading.NumberLemmas.{refused_part, middle_part, third_part, last_part}
use Rattle.trace_text.proofs.entry.read_update.Goals as goal

pub returns-in_err-location-clause-refused : goal.returns-in_err-location-clause-refused
returns-in_err-location-clause-refused c =
    let p = err_from_is_err_and c.from_residual.result c.from_residual.ensures.1 in
    let source = said_source c.args.source in
    let times = said_times c.args.times in
    rw (p.1, p.2) (refused_part (has_numbers c.args.limits (Update c.args.location.now c.args.words.read.now c.args.words.left.now source times)) (is_value c.args.words.left.now) _
    (middle_part (is_value c.args.words.read.now) (is_value c.args.words.left.now) (has_time_numbers times) (has_place c.args.limits source)) c.in_err-location.ensures.refused)

pub returns-in_err-origin-clause-refused : goal.returns-in_err-origin-clause-refused
returns-in_err-origin-clause-refused c =
    let p = err_from_is_err_and c.from_residual-in_err-origin.result c.from_residual-in_err-origin.ensures.1 in
    let source = said_source c.args.source in
    let times = said_times c.args.times in
    rw (p.1, p.2) (refused_part (has_numbers c.args.limits (Update c.args.location.now c.args.words.read.now c.args.words.left.now source times)) (has_place c.args.limits source) _
    (last_part (list_all is_value (c.args.words.read.now ∷ c.args.words.left.now ∷ time_words times)) (has_place c.args.limits source)) c.in_err-origin.ensures.refused)

pub returns-in_err-span-clause-refused : goal.returns-in_err-span-clause-refused
returns-in_err-span-clause-refused c =
    let p = err_from_is_err_and c.from_residual-in_err-span.result c.from_residual-in_err-span.ensures.1 in
    let source = said_source c.args.source in
    let times = said_times c.args.times in
    rw (p.1, p.2) (refused_part (has_numbers c.args.limits (Update c.args.location.now c.args.words.read.now c.args.words.left.now source times)) (has_time_numbers times) _
    (third_part (is_value c.args.words.read.now) (is_value c.args.words.left.now) (has_time_numbers times) (has_place c.args.limits source)) c.in_err-span.ensures.refused)
