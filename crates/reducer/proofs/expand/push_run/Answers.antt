use Rattle.std.proofs.Common.{◌++◌, ◌-◌, get_or, arith, ap, ◌∙◌}
use Rattle.std.proofs.lemmas.Result.{on_ok_weaker}
use Rattle.restriction.specs.Left.{names_from}
use Rattle.reducer.proofs.ExpandLemmas.{kept_bounds, run_of, some_run}
use Rattle.reducer.proofs.expand.push_run.Goals as goal

pub bounds-places-place : goal.bounds-places-place
bounds-places-place c =
    let r = c.args.reduced.now in
    let run = run_of r c.kept.ensures.reduced c.args.name.now c.requires c.in-Some.bounds.now c.as_slice-places.result.now
    (kept_bounds r _ _ _ _ _ c.kept.ensures.reduced.reduction (c.processes-processes.ensures ∙ ap (λ k. k.processes) c.kept.ensures.trace) c.bounds.ensures c.as_bytes-process.ensures c.in-Some.ensures) c.as_slice-places.ensures in
    omega (arith, run.least, run.most)

pub bounds-places-place-in-Some : goal.bounds-places-place-in-Some
bounds-places-place-in-Some c =
    let r = c.args.reduced.now in
    (run_of r c.kept.ensures.reduced c.args.name.now c.requires c.in-Some.bounds.now c.as_slice-places.result.now
    (kept_bounds r _ _ _ _ _ c.kept.ensures.reduced.reduction (c.processes-processes.ensures ∙ ap (λ k. k.processes) c.kept.ensures.trace) c.bounds.ensures c.as_bytes-process.ensures c.in-Some.ensures) c.as_slice-places.ensures).most

pub returns-in-Some : goal.returns-in-Some
returns-in-Some c =
    let r = c.args.reduced.now in
    let run = run_of r c.kept.ensures.reduced c.args.name.now c.requires c.in-Some.bounds.now c.as_slice-places.result.now
    (kept_bounds r _ _ _ _ _ c.kept.ensures.reduced.reduction (c.processes-processes.ensures ∙ ap (λ k. k.processes) c.kept.ensures.trace) c.bounds.ensures c.as_bytes-process.ensures c.in-Some.ensures) c.as_slice-places.ensures in
    let places = c.as_slice-places.result.now in
    let x = c.args.name.now in
    on_ok_weaker c.push_names.result
    (λ e. e ∙ ap (λ l. c.args.names.now.items ++ l) (ap (λ p. names_from p (get_or places (x.place - 1) 0) (get_or places x.place 0 - get_or places (x.place - 1) 0)) c.as_bytes-process.ensures ∙ run.is)) c.push_names.ensures

pub returns-in-None : goal.returns-in-None
returns-in-None c =
    let r = c.args.reduced.now in
    absurd (some_run r c.kept.ensures.reduced c.args.name.now c.requires
    (kept_bounds r _ _ _ _ _ c.kept.ensures.reduced.reduction (c.processes-processes.ensures ∙ ap (λ k. k.processes) c.kept.ensures.trace) c.bounds.ensures c.as_bytes-process.ensures c.in-None.ensures))
