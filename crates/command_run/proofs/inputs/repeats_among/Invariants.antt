use Rattle.std.proofs.Common.{◌≡◌, drop, false}
use Rattle.clap.specs.Walk.{texts}
use Rattle.command_run.specs.Inputs.{repeats_among}
use Rattle.command_run.proofs.inputs.repeats_among.Given as goal

abbrev pub invariant-loop-path : goal.invariant-loop-path
invariant-loop-path l = repeats_among l.was_met (texts (drop l.path-index l.paths)) ≡ repeats_among false (texts l.paths)
