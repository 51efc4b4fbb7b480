use Rattle.trace_semantics.specs.NameNumbers.{number_of}
use Rattle.std.proofs.Common.{arith}
use Rattle.schedule_judge.proofs.PlaceLemmas.{process_none, process_step}
use Rattle.schedule_judge.proofs.survey.places_of_processes.Goals as goal

pub loop-k-init : goal.loop-k-init
loop-k-init c = λ name. process_none c.args.processes.now name (number_of c.in_ok-places.places name) (c.in_ok-places.ensures name)

pub loop-k-preserved : goal.loop-k-preserved
loop-k-preserved c = λ name. process_step c.args.processes.now c.loop-k.k c.index-processes-k.result name (number_of c.loop-k.places name) (number_of c.insert.new.self name) (omega arith) (omega arith) c.index-processes-k.is c.as_bytes.result.now c.as_bytes.ensures (c.in_ok-insert.ensures name) (c.loop-k.invariant name)
