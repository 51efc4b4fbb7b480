use Rattle.schedule_judge.specs.Tables.{number_at}
use Rattle.std.proofs.Common.{sym, ◌∙◌, arith}
use Rattle.schedule_judge.proofs.PlaceLemmas.{first_none, first_step}
use Rattle.schedule_judge.proofs.survey.first_places.Goals as goal

pub loop-k-init : goal.loop-k-init
loop-k-init c = λ n. c.in_ok-places.ensures n ∙ sym (first_none c.args.names.now n)

pub loop-k-preserved : goal.loop-k-preserved
loop-k-preserved c = λ n. first_step c.args.names.now c.loop-k.k c.index-names-k.result n (number_at c.loop-k.places n) (number_at c.insert.new.self n) (omega arith) (omega arith) c.index-names-k.is (c.in_ok-insert.ensures n) (c.loop-k.invariant n)
