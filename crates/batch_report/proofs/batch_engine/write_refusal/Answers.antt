use Rattle.std.proofs.Common.{◌∷◌, []}
use Rattle.batch_report.specs.FormedBatch.{refusal_behind}
use Rattle.batch_report.proofs.EngineLemmas.{nothing_stopped}
use Rattle.batch_report.proofs.batch_engine.write_refusal.Goals as goal

pub returns-then-not-has_room-clause-stopped : goal.returns-then-not-has_room-clause-stopped
returns-then-not-has_room-clause-stopped g c =
    nothing_stopped g.F.LineForm.means c.args.run.now.file.now c.args.progress.number (refusal_behind c.args.progress c.args.fault ∷ []) c.args.devices.now (g.W.Sink.written c.args.out.now) (g.W.Sink.failures c.args.out.now)
