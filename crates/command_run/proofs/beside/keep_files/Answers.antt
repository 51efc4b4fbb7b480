use Rattle.std.proofs.lemmas.Result.{IfOk-weaker}
use Rattle.command_run.proofs.KeptLemmas.{keeps_some}
use Rattle.command_run.proofs.beside.keep_files.Goals as goal

pub returns-clause-kept : goal.returns-clause-kept
returns-clause-kept g c = IfOk-weaker c.keep_texts.result _ _ (λ name kept. keeps_some g.H.Host.calls _ _ _ _ _ _ _ kept) c.keep_texts.ensures.kept
