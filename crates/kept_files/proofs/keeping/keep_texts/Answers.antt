use Rattle.std.proofs.Common.{rules}
use Rattle.kept_files.specs.KeptFiles.{KeepsWithin}
use Rattle.kept_files.proofs.CallLemmas.{within}
use Rattle.kept_files.proofs.keeping.keep_texts.Goals as goal

pub returns-in_err-keep_proofs-clause-within : goal.returns-in_err-keep_proofs-clause-within
returns-in_err-keep_proofs-clause-within g c =
    let made : KeepsWithin g.H.Host.calls c.args.folder.now c.args.host.now c.keep_proofs.new.host =
    within g.H.Host.calls c.args.folder.now c.args.host.now c.keep_trace.new.host c.keep_proofs.new.host _ c.in_ok-name.ensures.kept.are_calls c.in_err-keep_proofs.ensures.within in
    search rules
