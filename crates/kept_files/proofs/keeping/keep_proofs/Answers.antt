use Rattle.std.proofs.Common.{rules}
use Rattle.std.proofs.lemmas.Result.{on_err_weaker}
use Rattle.kept_files.specs.KeptFiles.{KeepsWithin}
use Rattle.kept_files.proofs.CallLemmas.{joined, within}
use Rattle.kept_files.proofs.keeping.keep_proofs.Goals as goal

pub returns-in_err-keep_file-2-clause-within : goal.returns-in_err-keep_file-2-clause-within
returns-in_err-keep_file-2-clause-within g c =
    let made : KeepsWithin g.H.Host.calls c.args.folder.now c.args.host.now c.keep_file-2.new.host =
    within g.H.Host.calls c.args.folder.now c.args.host.now c.keep_file.new.host c.keep_file-2.new.host _ c.in_ok-keep_file.ensures.kept c.in_err-keep_file-2.ensures.within in
    search rules

pub returns-clause-within : goal.returns-clause-within
returns-clause-within g c =
    on_err_weaker c.keep_file-3.result
    (λ last. within g.H.Host.calls c.args.folder.now c.args.host.now c.keep_file-2.new.host c.keep_file-3.new.host _
    (joined g.H.Host.calls c.args.folder.now c.args.host.now c.keep_file.new.host c.keep_file-2.new.host _ _ c.in_ok-keep_file.ensures.kept c.in_ok-keep_file-2.ensures.kept) last)
    c.keep_file-3.ensures.within
