use Rattle.std.proofs.Common.{rules, [], ◌∷◌}
use Rattle.kept_files.specs.KeptFiles.{Failed, KeepsWithin, Left}
use Rattle.kept_files.proofs.CallLemmas.{one}
use Rattle.kept_files.proofs.keeping.keep_file.Goals as goal

pub returns-in_err-keep-clause-within : goal.returns-in_err-keep-clause-within
returns-in_err-keep-clause-within g c =
    let failed : KeepsWithin g.H.Host.calls c.args.folder.now c.args.host.now c.keep.new.self =
    (Failed c.as_str.result.now ∷ [], one g.H.Host.calls c.args.folder.now c.args.host.now c.keep.new.self (Failed c.as_str.result.now) c.in_err-keep.ensures.failed) in
    search rules

pub returns-clause-within : goal.returns-clause-within
returns-clause-within g c =
    (Left c.as_str.result.now ∷ [], one g.H.Host.calls c.args.folder.now c.args.host.now c.keep.new.self (Left c.as_str.result.now) (c.in_ok-keep.ensures.leaves c.if-branch.false))
