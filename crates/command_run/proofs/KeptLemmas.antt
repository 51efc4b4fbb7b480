-- The files of a trace are some files in a folder.
use Rattle.std.proofs.Common.{ℕ, List}
use Rattle.command_host.specs.HostCalls.{HostCalls}
use Rattle.command_run.specs.FormedRuns.{KeepsSome}
use Rattle.kept_files.proofs.CallLemmas.{within}
use Rattle.kept_files.specs.KeptFiles.{KeepsTexts, kept_proofs}
use Rattle.kept_files.specs.declared.keeping.KeptTexts.{KeptTexts}

pub keeps_some : {H I O : Type 0} (calls : HostCalls H I O) (folder stem : List ℕ) (number : ℕ) (texts : KeptTexts) (from : H) (name : List ℕ) (to : H) → KeepsTexts calls folder stem number texts from name to → KeepsSome calls from to
keeps_some calls folder stem number texts from name to kept = (folder, within calls folder from kept.between to _ kept.keeps_trace.are_calls (kept_proofs name texts, kept.keeps_proofs))
