-- Files that a command reads.
use Rattle.std.specs.Prelude.{◌≡◌, ℕ, false, List, []}
use Rattle.command_host.specs.HostCalls.{HostCalls}
use Rattle.command_host.specs.Streams.{SourceView}
use Rattle.verdict_report.specs.Runs.{SourceRun}

-- the file at this path was handed out to be read between the two hosts, and this is what it then did as a source, and no other file
pub record ReadsFile {H I O : Type 0} (calls : HostCalls H I O) (read : SourceView I) (from : H) (path : List ℕ) (run : SourceRun) (to : H) : Type 0 where
  pub before : I
  pub after : I
  pub opened : calls.opens from path before to
  pub run_is : run ≡ read.run before after
  pub path_is : read.path after ≡ path
  pub no_byte_before : run.before ≡ []
  pub not_at_end_before : run.was_at_end ≡ false
  pub no_failure_before : run.failures_before ≡ 0
