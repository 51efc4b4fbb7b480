-- What a file did that was handed out.
use Rattle.std.proofs.Common.{◌≡◌, ℕ, List, [], false, refl}
use Rattle.command_run.specs.ReadFiles.{ReadsFile}
use Rattle.command_host.specs.HostCalls.{HostCalls}
use Rattle.command_host.specs.Streams.{SourceView}

-- from where it was handed out
pub reads_file : {H I O : Type 0} {calls : HostCalls H I O} {read : SourceView I} {from to : H} {path : List ℕ} (before after : I) → calls.opens from path before to
    → (read.run before after).before ≡ [] → (read.run before after).was_at_end ≡ false → (read.run before after).failures_before ≡ 0
    → read.path after ≡ path → ReadsFile calls read from path (read.run before after) to
reads_file before after opened no_byte not_at_end no_failure path_is = record {
  before = before;
  after = after;
  opened = opened;
  run_is = refl;
  path_is = path_is;
  no_byte_before = no_byte;
  not_at_end_before = not_at_end;
  no_failure_before = no_failure;
}
