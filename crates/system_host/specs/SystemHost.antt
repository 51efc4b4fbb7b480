-- What the calls of the system as a host say of it.
use Rattle.std.specs.Prelude.{◌≡◌, ◌+◌}
use Rattle.command_host.specs.HostCalls.{HostCalls}
use Rattle.system_host.specs.declared.file_sink.FileSink.{FileSink}
use Rattle.system_host.specs.declared.file_source.FileSource.{FileSource}
use Rattle.system_host.specs.declared.system_host.SystemHost.{SystemHost}
use Rattle.system_host.specs.FileSink.{path_to}
use Rattle.system_host.specs.FileSource.{path_of}

-- no further file failed to be made
abbrev pub HasNotFailed : SystemHost → SystemHost → Type 0
HasNotFailed from to = to.failures.count ≡ from.failures.count

-- a file that is handed out is the one at the path; a file or a folder that could not be made is a failure of the system, and nothing else is one
abbrev pub system_calls : HostCalls SystemHost FileSource FileSink
system_calls = record {
  opens = λ from path file to. (path_of file ≡ path) × HasNotFailed from to;
  makes = λ from path emptied file to. (path_to file ≡ path) × HasNotFailed from to;
  fails_to_make = λ from path to. to.failures.count ≡ from.failures.count + 1;
  closes = λ from file to. HasNotFailed from to;
  compares = λ from first second same to. HasNotFailed from to;
  searches = λ from search to. HasNotFailed from to;
  looks = λ from folder free to. HasNotFailed from to;
  makes_folder = λ from folder to. HasNotFailed from to;
  keeps = λ from folder name bytes to. HasNotFailed from to;
  leaves = λ from folder name to. HasNotFailed from to;
  fails_to_keep = λ from folder name to. to.failures.count ≡ from.failures.count + 1;
}
