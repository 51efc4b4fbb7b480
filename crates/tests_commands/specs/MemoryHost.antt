-- What the calls of a host in memory say of it.
use Rattle.std.specs.Prelude.{◌≡◌, ◌++◌, ⊤, Some, codes, false}
use Rattle.dimacs.specs.declared.memory_sink.MemorySink.{MemorySink}
use Rattle.verdict_report.specs.declared.short_source.ShortSource.{ShortSource}
use Rattle.tests_commands.specs.declared.at_path.AtPath.{AtPath}
use Rattle.tests_commands.specs.declared.memory_host.MemoryHost.{MemoryHost}
use Rattle.command_host.specs.HostCalls.{HostCalls}

-- handing out a file changes nothing, and neither does making one before it is given back; files of two paths are two; the last search is kept
abbrev pub memory_calls : HostCalls MemoryHost (AtPath ShortSource) (AtPath MemorySink)
memory_calls = record {
  opens = λ from path file to. to ≡ from;
  makes = λ from path emptied file to. to ≡ from;
  fails_to_make = λ from path to. to ≡ from;
  closes = λ from file to. to.made ≡ Some file.stream;
  compares = λ from first second same to. (same ≡ false) × (to ≡ from);
  searches = λ from search to. to.searched ≡ Some search;
  looks = λ from folder free to. to ≡ from;
  makes_folder = λ from folder to. to ≡ from;
  keeps = λ from folder name bytes to. to.kept.items ≡ from.kept.items ++ (name ++ (codes "\n" ++ bytes));
  leaves = λ from folder name to. to ≡ from;
  fails_to_keep = λ from folder name to. ⊤;
}
