-- What a file as a sink shows.
use Rattle.std.specs.Prelude.{ℕ, List}
use Rattle.system_host.specs.declared.file_sink.FileSink.{FileSink}

-- the path of the file
abbrev pub path_to : FileSink → List ℕ
path_to sink = sink.path.now
