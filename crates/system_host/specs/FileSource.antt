-- What a file as a source shows.
use Rattle.std.specs.Prelude.{ℕ, List}
use Rattle.system_host.specs.declared.file_source.FileSource.{FileSource}

-- the path of the file
abbrev pub path_of : FileSource → List ℕ
path_of source = source.path.now
