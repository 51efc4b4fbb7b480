-- What a table of names holds.
use Rattle.std.specs.Prelude.{ℕ, List, Option}
use Rattle.std.specs.HashMap.{get_by}
use Rattle.std.specs.Str.{bytes_eq}
use Rattle.trace_semantics.specs.declared.name_table.NameTable.{NameTable}

-- the number of a name
abbrev pub number_of : NameTable → List ℕ → Option ℕ
number_of table name = get_by (λ k. bytes_eq name k.now) table.numbers
