-- What texts have room for.
use Rattle.std.specs.Prelude.{ℕ}
use Rattle.trace_semantics.specs.declared.limits.Limits.{Limits}
use Rattle.trace_semantics.specs.declared.limits.Limits.TheVariants.{Small, Large}

-- how many operations a trace may have, and names a schedule
abbrev pub max_operations : Limits → ℕ
max_operations Small = 4096
max_operations Large = 1048576

-- how many locations may be named
abbrev pub max_locations : Limits → ℕ
max_locations Small = 4096
max_locations Large = 65536

-- of how many pairs it may be known that one operation stands before the other
abbrev pub max_pairs : Limits → ℕ
max_pairs Small = 4096
max_pairs Large = 4194304

-- the highest place of an operation that can be named
abbrev pub max_place : Limits → ℕ
max_place Small = 65535
max_place Large = 4294967295
