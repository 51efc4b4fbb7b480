use Rattle.std.proofs.Common.{◌≡◌, ◌-◌, ◌≤◌, ◌++◌, length, take}
use Rattle.dimacs.proofs.sink.write_whole.Given as goal

abbrev pub invariant-loop-taken : goal.invariant-loop-taken
invariant-loop-taken g l = record {
  in_bytes : l.taken ≤ length l.bytes;
  written : g.S.Sink.written l.sink ≡ g.S.Sink.written l.fn.sink ++ take l.taken l.bytes;
  failures : g.S.Sink.failures l.sink ≡ g.S.Sink.failures l.fn.sink;
  same : g.S.Sink.path l.sink ≡ g.S.Sink.path l.fn.sink;
}

abbrev pub decreases-loop-taken : goal.decreases-loop-taken
decreases-loop-taken g l = length l.bytes - l.taken
