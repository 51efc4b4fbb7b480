use Rattle.kept_files.specs.KeptFiles.{AreCalls, names_left}
use Rattle.kept_files.proofs.keeping.keep_trace.Given as goal

abbrev pub invariant-loop-taken : goal.invariant-loop-taken
invariant-loop-taken g l = AreCalls g.H.Host.calls l.folder l.initial.host (names_left l.stem l.number l.taken) l.host
