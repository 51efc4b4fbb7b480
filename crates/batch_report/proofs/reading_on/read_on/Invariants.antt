use Rattle.std.proofs.Common.{◌≡◌, ◌≤◌, vec_len}
use Rattle.batch_report.specs.Reading.{ReadsFurther}
use Rattle.batch_report.proofs.reading_on.read_on.Given as goal

abbrev pub invariant-loop-call : goal.invariant-loop-call
invariant-loop-call g l = record {
  room : vec_len l.chunk ≡ 65536;
  within_limit : vec_len l.held ≤ 268435456;
  read : ReadsFurther (g.S.Source.handed_out l.initial.source) (g.S.Source.handed_out l.source) l.initial.held.items l.held.items;
  failures : g.S.Source.failures l.source ≡ g.S.Source.failures l.initial.source;
  same : g.S.Source.path l.source ≡ g.S.Source.path l.initial.source;
}
