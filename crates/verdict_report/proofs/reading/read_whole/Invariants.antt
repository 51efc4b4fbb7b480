use Rattle.std.proofs.Common.{◌≡◌, ◌-◌, ◌≤◌, ◌++◌, vec_len}
use Rattle.verdict_report.proofs.reading.read_whole.Given as goal

abbrev pub invariant-loop-count : goal.invariant-loop-count
invariant-loop-count g l = record {
  room : vec_len l.chunk ≡ 16384;
  within_limit : vec_len l.text ≤ 268435456;
  text : g.S.Source.handed_out l.source ≡ g.S.Source.handed_out l.fn.source ++ l.text.items;
  failures : g.S.Source.failures l.source ≡ g.S.Source.failures l.fn.source;
  same : g.S.Source.path l.source ≡ g.S.Source.path l.fn.source;
}

abbrev pub decreases-loop-count : goal.decreases-loop-count
decreases-loop-count g l = 268435456 - vec_len l.text
