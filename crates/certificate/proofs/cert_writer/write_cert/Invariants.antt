use Rattle.std.proofs.Common.{◌≡◌, ◌++◌, take}
use Rattle.std.specs.List.{flat_map}
use Rattle.certificate.specs.CertWritten.{front_text, section_text, sections_from}
use Rattle.certificate.proofs.cert_writer.write_cert.Given as goal

abbrev pub invariant-loop-leaf : goal.invariant-loop-leaf
invariant-loop-leaf g l = record {
  sent : g.W.Sink.written l.sink ≡ g.W.Sink.written l.fn.sink ++ (front_text l.tree ++ flat_map section_text (sections_from 0 (take l.leaf l.derivations)));
  failures : g.W.Sink.failures l.sink ≡ g.W.Sink.failures l.fn.sink;
  same : g.W.Sink.path l.sink ≡ g.W.Sink.path l.fn.sink;
}
