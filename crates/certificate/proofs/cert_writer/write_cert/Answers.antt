use Rattle.std.proofs.Common.{◌++◌, ◌+◌, ◌∙◌, ℕ, List, take, drop, ap, subst, arith}
use Rattle.std.proofs.lemmas.List.{take_all}
use Rattle.std.specs.List.{flat_map}
use Rattle.dimacs.specs.Sink.{AppendsFront}
use Rattle.dimacs.proofs.ChunkLemmas.{on_err}
use Rattle.certificate.specs.CertWritten.{front_text, section_text, sections_from}
use Rattle.certificate.proofs.RecheckLemmas.{around, taken_on, taken}
use Rattle.certificate.proofs.CertificateText.WriteLemmas.{front_first, section_front, section_taken}
use Rattle.certificate.proofs.cert_writer.write_cert.Goals as goal

pub returns-in_err-write_whole-clause-front : goal.returns-in_err-write_whole-clause-front
returns-in_err-write_whole-clause-front g c =
    let old = g.W.Sink.written c.args.sink.now in
    let new = g.W.Sink.written c.write_whole.new.sink in
    on_err c.from_residual-in_err-write_whole.result
    (front_first old new (front_text c.args.tree.now) (flat_map section_text (sections_from 0 c.args.derivations.now))
    (subst (λ (t : List ℕ). AppendsFront old new t) (c.as_slice.ensures.value ∙ c.in_ok-front.ensures) c.in_err-write_whole.ensures.front))

pub returns-in_err-write_section-clause-front : goal.returns-in_err-write_section-clause-front
returns-in_err-write_section-clause-front g c =
    let ds = c.args.derivations.now in
    let k = c.loop-leaf.leaf in
    let x = c.index-derivations-leaf.result in
    on_err c.from_residual-in_err-write_section.result
    (section_front (g.W.Sink.written c.args.sink.now) (g.W.Sink.written c.loop-leaf.sink) (g.W.Sink.written c.write_section.new.sink) (front_text c.args.tree.now)
    ds (take k ds) x (drop (k + 1) ds) k (around ds k x c.loop-leaf-test.true c.index-derivations-leaf.is) (taken ds k c.loop-leaf-test.true) c.loop-leaf.invariant.sent c.in_err-write_section.ensures.front)

pub loop-leaf-preserved : goal.loop-leaf-preserved
loop-leaf-preserved g c =
    let ds = c.args.derivations.now in
    let k = c.loop-leaf.leaf in
    let x = c.index-derivations-leaf.result in
    record {
      sent = section_taken (g.W.Sink.written c.args.sink.now) (g.W.Sink.written c.loop-leaf.sink) (g.W.Sink.written c.write_section.new.sink) (front_text c.args.tree.now)
          (take (k + 1) ds) (take k ds) x k (taken_on ds k x c.loop-leaf-test.true c.index-derivations-leaf.is) (taken ds k c.loop-leaf-test.true) c.loop-leaf.invariant.sent c.in_ok-write_section.ensures.whole;
      failures = c.in_ok-write_section.ensures.well ∙ c.loop-leaf.invariant.failures;
      same = c.write_section.ensures.same ∙ c.loop-leaf.invariant.same;
    }

pub returns-clause-whole : goal.returns-clause-whole
returns-clause-whole g c =
    c.loop-leaf.invariant.sent
    ∙ ap (λ ds. g.W.Sink.written c.args.sink.now ++ (front_text c.args.tree.now ++ flat_map section_text (sections_from 0 ds))) (take_all c.loop-leaf.leaf c.args.derivations.now (omega arith))
