use Rattle.std.proofs.Common.{◌≡◌, ◌++◌, ◌∙◌, [], ℕ, List, sym, ap, subst, append_assoc}
use Rattle.std.specs.Prelude.{codes}
use Rattle.std.specs.Fmt.{decimal}
use Rattle.dimacs.specs.Sink.{AppendsFront}
use Rattle.dimacs.proofs.ChunkLemmas.{on_err}
use Rattle.lrat_check.specs.LratWritten.{canonical_derivation}
use Rattle.certificate.proofs.CertificateText.WriteLemmas.{front_behind, front_first, parts_of_section}
use Rattle.certificate.proofs.cert_writer.write_section.Goals as goal

pub returns-in_err-write_whole-clause-front : goal.returns-in_err-write_whole-clause-front
returns-in_err-write_whole-clause-front g c =
    let steps = canonical_derivation c.args.derivation.now in
    let begin = codes "proof " ++ (decimal c.args.leaf ++ codes "\n") in
    let old = g.W.Sink.written c.args.sink.now in
    let new = g.W.Sink.written c.write_whole.new.sink in
    on_err c.from_residual-in_err-write_whole.result
    (subst (λ (t : List ℕ). AppendsFront old new t) (sym (parts_of_section c.args.leaf c.args.derivation.now))
    (front_first old new begin (steps ++ codes "end\n") (subst (λ (t : List ℕ). AppendsFront old new t) (c.as_slice.ensures.value ∙ c.in_ok-begin.ensures) c.in_err-write_whole.ensures.front)))

pub returns-in_err-write_whole-2-clause-front : goal.returns-in_err-write_whole-2-clause-front
returns-in_err-write_whole-2-clause-front g c =
    let steps = canonical_derivation c.args.derivation.now in
    let begin = codes "proof " ++ (decimal c.args.leaf ++ codes "\n") in
    let old = g.W.Sink.written c.args.sink.now in
    let between = g.W.Sink.written c.write_whole.new.sink in
    let new = g.W.Sink.written c.write_whole-2.new.sink in
    on_err c.from_residual-in_err-write_whole-2.result
    (subst (λ (t : List ℕ). AppendsFront old new t) (sym (parts_of_section c.args.leaf c.args.derivation.now))
    (front_behind old between new begin steps (codes "end\n") (c.in_ok-write_whole.ensures.whole ∙ ap (λ t. old ++ t) (c.as_slice.ensures.value ∙ c.in_ok-begin.ensures))
    (subst (λ (t : List ℕ). AppendsFront between new t) (c.as_slice-2.ensures.value ∙ c.in_ok-steps.ensures) c.in_err-write_whole-2.ensures.front)))

pub returns-in_err-write_whole-3-clause-front : goal.returns-in_err-write_whole-3-clause-front
returns-in_err-write_whole-3-clause-front g c =
    let steps = canonical_derivation c.args.derivation.now in
    let begin = codes "proof " ++ (decimal c.args.leaf ++ codes "\n") in
    let old = g.W.Sink.written c.args.sink.now in
    let between = g.W.Sink.written c.write_whole-2.new.sink in
    let new = g.W.Sink.written c.write_whole-3.new.sink in
    let sent : between ≡ old ++ (begin ++ steps) =
    c.in_ok-write_whole-2.ensures.whole
    ∙ (λ i. (c.in_ok-write_whole.ensures.whole ∙ ap (λ t. old ++ t) (c.as_slice.ensures.value ∙ c.in_ok-begin.ensures)) i ++ (c.as_slice-2.ensures.value ∙ c.in_ok-steps.ensures) i)
    ∙ append_assoc old begin steps in
    on_err c.from_residual-in_err-write_whole-3.result
    (subst (λ (t : List ℕ). AppendsFront old new t) (append_assoc begin steps (codes "end\n") ∙ sym (parts_of_section c.args.leaf c.args.derivation.now))
    (front_behind old between new (begin ++ steps) (codes "end\n") [] sent c.in_err-write_whole-3.ensures.front))
