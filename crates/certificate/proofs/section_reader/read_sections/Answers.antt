use Rattle.std.proofs.Common.{◌≡◌, ◌∙◌, List, ap, sym, subst, length, vec_len}
use Rattle.std.proofs.lemmas.Bool.{eqb-true}
use Rattle.std.proofs.lemmas.List.{nil_from_length}
use Rattle.text_lines.specs.Fault.{IsRefusal}
use Rattle.text_lines.specs.Lines.{lines_of}
use Rattle.certificate.specs.CertRead.{AreReadUpTo, HasSectionFaultBehind}
use Rattle.certificate.specs.CertText.{AreSections}
use Rattle.certificate.specs.declared.certificate.Section.{Section}
use Rattle.certificate.proofs.CertificateText.SectionReadLemmas.{read_on, all_read, refusal_behind, handed_on}
use Rattle.certificate.proofs.section_reader.read_sections.Goals as goal

pub returns-in_err-read-clause-faulty : goal.returns-in_err-read-clause-faulty
returns-in_err-read-clause-faulty c =
    handed_on (λ fault. IsRefusal (HasSectionFaultBehind c.args.before (lines_of c.args.text.items)) fault) c.from_residual.result c.in_err-read.field-0.0 c.from_residual.ensures.1
    (refusal_behind c.args.text.items c.args.before c.loop-alloc.number c.loop-alloc.rest.items c.loop-alloc.sections.items c.in_err-read.field-0.0 c.loop-alloc.invariant c.in_err-read.ensures.faulty)

pub loop-alloc-preserved : goal.loop-alloc-preserved
loop-alloc-preserved c =
    subst (λ (ss : List Section). AreReadUpTo c.args.before c.args.text.items c.in_ok-read.count c.in_ok-read.behind.items ss) (sym c.in_ok-append.ensures.items)
    (read_on c.args.text.items c.args.before c.loop-alloc.number c.loop-alloc.rest.items c.loop-alloc.sections.items c.in_ok-read.count c.in_ok-read.behind.items c.in_ok-read.read.items c.loop-alloc.invariant c.in_ok-read.ensures.spelled)

pub returns-clause-spelled : goal.returns-clause-spelled
returns-clause-spelled c =
    let empty : vec_len c.loop-alloc.rest ≡ 0 = eqb-true (vec_len c.loop-alloc.rest) 0 (sym c.is_empty.ensures ∙ c.loop-alloc-test.false) in
    let none : length c.loop-alloc.rest.items ≡ 0 = sym c.loop-alloc.rest.ok.0 ∙ empty in
    subst (λ (ss : List Section). AreSections (lines_of c.args.text.items) ss) (sym c.new.ensures)
    (all_read c.args.text.items c.args.before c.loop-alloc.number c.loop-alloc.rest.items c.loop-alloc.sections.items c.loop-alloc.invariant (ap lines_of (nil_from_length c.loop-alloc.rest.items none)))
