use Rattle.std.proofs.Common.{◌≡◌, ◌+◌, List, ◌∙◌, sym, subst, Some}
use Rattle.text_lines.specs.Fault.{IsRefusal}
use Rattle.text_lines.specs.Lines.{lines_of}
use Rattle.text_lines.specs.Words.{words_of}
use Rattle.certificate.specs.CertLine.{begun_by}
use Rattle.certificate.specs.CertRead.{AreReadUpTo, HasSectionFaultBehind}
use Rattle.certificate.specs.declared.certificate.Section.{Section}
use Rattle.certificate.proofs.CertificateText.SectionReadLemmas.{IsReadSoFar, turn_silent, turn_section, refused_between, refusal_inside, handed_on, refused_at_end, read_up_to}
use Rattle.certificate.proofs.section_reader.read_half.Goals as goal

pub loop-line-preserved-then-is_dimacs_skipped_line : goal.loop-line-preserved-then-is_dimacs_skipped_line
loop-line-preserved-then-is_dimacs_skipped_line c =
    turn_silent c.args.text.now c.args.before c.loop-line.number c.loop-line.rest.now c.loop-line.sections.items c.in-Some.line.now c.in-Some.after.now c.loop-line.invariant c.in-Some.ensures.lines c.in-Some.ensures.shorter
    (sym c.is_dimacs_skipped_line.ensures ∙ c.if-is_dimacs_skipped_line.true)

pub returns-in_default-read_begin-clause-faulty : goal.returns-in_default-read_begin-clause-faulty
returns-in_default-read_begin-clause-faulty c =
    refused_between c.args.text.now c.args.before c.loop-line.number c.loop-line.rest.now c.loop-line.sections.items c.in-Some.line.now c.in-Some.after.now c.loop-line.invariant c.in-Some.ensures.lines
    (sym c.is_dimacs_skipped_line.ensures ∙ c.if-is_dimacs_skipped_line.false) (sym c.read_begin.ensures ∙ c.in_default-read_begin.is)

pub returns-in_err-derivation-clause-faulty : goal.returns-in_err-derivation-clause-faulty
returns-in_err-derivation-clause-faulty c =
    let begins : begun_by (words_of c.in-Some.line.now) ≡ Some c.in-Some-read_begin.leaf = sym c.read_begin.ensures ∙ c.in-Some-read_begin.is in
    handed_on (λ fault. IsRefusal (HasSectionFaultBehind c.args.before (lines_of c.args.text.now)) fault) c.from_residual.result c.in_err-derivation.field-0.0 c.from_residual.ensures.1
    (refusal_inside c.args.text.now c.args.before c.loop-line.number c.loop-line.rest.now c.loop-line.sections.items c.in-Some.line.now c.in-Some.after.now c.cut_section-count.result.0.now c.cut_section-count.result.1.now
    c.cut_section-count.result.2 c.in-Some-read_begin.leaf c.in_err-derivation.field-0.0 c.loop-line.invariant c.in-Some.ensures.lines begins c.cut_section-count.ensures.cut c.in_err-derivation.ensures.faulty)

pub returns-in_default-cut_line-clause-faulty : goal.returns-in_default-cut_line-clause-faulty
returns-in_default-cut_line-clause-faulty c =
    let begins : begun_by (words_of c.in-Some.line.now) ≡ Some c.in-Some-read_begin.leaf = sym c.read_begin.ensures ∙ c.in-Some-read_begin.is in
    refused_at_end c.args.text.now c.args.before c.loop-line.number c.loop-line.rest.now c.loop-line.sections.items c.in-Some.line.now c.in-Some.after.now c.cut_section-count.result.0.now c.cut_section-count.result.1.now
    c.cut_section-count.result.2 c.in-Some-read_begin.leaf c.in_ok-derivation.derivation c.loop-line.invariant c.in-Some.ensures.lines begins c.cut_section-count.ensures.cut c.in_ok-derivation.ensures.spelled c.in_default-cut_line.ensures.lines

pub loop-line-preserved : goal.loop-line-preserved
loop-line-preserved c =
    let begins : begun_by (words_of c.in-Some.line.now) ≡ Some c.in-Some-read_begin.leaf = sym c.read_begin.ensures ∙ c.in-Some-read_begin.is in
    let turned = turn_section c.args.text.now c.args.before c.loop-line.number c.loop-line.rest.now c.loop-line.sections.items c.in-Some.line.now c.in-Some.after.now c.cut_section-count.result.0.now c.cut_section-count.result.1.now
    c.cut_section-count.result.2 c.in-Some-read_begin.leaf c.in_ok-derivation.derivation c.in-Some-cut_line.field-0-0.now c.in-Some-cut_line.behind.now c.loop-line.invariant c.in-Some.ensures.lines c.in-Some.ensures.shorter begins
    c.cut_section-count.ensures.cut c.cut_section-count.ensures.shorter c.in_ok-derivation.ensures.spelled c.in-Some-cut_line.ensures.lines c.in-Some-cut_line.ensures.shorter in
    subst (λ (sections : List Section). IsReadSoFar c.args.text.now c.args.before ((c.loop-line.number + 1) + (c.cut_section-count.result.2 + 1)) c.in-Some-cut_line.behind.now sections) (sym c.in_ok-push.ensures.items) turned

pub returns-then-is_past_half-clause-spelled : goal.returns-then-is_past_half-clause-spelled
returns-then-is_past_half-clause-spelled c =
    let begins : begun_by (words_of c.in-Some.line.now) ≡ Some c.in-Some-read_begin.leaf = sym c.read_begin.ensures ∙ c.in-Some-read_begin.is in
    let turned = turn_section c.args.text.now c.args.before c.loop-line.number c.loop-line.rest.now c.loop-line.sections.items c.in-Some.line.now c.in-Some.after.now c.cut_section-count.result.0.now c.cut_section-count.result.1.now
    c.cut_section-count.result.2 c.in-Some-read_begin.leaf c.in_ok-derivation.derivation c.in-Some-cut_line.field-0-0.now c.in-Some-cut_line.behind.now c.loop-line.invariant c.in-Some.ensures.lines c.in-Some.ensures.shorter begins
    c.cut_section-count.ensures.cut c.cut_section-count.ensures.shorter c.in_ok-derivation.ensures.spelled c.in-Some-cut_line.ensures.lines c.in-Some-cut_line.ensures.shorter in
    subst (λ (sections : List Section). AreReadUpTo c.args.before c.args.text.now ((c.loop-line.number + 1) + (c.cut_section-count.result.2 + 1)) c.in-Some-cut_line.behind.now sections) (sym c.in_ok-push.ensures.items)
    (read_up_to c.args.text.now c.args.before _ c.in-Some-cut_line.behind.now _ turned)

pub returns-clause-spelled : goal.returns-clause-spelled
returns-clause-spelled c = read_up_to c.args.text.now c.args.before c.loop-line.number c.loop-line.rest.now c.loop-line.sections.items c.loop-line.invariant
