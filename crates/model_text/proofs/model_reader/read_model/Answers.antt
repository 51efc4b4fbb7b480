use Rattle.std.proofs.Common.{rules, List, Bool, sym, subst}
use Rattle.std.proofs.lemmas.Option.{MatchOption-at_none}
use Rattle.model_text.specs.ModelText.{SpellsModel}
use Rattle.model_text.proofs.ModelReadLemmas.{line_taken, text_refused, unended, ended}
use Rattle.model_text.proofs.model_reader.read_model.Goals as goal

pub returns-in_err-take_line-clause-faulty : goal.returns-in_err-take_line-clause-faulty
returns-in_err-take_line-clause-faulty c =
    let refused = text_refused c.args.text.now c.loop-line.line_number c.loop-line.rest.now c.loop-line.reader c.in-Some.line.now c.in-Some.after.now c.in_err-take_line.field-0.0 c.loop-line.invariant c.in-Some.ensures.lines c.in_err-take_line.ensures.refused in
    search (rules, refused)

pub loop-line-preserved : goal.loop-line-preserved
loop-line-preserved c =
    line_taken c.args.text.now c.loop-line.line_number c.loop-line.rest.now c.loop-line.reader c.take_line.new.self c.in-Some.line.now c.in-Some.after.now c.loop-line.invariant c.in-Some.ensures.lines c.in-Some.ensures.shorter c.in_ok-take_line.ensures.taken

pub returns-then-not-reader-clause-faulty : goal.returns-then-not-reader-clause-faulty
returns-then-not-reader-clause-faulty c =
    unended c.args.text.now c.loop-line.line_number c.loop-line.rest.now c.loop-line.reader c.loop-line.invariant (MatchOption-at_none _ _ c.in_default.is c.cut_line.ensures.lines) c.if-not-reader.true

pub returns-clause-spelled : goal.returns-clause-spelled
returns-clause-spelled c =
    subst (λ (values : List Bool). SpellsModel c.args.text.now values) (sym c.new.ensures)
    (ended c.args.text.now c.loop-line.line_number c.loop-line.rest.now c.loop-line.reader c.loop-line.invariant (MatchOption-at_none _ _ c.in_default.is c.cut_line.ensures.lines) c.if-not-reader.false)
