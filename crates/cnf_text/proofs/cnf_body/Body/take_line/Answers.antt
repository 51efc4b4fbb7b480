use Rattle.std.proofs.lemmas.Result.{err_from_is_err_and}
use Rattle.text_lines.specs.Words.{words_of}
use Rattle.cnf_text.specs.CnfReading.{Header}
use Rattle.cnf_text.proofs.CnfBodyLemmas.{next_in_line, line_refused}
use Rattle.cnf_text.proofs.cnf_body.Body.take_line.Goals as goal

pub returns-in_err-take_word-clause-refused : goal.returns-in_err-take_word-clause-refused
returns-in_err-take_word-clause-refused c =
    let h : Header = record { variables = c.args.counts.variables; clauses = c.args.counts.clauses } in
    let p = err_from_is_err_and c.from_residual.result c.from_residual.ensures.1 in
    rw (p.1, p.2) (line_refused h c.args.number c.args.line.now c.args.self.now.clauses.items c.args.self.now.begun.items (words_of c.loop-word.rest.now) c.loop-word.self.clauses.items c.loop-word.self.begun.items c.in-Some.word.now (words_of c.in-Some.after.now) c.in_err-take_word.field-0.0 c.loop-word.invariant c.in-Some.ensures.words c.in_err-take_word.ensures.refused)

pub loop-word-preserved : goal.loop-word-preserved
loop-word-preserved c =
    let h : Header = record { variables = c.args.counts.variables; clauses = c.args.counts.clauses } in
    next_in_line h c.args.number (words_of c.args.line.now) c.args.self.now.clauses.items c.args.self.now.begun.items (words_of c.loop-word.rest.now) c.loop-word.self.clauses.items c.loop-word.self.begun.items c.in-Some.word.now (words_of c.in-Some.after.now) _ _ c.loop-word.invariant c.in-Some.ensures.words c.in_ok-take_word.ensures.taken
