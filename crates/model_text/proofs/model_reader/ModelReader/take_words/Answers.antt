use Rattle.std.proofs.Common.{rules, ◌≡◌, Err}
use Rattle.std.proofs.lemmas.Option.{MatchOption-at_none}
use Rattle.model_text.proofs.ModelReadLemmas.{one_more_taken, all_taken, word_refused}
use Rattle.model_text.proofs.model_reader.ModelReader.take_words.Goals as goal

pub returns-in_err-take_word-clause-refused : goal.returns-in_err-take_word-clause-refused
returns-in_err-take_word-clause-refused c =
    let refused = word_refused c.args.line_number c.args.words.now c.loop-word.rest.now c.args.self.now c.loop-word.self c.in-Some.word.now c.in-Some.after.now c.in_err-take_word.field-0.0 c.loop-word.invariant c.in-Some.ensures.words c.in_err-take_word.ensures.refused in
    let told : c.from_residual.result ≡ Err c.in_err-take_word.field-0.0 = search rules in
    rw told refused

pub loop-word-preserved : goal.loop-word-preserved
loop-word-preserved c =
    one_more_taken c.args.line_number c.args.words.now c.loop-word.rest.now c.args.self.now c.loop-word.self c.take_word.new.self c.in-Some.word.now c.in-Some.after.now c.loop-word.invariant c.in-Some.ensures.words c.in_ok-take_word.ensures.taken

pub returns-clause-taken : goal.returns-clause-taken
returns-clause-taken c =
    all_taken c.args.line_number c.args.words.now c.loop-word.rest.now c.args.self.now c.loop-word.self c.loop-word.invariant (MatchOption-at_none _ _ c.in_default.is c.cut_word.ensures.words)
