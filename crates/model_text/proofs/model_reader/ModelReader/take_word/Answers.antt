use Rattle.std.proofs.lemmas.Option.{MatchOption-at_none}
use Rattle.std.proofs.lemmas.Result.{on_ok_weaker, IfErr-weaker}
use Rattle.model_text.specs.ModelProgress.{TakesNumber, number_of}
use Rattle.model_text.proofs.ModelReadLemmas.{word_taken, late_word, no_number, clashing}
use Rattle.model_text.proofs.model_reader.ModelReader.take_word.Goals as goal

pub returns-clause-taken : goal.returns-clause-taken
returns-clause-taken c =
    on_ok_weaker c.take_number.result
    (λ (t : TakesNumber (number_of c.in-Some.number) c.args.self.now c.take_number.new.self) before h.
    word_taken c.args.self.now c.take_number.new.self before c.args.line_number c.args.word.now (number_of c.in-Some.number) c.if-self.false c.in-Some.ensures t h)
    c.take_number.ensures.taken

pub returns-then-self-clause-refused : goal.returns-then-self-clause-refused
returns-then-self-clause-refused c = late_word c.args.line_number c.args.word.now c.args.self.now c.if-self.true

pub returns-in_default-clause-refused : goal.returns-in_default-clause-refused
returns-in_default-clause-refused c =
    no_number c.args.line_number c.args.word.now c.args.self.now c.if-self.false (MatchOption-at_none _ _ c.in_default.is c.read_model_number.ensures)

pub returns-clause-refused : goal.returns-clause-refused
returns-clause-refused c =
    IfErr-weaker c.take_number.result _ _
    (λ fault clash. clashing c.args.line_number c.args.word.now (number_of c.in-Some.number) c.args.self.now fault c.if-self.false c.in-Some.ensures clash)
    c.take_number.ensures.refused
