use Rattle.std.proofs.Common.{◌≡◌, ◌∷◌, false, sym, ◌∙◌}
use Rattle.std.specs.Prelude.{Option, Some, None, is_some, MatchOption}
use Rattle.std.proofs.lemmas.Bool.{false≢true}
use Rattle.trace_semantics.specs.declared.operation.OpName.{OpName}
use Rattle.schedule_text.proofs.OpNameLemmas.{name_read}
use Rattle.schedule_text.proofs.schedule_reader.read_line.Goals as goal

none_since : {A : Type 0} (o : Option A) (P : Type 0) (Q : A → Type 0) → MatchOption o P Q → is_some o ≡ false → P
none_since None P Q h e = h
none_since (Some x) P Q h e = absurd (false≢true (sym e))

pub returns-in-Ok : goal.returns-in-Ok
returns-in-Ok c =
    let n : OpName = record { process = c.in-Ok.name.0.now; place = c.in-Ok.name.1 } in
    let read = name_read c.args.limits c.args.earlier c.in-Some.word.now n c.in-Ok.ensures.0 c.in-Ok.ensures.1 c.in-Ok.ensures.2 in
    let alone = none_since c.cut_word-2.result _ _ c.cut_word-2.ensures.words (sym c.is_some.ensures ∙ c.if-is_some.false) in
    record { word = c.in-Some.ensures.words ∙ (λ i. read.reads i ∷ alone i); written = read.written; room = read.room }
