use Rattle.std.proofs.Common.{◌≡◌, ◌∙◌, List, ℕ, ap, sym, take, map, subst, false}
use Rattle.std.specs.Borrow.{Bor}
use Rattle.std.specs.List.{list_any}
use Rattle.std.proofs.lemmas.Result.{on_ok_weaker, IfErr-weaker}
use Rattle.text_lines.specs.Words.{words_of}
use Rattle.text_lines.specs.Kept.{is_skipped}
use Rattle.trace_text.specs.Read.{TakesWords}
use Rattle.text_lines.specs.PlainFault.{IsRefusedFor}
use Rattle.trace_text.specs.Statement.{statement_of}
use Rattle.trace_text.specs.TraceFault.{said_fault, is_high}
use Rattle.trace_text.proofs.LineWords.LineLemmas.{line_refused, line_taken, skipped_first}
use Rattle.trace_text.specs.Version.{limits_of}
use Rattle.trace_text.proofs.trace_reader.TraceReader.take_line.Goals as goal

pub returns-clause-refused : goal.returns-clause-refused
returns-clause-refused c =
    let seen : List (Bor (List ℕ)) → List (List ℕ) = λ ws. map (λ (w : Bor (List ℕ)). w.now) ws in
    let first : seen c.as_slice-2.result.now ≡ take 11 (words_of c.args.line.now) = ap seen c.as_slice-2.ensures.elements ∙ c.first_words-words.ensures in
    let skip : is_skipped (words_of c.args.line.now) ≡ false = sym (skipped_first (words_of c.args.line.now)) ∙ ap is_skipped (sym c.first_words-words.ensures ∙ ap seen (sym c.as_slice.ensures.elements)) ∙ sym c.is_skipped_line.ensures ∙ c.if-is_skipped_line.false in
    let low : list_any is_high c.args.line.now ≡ false = sym c.has_high_byte.ensures ∙ c.if-has_high_byte.false in
    IfErr-weaker c.take_words.result _ _ (λ y r before ss a p.
    line_refused c.args.version before ss c.args.line.now y a skip low (subst (λ w. IsRefusedFor (said_fault (limits_of c.args.version) ss (statement_of c.args.version w)) y) first (r ss p))) c.take_words.ensures.refused

pub returns-clause-taken : goal.returns-clause-taken
returns-clause-taken c =
    let seen : List (Bor (List ℕ)) → List (List ℕ) = λ ws. map (λ (w : Bor (List ℕ)). w.now) ws in
    let first : seen c.as_slice-2.result.now ≡ take 11 (words_of c.args.line.now) = ap seen c.as_slice-2.ensures.elements ∙ c.first_words-words.ensures in
    let skip : is_skipped (words_of c.args.line.now) ≡ false = sym (skipped_first (words_of c.args.line.now)) ∙ ap is_skipped (sym c.first_words-words.ensures ∙ ap seen (sym c.as_slice.ensures.elements)) ∙ sym c.is_skipped_line.ensures ∙ c.if-is_skipped_line.false in
    let low : list_any is_high c.args.line.now ≡ false = sym c.has_high_byte.ensures ∙ c.if-has_high_byte.false in
    on_ok_weaker c.take_words.result (λ t before ss a p.
    line_taken c.args.version before ss c.args.line.now c.take_words.new.self a skip low (subst (λ w. TakesWords c.args.version ss w c.take_words.new.self) first (t ss p))) c.take_words.ensures.taken
