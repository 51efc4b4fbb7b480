use Rattle.std.proofs.Common.{◌≡◌, ◌∙◌, List, ℕ, ap, sym, take, map, subst, false}
use Rattle.std.specs.Borrow.{Bor}
use Rattle.std.proofs.lemmas.Result.{on_ok_weaker, IfErr-weaker}
use Rattle.text_lines.specs.Words.{words_of}
use Rattle.text_lines.specs.Kept.{is_skipped}
use Rattle.text_lines.specs.PlainFault.{IsRefusedFor}
use Rattle.trace_text.specs.Said.{said}
use Rattle.trace_text.specs.Statement.{statement_of}
use Rattle.trace_text.proofs.LineWords.LineLemmas.{skipped_first}
use Rattle.trace_text.proofs.LineWords.ReferenceLemmas.{fault_named, fault_unsaid}
use Rattle.trace_text.proofs.references.check_line.Goals as goal

pub returns-in-Some-clause-refused : goal.returns-in-Some-clause-refused
returns-in-Some-clause-refused c =
    let seen : List (Bor (List ℕ)) → List (List ℕ) = λ ws. map (λ (w : Bor (List ℕ)). w.now) ws in
    let first : seen c.as_slice-2.result.now ≡ take 11 (words_of c.args.line.now) = ap seen c.as_slice-2.ensures.elements ∙ c.first_words-words.ensures in
    let skip : is_skipped (words_of c.args.line.now) ≡ false = sym (skipped_first (words_of c.args.line.now)) ∙ ap is_skipped (sym c.first_words-words.ensures ∙ ap seen (sym c.as_slice.ensures.elements)) ∙ sym c.is_skipped_line.ensures ∙ c.if-is_skipped_line.false in
    let same = fault_named c.args.version c.args.processes.now c.args.line.now (said c.in-Some.statement) skip (c.in-Some.ensures ∙ ap (statement_of c.args.version) first) in
    IfErr-weaker c.fault_of_names.result _ _ (λ y r. subst (λ f. IsRefusedFor f y) (sym same) r) c.fault_of_names.ensures.refused

pub returns-in-Some-clause-fine : goal.returns-in-Some-clause-fine
returns-in-Some-clause-fine c =
    let seen : List (Bor (List ℕ)) → List (List ℕ) = λ ws. map (λ (w : Bor (List ℕ)). w.now) ws in
    let first : seen c.as_slice-2.result.now ≡ take 11 (words_of c.args.line.now) = ap seen c.as_slice-2.ensures.elements ∙ c.first_words-words.ensures in
    let skip : is_skipped (words_of c.args.line.now) ≡ false = sym (skipped_first (words_of c.args.line.now)) ∙ ap is_skipped (sym c.first_words-words.ensures ∙ ap seen (sym c.as_slice.ensures.elements)) ∙ sym c.is_skipped_line.ensures ∙ c.if-is_skipped_line.false in
    let same = fault_named c.args.version c.args.processes.now c.args.line.now (said c.in-Some.statement) skip (c.in-Some.ensures ∙ ap (statement_of c.args.version) first) in
    on_ok_weaker c.fault_of_names.result (λ t. same ∙ t) c.fault_of_names.ensures.fine

pub returns-in-None-clause-fine : goal.returns-in-None-clause-fine
returns-in-None-clause-fine c =
    let seen : List (Bor (List ℕ)) → List (List ℕ) = λ ws. map (λ (w : Bor (List ℕ)). w.now) ws in
    let first : seen c.as_slice-2.result.now ≡ take 11 (words_of c.args.line.now) = ap seen c.as_slice-2.ensures.elements ∙ c.first_words-words.ensures in
    fault_unsaid c.args.version c.args.processes.now c.args.line.now (c.in-None.ensures ∙ ap (statement_of c.args.version) first)
