use Rattle.std.proofs.Common.{◌≡◌, ℕ, List, ◌++◌, ap, sym, ◌∙◌, append_assoc}
use Rattle.std.specs.List.{flat_map}
use Rattle.std.proofs.lemmas.Grind.{flat_map-append}
use Rattle.std.proofs.lemmas.Result.{on_ok_weaker}
use Rattle.trace_text.specs.TraceLines.{spaced}
use Rattle.trace_text.specs.TraceText.{origin_words, span_words}
use Rattle.trace_text.proofs.trace_writer.push_last_words.Goals as goal

-- some words, and others behind them
both : (text : List ℕ) (xs ys : List (List ℕ)) (u v : List ℕ) → u ≡ text ++ flat_map spaced xs → v ≡ u ++ flat_map spaced ys → v ≡ text ++ flat_map spaced (xs ++ ys)
both text xs ys u v e f = f ∙ ap (λ l. l ++ flat_map spaced ys) e ∙ append_assoc text (flat_map spaced xs) (flat_map spaced ys) ∙ ap (λ l. text ++ l) (sym (flat_map-append spaced xs ys))

pub returns : goal.returns
returns c = on_ok_weaker c.push_span.result (λ e. both c.args.text.now.items (origin_words c.args.origin.now) (span_words c.args.span) c.push_origin.new.text.items c.push_span.new.text.items c.in_ok-push_origin.ensures e) c.push_span.ensures
