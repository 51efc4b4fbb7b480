use Rattle.std.proofs.Common.{◌≡◌, ℕ, List, ◌++◌, map, codes, ap, sym, ◌∙◌, append_assoc}
use Rattle.std.specs.List.{flat_map}
use Rattle.std.proofs.lemmas.Grind.{flat_map-append}
use Rattle.std.proofs.lemmas.Result.{on_ok_weaker}
use Rattle.trace_semantics.specs.declared.operation.OpName.{OpName}
use Rattle.trace_semantics.specs.Trace.{TraceValue}
use Rattle.trace_text.specs.TraceLines.{entry_line}
use Rattle.trace_text.specs.TraceText.{init_line, final_line, before_line}
use Rattle.trace_text.specs.TraceWritten.{line_text}
use Rattle.part_text.specs.PartText.{named_processes}
use Rattle.part_text.proofs.part_writer.push_named_body.Goals as goal

-- four lists of lines, one behind the other
joined : (o : List ℕ) (front more behind last : List (List (List ℕ))) (x y z w : List ℕ) → x ≡ o ++ flat_map line_text front → y ≡ x ++ flat_map line_text more → z ≡ y ++ flat_map line_text behind → w ≡ z ++ flat_map line_text last →
    w ≡ o ++ flat_map line_text (front ++ (more ++ (behind ++ last)))
joined o front more behind last x y z w e g h k =
    let a = flat_map line_text front in
    let b = flat_map line_text more in
    let c = flat_map line_text behind in
    let d = flat_map line_text last in
    k ∙ ap (λ l. l ++ d) (h ∙ ap (λ l. l ++ c) (g ∙ ap (λ l. l ++ b) e))
    ∙ append_assoc ((o ++ a) ++ b) c d ∙ append_assoc (o ++ a) b (c ++ d) ∙ append_assoc o a (b ++ (c ++ d))
    ∙ ap (λ l. o ++ l) (sym (flat_map-append line_text front (more ++ (behind ++ last)) ∙ ap (λ l. a ++ l) (flat_map-append line_text more (behind ++ last) ∙ ap (λ l. b ++ l) (flat_map-append line_text behind last))))

pub returns : goal.returns
returns c =
    let t = c.args.part.now.trace in
    let o = c.args.text.now.items in
    let x = c.push_entries.new.text.items in
    let y = c.push_entries-2.new.text.items in
    let z = c.push_named_processes.new.text.items in
    let same = c.trace-trace.ensures in
    let initial = c.initial.ensures ∙ ap (λ (v : TraceValue). v.initial) same in
    let finals = c.final_values.ensures ∙ ap (λ (v : TraceValue). v.final_values) same in
    let pairs = c.before-pairs.ensures ∙ ap (λ (v : TraceValue). v.before) same in
    let first : x ≡ o ++ flat_map line_text (map init_line t.initial) = c.in_ok-push_entries.ensures ∙ ap (λ (values : List (List ℕ × ℕ)). o ++ flat_map line_text (map (entry_line (codes "init")) values)) initial in
    let second : y ≡ x ++ flat_map line_text (map final_line t.final_values) = c.in_ok-push_entries-2.ensures ∙ ap (λ (values : List (List ℕ × ℕ)). x ++ flat_map line_text (map (entry_line (codes "final")) values)) finals in
    let third : z ≡ y ++ flat_map line_text (named_processes c.args.part.now.places 0 t.processes) = c.in_ok-push_named_processes.ensures in
    on_ok_weaker c.push_pairs.result (λ last.
    joined o (map init_line t.initial) (map final_line t.final_values) (named_processes c.args.part.now.places 0 t.processes) (map before_line t.before) x y z c.push_pairs.new.text.items first second third
    (last ∙ ap (λ (pairs : List (OpName × OpName)). z ++ flat_map line_text (map before_line pairs)) pairs)) c.push_pairs.ensures
