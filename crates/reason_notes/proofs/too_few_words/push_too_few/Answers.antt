use Rattle.std.proofs.Common.{◌≡◌, ℕ, List, subst}
use Rattle.trace_semantics.specs.Judgement.{is_held}
use Rattle.trace_semantics.specs.Trace.{value_of}
use Rattle.reason_notes.proofs.TooFewLemmas.{all_said}
use Rattle.reason_notes.proofs.too_few_words.push_too_few.Goals as goal

pub returns : goal.returns
returns c =
    let starts = subst (λ (l : List (List ℕ × ℕ)). c.is_held_at-starts.result ≡ is_held (value_of l c.args.location.now) c.args.value) c.initial.ensures c.is_held_at-starts.ensures in
    all_said c.args.trace.now c.args.location.now c.args.value c.tally_of-tally.result c.ends_with-ends.result c.is_held_at-starts.result
    c.args.text.now.items c.push_needs.new.text.items c.push_gives.new.text.items
    c.tally_of-tally.ensures c.ends_with-ends.ensures starts c.in_ok-push_needs.ensures c.in_ok-push_gives.ensures
