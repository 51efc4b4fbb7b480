-- What is said of numbers that were counted.
use Rattle.std.proofs.Common.{◌≡◌, ℕ, Bool, List, ◌++◌, subst}
use Rattle.trace_semantics.specs.Judgement.{is_held}
use Rattle.trace_semantics.specs.Trace.{TraceValue, value_of}
use Rattle.reason_counting.specs.Tallies.{IsTallyOfTrace, does_leave, does_want}
use Rattle.reason_counting.specs.declared.tally.Tally.{Tally}
use Rattle.reason_notes.specs.Words.{count_of, ends_with, gives_text, needs_text, too_few_text}
use Rattle.reason_notes.proofs.AppendLemmas.{two}

-- those that need the value were said, and then those that give it
pub all_said : (t : TraceValue) (location : List ℕ) (value : ℕ) (tally : Tally) (ends starts : Bool) (old one both : List ℕ) → IsTallyOfTrace t location value tally → ends ≡ ends_with t location value → starts ≡ is_held (value_of t.initial location) value → one ≡ old ++ needs_text location value tally.wanting ends → both ≡ one ++ gives_text tally.leaving starts → both ≡ old ++ too_few_text t location value
all_said t location value tally ends starts old one both counted ends_so starts_so first second =
    let wanting = count_of (does_want location value) t in
    let leaving = count_of (does_leave location value) t in
    let needs : one ≡ old ++ needs_text location value wanting (ends_with t location value) =
    subst (λ (b : Bool). one ≡ old ++ needs_text location value wanting b) ends_so (subst (λ (n : ℕ). one ≡ old ++ needs_text location value n ends) counted.wanting first) in
    let gives : both ≡ one ++ gives_text leaving (is_held (value_of t.initial location) value) =
    subst (λ (b : Bool). both ≡ one ++ gives_text leaving b) starts_so (subst (λ (n : ℕ). both ≡ one ++ gives_text n starts) counted.leaving second) in
    two old (needs_text location value wanting (ends_with t location value)) (gives_text leaving (is_held (value_of t.initial location) value)) one both needs gives
