use Rattle.std.proofs.Common.{List, map, ap, sym, ◌∙◌}
use Rattle.trace_semantics.specs.declared.operation.OpName.{OpName}
use Rattle.trace_semantics.specs.KnownOrder.{says_times}
use Rattle.trace_semantics.specs.Trace.{TraceValue}
use Rattle.trace_semantics.proofs.KnownOrderLemmas.{untimed_if_unsaid}
use Rattle.var_layout.specs.KnownPairs.{numbers_of}
use Rattle.var_layout.proofs.KnownPairs.UntimedLemmas.{without_times}
use Rattle.var_layout.proofs.known_pairs.known_pairs.Goals as goal

pub said_pairs-requires : goal.said_pairs-requires
said_pairs-requires c =
    let t : TraceValue = c.args.numbering.now in
    c.as_slice.ensures.value ∙ c.in_ok-before.ensures ∙ ap (λ (l : List (OpName × OpName)). map (numbers_of t) l) (c.before-2.ensures ∙ ap (λ (u : TraceValue). u.before) (sym c.requires))

pub returns-else-says_times : goal.returns-else-says_times
returns-else-says_times c =
    let t : TraceValue = c.args.numbering.now in
    c.in_ok-before.ensures ∙ ap (λ (l : List (OpName × OpName)). map (numbers_of t) l) (c.before-2.ensures ∙ ap (λ (u : TraceValue). u.before) (sym c.requires))
    ∙ sym (without_times t c.recall_invariant.ensures (untimed_if_unsaid t (ap says_times c.requires ∙ sym c.says_times.ensures ∙ c.if-says_times.false)))
