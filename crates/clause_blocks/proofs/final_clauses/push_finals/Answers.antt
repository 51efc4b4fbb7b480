use Rattle.std.proofs.Common.{◌≡◌, ap, sym, ◌∙◌, ◌++◌, ◌∷◌, [], take, append-nil, append_assoc}
use Rattle.std.specs.List.{flat_map}
use Rattle.std.proofs.lemmas.List.{take_all}
use Rattle.clause_blocks.proofs.ClauseList.FinalLemmas.{of_choice, zero_from_test, nonzero_from_test, empty_finals, chosen_finals, finals_are_variables, finals_are_operations, writers_are_operations}
use Rattle.clause_blocks.proofs.final_clauses.push_finals.Goals as goal

pub returns-then-is_empty : goal.returns-then-is_empty
returns-then-is_empty c =
    sym (append-nil _) ∙ ap (λ l. c.args.clauses.now.items ++ l) (sym (empty_finals c.args.layout.now c.args.k c.finals-finals.result.now c.finals-finals.ensures c.requires.not_void (zero_from_test _ (c.if-is_empty.ensures))))

pub literals_of-requires : goal.literals_of-requires
literals_of-requires c = finals_are_variables c.args.layout.now c.recall_limits.ensures.trace c.recall_limits.ensures.few c.args.k c.finals-finals.result.now c.finals-finals.ensures

pub push_writes_last-requires : goal.push_writes_last-requires
push_writes_last-requires c =
    let t = c.args.layout.now in
    let fs = c.finals-finals.result.now in
    record {
      writers = writers_are_operations t _ c.final_writers-writers.result.now c.final_writers-writers.ensures;
      writer = finals_are_operations t c.args.k fs c.finals-finals.ensures c.loop-choice.choice-index _ c.loop-choice-test.true;
      variable = finals_are_variables t c.recall_limits.ensures.trace c.recall_limits.ensures.few c.args.k fs c.finals-finals.ensures c.loop-choice.choice-index _ c.loop-choice-test.true;
    }

pub returns : goal.returns
returns c =
    let t = c.args.layout.now in
    let fs = c.finals-finals.result.now in
    let ws = c.final_writers-writers.result.now in
    let at_end : take c.loop-choice.choice-index fs ≡ fs = take_all c.loop-choice.choice-index fs c.loop-choice-test.false in
    c.loop-choice.invariant
    ∙ (λ p. c.in_ok-push.ensures.items p ++ flat_map (of_choice t ws) (at_end p))
    ∙ append_assoc c.args.clauses.now.items (c.in_ok-from_slice.field-0 ∷ []) (flat_map (of_choice t ws) fs)
    ∙ (λ p. c.args.clauses.now.items ++ (c.in_ok-from_slice.ensures.ok ∙ c.as_slice.ensures.value ∙ c.in_ok-literals.ensures) p ∷ flat_map (of_choice t ws) fs)
    ∙ ap (λ l. c.args.clauses.now.items ++ l) (sym (chosen_finals t c.args.k fs ws c.finals-finals.ensures c.final_writers-writers.ensures (nonzero_from_test _ c.if-is_empty.ensures)))
