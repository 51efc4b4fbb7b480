use Rattle.std.proofs.Common.{ap, sym, ◌∙◌, ◌++◌, ◌∷◌, [], not, true, false, append-nil, append_assoc, map, ℕ, neg_ℤ, ◌≡◌}
use Rattle.std.specs.Prelude.{◌==◌}
use Rattle.std.proofs.lemmas.List.{take_all}
use Rattle.var_layout.specs.Numbers.{others}
use Rattle.clause_blocks.specs.Blocks.{implies, stands_before}
use Rattle.clause_blocks.proofs.ClauseList.ReadLemmas.{literal_there, others_within}
use Rattle.clause_blocks.proofs.InPieces.StepLemmas.{map_taken, is_other, is_same}
use Rattle.clause_blocks.proofs.read_clauses.push_reads_writer.Goals as goal
use Rattle.clause_blocks.proofs.read_clauses.push_reads_writer.Goals.{then-v-w+in_ok-push-2, else-v-w}

pub order_lit-before-requires-clause-first : goal.order_lit-before-requires-clause-first
order_lit-before-requires-clause-first c = (others_within c.args.layout.now c.args.r c.other_writers-writers.result.now c.other_writers-writers.ensures c.loop-k.k 0 c.loop-k-test.true).0

pub loop-k-preserved : goal.loop-k-preserved
loop-k-preserved c =
    let t = c.args.layout.now in
    let writers = c.other_writers-writers.result.now in
    let there = literal_there t c.args.r writers c.args.after.now c.other_writers-writers.ensures c.requires.after c.loop-k.k in
    let clause = λ (v : ℕ). implies c.args.choice.variable (stands_before t v c.args.choice.writer ∷ stands_before t c.args.r v ∷ []) in
    let step = map_taken clause (λ (v : ℕ). not (v == c.args.choice.writer)) c.push.new.self.items writers c.loop-k.k 0 in
    elim c.if-v-w.branch [
      | then-v-w+in_ok-push-2 w ↦ (
          ap (λ v. v.items) w.clauses-is ∙ w.in_ok-push-2.ensures.items
          ∙ (λ p. c.loop-k.invariant p ++ (w.ternary.ensures ∙ (λ q. (c.negated-unchosen.ensures.number ∙ ap neg_ℤ c.positive.ensures) q ∷ w.order_lit-before.ensures q ∷ (w.index-after-k.is ∙ there _ c.loop-k-test.true) q ∷ [])) p ∷ [])
          ∙ step true c.loop-k-test.true (is_other _ _ w.if-v-w.true))
      | else-v-w w ↦ (
          ap (λ v. v.items) w.clauses-is ∙ c.loop-k.invariant ∙ sym (append-nil _)
          ∙ step false c.loop-k-test.true (is_same _ _ w.if-v-w.false))
    ]

pub returns : goal.returns
returns c =
    let t = c.args.layout.now in
    let old = c.args.clauses.now.items in
    let first = implies c.args.choice.variable (stands_before t c.args.choice.writer c.args.r ∷ []) in
    let clause = λ (v : ℕ). implies c.args.choice.variable (stands_before t v c.args.choice.writer ∷ stands_before t c.args.r v ∷ []) in
    let all = take_all c.loop-k.k c.other_writers-writers.result.now c.loop-k-test.false ∙ c.other_writers-writers.ensures in
    let begun : c.push.new.self.items ≡ old ++ first ∷ [] = c.in_ok-push.ensures.items
    ∙ (λ p. old ++ (c.binary.ensures ∙ (λ q. (c.negated-unchosen.ensures.number ∙ ap neg_ℤ c.positive.ensures) q ∷ c.order_lit.ensures q ∷ [])) p ∷ []) in
    c.loop-k.invariant ∙ (λ p. begun p ++ map clause (others c.args.choice.writer (all p))) ∙ append_assoc old (first ∷ []) _
