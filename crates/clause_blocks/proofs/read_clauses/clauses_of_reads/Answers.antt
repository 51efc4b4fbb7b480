use Rattle.std.proofs.Common.{ap, sym, ◌∙◌, ◌++◌, [], true, false, append-nil}
use Rattle.std.specs.Prelude.{is_some}
use Rattle.var_layout.specs.Numbers.{read_at}
use Rattle.clause_blocks.specs.Blocks.{clauses_of_read}
use Rattle.clause_blocks.proofs.InPieces.StepLemmas.{flat_passed}
use Rattle.clause_blocks.proofs.read_clauses.clauses_of_reads.Goals as goal
use Rattle.clause_blocks.proofs.read_clauses.clauses_of_reads.Goals.{then-is_reader+in_ok-push_clauses_of_read, else-is_reader}

pub loop-r-preserved : goal.loop-r-preserved
loop-r-preserved c =
    let t = c.args.layout.now in
    let step = flat_passed (clauses_of_read t) (λ i. is_some (read_at t i)) [] c.loop-r.r in
    elim c.if-is_reader.branch [
      | then-is_reader+in_ok-push_clauses_of_read w ↦ (
          ap (λ v. v.items) w.clauses-is ∙ w.in_ok-push_clauses_of_read.ensures ∙ ap (λ l. l ++ clauses_of_read t c.loop-r.r) c.loop-r.invariant
          ∙ step true (sym c.is_reader.ensures ∙ w.if-is_reader.true))
      | else-is_reader w ↦ (
          ap (λ v. v.items) w.clauses-is ∙ c.loop-r.invariant ∙ sym (append-nil _)
          ∙ step false (sym c.is_reader.ensures ∙ w.if-is_reader.false))
    ]
