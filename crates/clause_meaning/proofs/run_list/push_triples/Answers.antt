use Rattle.std.proofs.Common.{ℕ, ap, ◌∙◌, ◌++◌, ◌∷◌, []}
use Rattle.clause_meaning.specs.declared.run.ClauseRun.TheVariants as run
use Rattle.clause_meaning.proofs.ListLemmas.{mapped_push}
use Rattle.clause_meaning.proofs.run_list.push_triples.Goals as goal

pub loop-i-preserved : goal.loop-i-preserved
loop-i-preserved c =
    c.in_ok-push.ensures.items ∙ ap (λ l. l ++ run.TriplesFrom c.loop-i.i ∷ []) c.loop-i.invariant
    ∙ mapped_push (λ (i : ℕ). run.TriplesFrom i) c.args.runs.now.items c.loop-i.i
