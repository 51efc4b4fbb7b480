use Rattle.std.proofs.Common.{◌<◌, ℕ, List, [], ◌∷◌, ◌++◌, sym, subst}
use Rattle.std.specs.List.{All}
use Rattle.std.proofs.lemmas.Bool.{MatchBool-at_false}
use Rattle.writer_table.specs.declared.runs.Run.{Run}
use Rattle.writer_table.specs.Runs.{AreUpTo, HasOneMore}
use Rattle.writer_table.proofs.RunLemmas.{run_more}
use Rattle.writer_table.proofs.runs.Runs.add.Goals as goal

pub returns : goal.returns
returns c =
    let run : Run = record { process = c.args.process; places = c.in_ok-places.places } in
    let same = MatchBool-at_false _ _ c.if-branch.false c.in_ok-extend_last.ensures.more in
    let past : (k : ℕ) → k < c.args.place → AreUpTo c.args.self.now c.args.process k → All (λ (r : Run). r.process < c.args.process) c.args.self.now = λ k less so. subst (λ (l : List Run). All (λ (r : Run). r.process < c.args.process) l) c.self.view_is
    (c.in_ok-extend_last.ensures.past c.if-branch.false k less (subst (λ (l : List Run). AreUpTo l c.args.process k) (sym c.self.view_is) so)) in
    subst (λ (l : List Run). HasOneMore c.args.self.now l c.args.process c.args.place) (sym c.in_ok-push.ensures.items)
    (subst (λ (l : List Run). HasOneMore c.args.self.now (l ++ run ∷ []) c.args.process c.args.place) (sym same) (subst (λ (l : List Run). HasOneMore c.args.self.now (l ++ run ∷ []) c.args.process c.args.place) (sym c.self.view_is) (run_more c.args.self.now run c.args.place c.in_ok-places.ensures past)))
