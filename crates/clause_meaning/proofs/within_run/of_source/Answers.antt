use Rattle.std.proofs.Common.{◌≡◌, ℕ, ◌-◌, Some, sym, ap, ◌∙◌}
use Rattle.std.specs.Prelude.{slice_get}
use Rattle.var_layout.specs.Numbers.{others, other_writers}
use Rattle.clause_meaning.specs.declared.meaning.ClauseMeaning.TheVariants as say
use Rattle.clause_meaning.proofs.PlaceLemmas.{slice_behind}
use Rattle.clause_meaning.proofs.within_run.of_source.Goals as goal

pub returns : goal.returns
returns c =
    let t = c.args.layout.now in
    let ws = other_writers t c.args.reader in
    let v = c.args.variable in
    let s = c.args.source in
    let there : slice_get (others s ws) (c.args.place - 1) ≡ Some c.in_ok-writer.writer =
    ap (λ l. slice_get (others s l) (c.args.place - 1)) (sym c.other_writers.ensures) ∙ sym c.other_at.ensures ∙ c.in_ok-writer.was in
    slice_behind (say.AfterSource c.args.reader v s) (λ (w : ℕ). say.NotBetween c.args.reader v s w) (others s ws) c.args.place c.in_ok-writer.writer c.if-place-eq0.false there
