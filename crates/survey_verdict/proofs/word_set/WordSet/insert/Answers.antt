use Rattle.std.proofs.Common.{◌≡◌, Bool, true, false, cond, refl, ap, ◌∙◌, ◌||◌}
use Rattle.std.specs.Prelude.{Option, Some, is_some}
use Rattle.std.specs.Str.{bytes_eq}
use Rattle.survey_verdict.proofs.word_set.WordSet.insert.Goals as goal

there : {A : Type 0} (b : Bool) (x : A) (o : Option A) → is_some (cond b (Some x) o) ≡ (b || is_some o)
there true x o = refl
there false x o = refl

pub returns : goal.returns
returns c = λ word.
    ap is_some (c.in_ok-insert.ensures.updates.0 (record { ref_ptr = (0, 0); now = word }))
    ∙ there (bytes_eq c.args.word.now word) true _
