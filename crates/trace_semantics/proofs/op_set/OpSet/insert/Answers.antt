use Rattle.std.proofs.Common.{◌≡◌, List, ℕ, Bool, true, false, cond, refl, ap, ◌∙◌, ◌&&◌, ◌||◌, ◌==◌}
use Rattle.std.specs.Prelude.{Option, Some, is_some}
use Rattle.std.specs.Str.{bytes_eq}
use Rattle.trace_semantics.specs.OpSet.{has}
use Rattle.trace_semantics.proofs.op_set.OpSet.insert.Goals as goal

there : {A : Type 0} (b : Bool) (x : A) (o : Option A) → is_some (cond b (Some x) o) ≡ (b || is_some o)
there true x o = refl
there false x o = refl

pub returns : goal.returns
returns c = λ n.
    ap is_some (c.in_ok-insert.ensures.updates.0 (record { 0 = record { ref_ptr = (0, 0); now = n.process }; 1 = n.place }))
    ∙ there (bytes_eq c.as_bytes.result.now n.process && (c.args.name.now.place == n.place)) true _
    ∙ ap (λ (p : List ℕ). (bytes_eq p n.process && (c.args.name.now.place == n.place)) || has c.args.self.now n) c.as_bytes.ensures
