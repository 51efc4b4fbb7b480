use Rattle.std.proofs.Common.{◌≡◌, [], ◌∷◌, ◌++◌, get_or, refl, ap, sym, ◌∙◌, append-nil}
use Rattle.std.specs.Prelude.{Some, None}
use Rattle.std.specs.List.{slice_get}
use Rattle.std.specs.Option.{option_copied}
use Rattle.var_layout.proofs.NumberingLemmas.{lent}
use Rattle.schedule_decode.proofs.NameLemmas.{one_more_named}
use Rattle.schedule_decode.proofs.operation_names.names_in_order.Goals as goal
use Rattle.schedule_decode.proofs.operation_names.names_in_order.Goals.{in-Some+in_ok-copied+in_ok-push, in_default}

pub loop-i-preserved : goal.loop-i-preserved
loop-i-preserved c =
    let i = get_or c.args.order.now c.loop-i.i-index 0 in
    let found : option_copied c.get.result ≡ slice_get c.args.names.now i = lent c.args.names.now c.args.names.now i c.get.result c.get.ensures.lookup refl in
    elim c.match-get.branch [
      | in-Some+in_ok-copied+in_ok-push w ↦ (
          ap (λ v. v.items) w.named-is ∙ w.in_ok-push.ensures.items ∙ ap (λ n. c.loop-i.named.items ++ n ∷ []) w.in_ok-copied.ensures
          ∙ one_more_named c.args.names.now c.args.order.now c.loop-i.i-index (Some w.in-Some.name.now) c.loop-i.named.items c.loop-i-test.true (ap option_copied (sym w.in-Some.is) ∙ found) c.loop-i.invariant)
      | in_default w ↦ (
          ap (λ v. v.items) w.named-is ∙ sym (append-nil _)
          ∙ one_more_named c.args.names.now c.args.order.now c.loop-i.i-index None c.loop-i.named.items c.loop-i-test.true (ap option_copied (sym w.in_default.is) ∙ found) c.loop-i.invariant)
    ]
