use Rattle.std.proofs.Common.{◌≡◌, ◌+◌, ◌∙◌, refl, ap, sym, subst, rules, SFits, w64, drop, get_or, List, ℤ, false, arith, ◌∷◌, []}
use Rattle.std.specs.Prelude.{pos, nat_abs}
use Rattle.std.specs.Int.{is_negative}
use Rattle.std.proofs.lemmas.Int.{to_z-of_z}
use Rattle.lrat_check.specs.ClauseAt.{clause_at}
use Rattle.lrat_check.specs.Hints.{first_hints}
use Rattle.lrat_check.specs.Standing.{IsStanding}
use Rattle.lrat_check.specs.declared.propagation.ClauseStatus.{ClauseStatus}
use Rattle.lrat_check.proofs.Justifying.RefuteLemmas.{IsOnTheWay, on_unit, on_two, id_next}
use Rattle.lrat_check.proofs.Justifying.TrailLemmas.{extends_more}
use Rattle.lrat_check.proofs.propagation.propagate.Goals as goal

pub returns-in-Unfalsified-clause-refuted : goal.returns-in-Unfalsified-clause-refuted
returns-in-Unfalsified-clause-refuted g c =
    let active = clause_at (g.F.ClauseList.formula c.args.formula.now).clauses c.args.active.now in
    let hints = c.args.hints.now in
    let i = c.loop-hint.hint-index in
    let z = get_or hints i (pos 0) in
    let fits : SFits w64 z = search rules in
    let plain : is_negative z ≡ false = ap is_negative (sym (to_z-of_z w64 z fits)) ∙ c.if-hint-lt0.false in
    let id : c.unsigned_abs.result ≡ nat_abs z = search rules in
    let known = c.in-Some.ensures in (
      on_two active c.args.trues.now (first_hints hints) c.loop-hint.trues (first_hints (drop i hints)) c.unsigned_abs.result (first_hints (drop (i + 1) hints)) known.0
          c.loop-hint.invariant.1 (id_next hints i c.unsigned_abs.result (omega arith) plain id) known.1
          (subst (λ (standing : ClauseStatus). IsStanding c.loop-hint.trues known.0 standing) c.in-Unfalsified.is known.2),
      refl,
    )

pub loop-hint-preserved : goal.loop-hint-preserved
loop-hint-preserved g c =
    let active = clause_at (g.F.ClauseList.formula c.args.formula.now).clauses c.args.active.now in
    let hints = c.args.hints.now in
    let i = c.loop-hint.hint-index in
    let z = get_or hints i (pos 0) in
    let fits : SFits w64 z = search rules in
    let plain : is_negative z ≡ false = ap is_negative (sym (to_z-of_z w64 z fits)) ∙ c.if-hint-lt0.false in
    let id : c.unsigned_abs.result ≡ nat_abs z = search rules in
    let known = c.in-Some.ensures in (
      extends_more c.push.new.self c.loop-hint.trues c.args.trues.now (c.in-Unit.unit ∷ [], c.in_ok-push-in-Unit.ensures) c.loop-hint.invariant.0,
      subst (λ (t : List ℤ). IsOnTheWay active c.args.trues.now (first_hints hints) t (first_hints (drop (i + 1) hints))) (sym c.in_ok-push-in-Unit.ensures)
          (on_unit active c.args.trues.now (first_hints hints) c.loop-hint.trues (first_hints (drop i hints)) c.unsigned_abs.result (first_hints (drop (i + 1) hints)) known.0 c.in-Unit.unit
          c.loop-hint.invariant.1 (id_next hints i c.unsigned_abs.result (omega arith) plain id) known.1
          (subst (λ (standing : ClauseStatus). IsStanding c.loop-hint.trues known.0 standing) c.in-Unit.is known.2)),
    )
