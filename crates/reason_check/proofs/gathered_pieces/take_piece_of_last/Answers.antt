use Rattle.std.proofs.Common.{◌≡◌, ◌-◌, ◌∙◌, List, suc, length, arith, inl, inr, refl, subst, sym}
use Rattle.reason_clauses.proofs.RefusedLemmas.{result_on}
use Rattle.reason_text.specs.declared.member_part.MemberPart.{MemberPart}
use Rattle.reason_text.specs.declared.source_piece.SourcePiece.{SourcePiece}
use Rattle.reason_check.specs.Members.{AreWaiters, IsWaiterOf, IsPieceRefused, IsRefusedBehind}
use Rattle.reason_check.proofs.MemberLemmas.{after_piece, none_before, piece_refused}
use Rattle.reason_check.proofs.gathered_pieces.take_piece_of_last.Goals as goal
use Rattle.reason_check.proofs.gathered_pieces.take_piece_of_last.Goals.{then-count-eq0-via-then-count-eq0, then-count-eq0-via-else-count-eq0+then-is_of_others}

pub returns-then-count-eq0-clause-refused : goal.returns-then-count-eq0-clause-refused
returns-then-count-eq0-clause-refused c front so =
    elim c.then-count-eq0.branch [
      | then-count-eq0-via-then-count-eq0 w ↦ inl (none_before IsWaiterOf front c.args.waiters.now.items (omega (arith, c.len-count.ensures, w.if-count-eq0.true)) so, refl)
      | then-count-eq0-via-else-count-eq0+then-is_of_others w ↦ inr (inl (sym w.is_of_others.ensures.others ∙ w.if-is_of_others.true, refl))
    ]

pub returns-clause-gathered : goal.returns-clause-gathered
returns-clause-gathered c =
    let members = c.args.waiters.now.items in
    let long : length members ≡ suc (c.len-count.result - 1) = omega (arith, c.len-count.ensures, c.if-count-eq0.false) in
    after_piece IsWaiterOf c.take_piece_of_waiter.result members (c.len-count.result - 1) c.index_mut.result.now c.take_piece_of_waiter.new.waiter c.args.piece long c.index_mut.ensures.value c.take_piece_of_waiter.ensures.gathered

pub returns-clause-refused : goal.returns-clause-refused
returns-clause-refused c =
    let members = c.args.waiters.now.items in
    let long : length members ≡ suc (c.len-count.result - 1) = omega (arith, c.len-count.ensures, c.if-count-eq0.false) in
    result_on (λ cause. (head : MemberPart) (listed : List SourcePiece) → IsWaiterOf head listed c.index_mut.result.now → IsRefusedBehind head listed c.args.piece cause) (λ cause. (front : List MemberPart) → AreWaiters front members → IsPieceRefused front c.args.piece cause) c.take_piece_of_waiter.result
    (λ cause h front so. piece_refused IsWaiterOf front members (c.len-count.result - 1) c.index_mut.result.now long so c.args.piece cause (λ head listed k. h head listed (subst (λ m. IsWaiterOf head listed m) (sym c.index_mut.ensures.value) k)))
    c.take_piece_of_waiter.ensures.refused
