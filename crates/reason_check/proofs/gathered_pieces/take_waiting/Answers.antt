use Rattle.std.proofs.Common.{List, [], ◌∷◌, ◌++◌, IfErr, OnOk, refl, subst, sym}
use Rattle.reason_clauses.specs.RefusedBy.{IsRefusedBy}
use Rattle.reason_counting.specs.declared.waiting.WaitsFor.TheVariants.{Operation}
use Rattle.reason_text.specs.declared.member_part.MemberPart.{MemberPart}
use Rattle.reason_check.specs.Members.{AreWaiters, IsWaiterOf, IsWaiterPartRefused}
use Rattle.reason_check.proofs.MemberLemmas.{members_more}
use Rattle.reason_check.proofs.gathered_pieces.take_waiting.Goals as goal

pub returns-in_ok-push-in-Reads-clause-gathered : goal.returns-in_ok-push-in-Reads-clause-gathered
returns-in_ok-push-in-Reads-clause-gathered c front so =
    subst (λ l. AreWaiters (front ++ c.args.part ∷ []) l) (sym c.in_ok-push-in-Reads.ensures.items)
    (members_more IsWaiterOf front c.args.waiters.now.items c.args.part c.reader.result so
    (subst (λ p. IsWaiterOf p [] c.reader.result) (sym c.in-Reads.is) c.reader.ensures.waits))

pub returns-in_ok-push-in-Waits-clause-gathered : goal.returns-in_ok-push-in-Waits-clause-gathered
returns-in_ok-push-in-Waits-clause-gathered c front so =
    subst (λ l. AreWaiters (front ++ c.args.part ∷ []) l) (sym c.in_ok-push-in-Waits.ensures.items)
    (members_more IsWaiterOf front c.args.waiters.now.items c.args.part (record { operation = c.in-Waits.pair.first; awaited = Operation c.in-Waits.pair.second }) so
    (subst (λ p. IsWaiterOf p [] (record { operation = c.in-Waits.pair.first; awaited = Operation c.in-Waits.pair.second })) (sym c.in-Waits.is) (refl, refl, refl)))

pub returns-in-Piece-clause-gathered : goal.returns-in-Piece-clause-gathered
returns-in-Piece-clause-gathered c =
    subst (λ p. OnOk c.take_piece_of_last.result ((front : List MemberPart) → AreWaiters front c.args.waiters.now.items → AreWaiters (front ++ p ∷ []) c.take_piece_of_last.new.waiters.items)) (sym c.in-Piece.is) c.take_piece_of_last.ensures.gathered

pub returns-in-Piece-clause-refused : goal.returns-in-Piece-clause-refused
returns-in-Piece-clause-refused c =
    subst (λ p. IfErr c.take_piece_of_last.result (IsRefusedBy (λ cause. (front : List MemberPart) → AreWaiters front c.args.waiters.now.items → IsWaiterPartRefused front p cause))) (sym c.in-Piece.is) c.take_piece_of_last.ensures.refused
