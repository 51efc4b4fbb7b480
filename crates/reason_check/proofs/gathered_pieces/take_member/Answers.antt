use Rattle.std.proofs.Common.{List, [], ◌∷◌, ◌++◌, IfErr, OnOk, refl, subst, sym}
use Rattle.reason_clauses.specs.RefusedBy.{IsRefusedBy}
use Rattle.reason_counting.specs.declared.counted_members.CountedMember.TheVariants.{Update, End}
use Rattle.reason_text.specs.declared.member_part.MemberPart.{MemberPart}
use Rattle.reason_check.specs.Members.{AreMembers, IsMemberOf, IsMemberPartRefused}
use Rattle.reason_check.proofs.GatheredLemmas.{gathered_none}
use Rattle.reason_check.proofs.MemberLemmas.{members_more}
use Rattle.reason_check.proofs.gathered_pieces.take_member.Goals as goal

pub returns-in_ok-push-in-Reads-clause-gathered : goal.returns-in_ok-push-in-Reads-clause-gathered
returns-in_ok-push-in-Reads-clause-gathered c front so =
    subst (λ l. AreMembers (front ++ c.args.part ∷ []) l) (sym c.in_ok-push-in-Reads.ensures.items)
    (members_more IsMemberOf front c.args.members.now.items c.args.part (Update c.in-Reads.n c.new.result) so
    (subst (λ p. IsMemberOf p [] (Update c.in-Reads.n c.new.result)) (sym c.in-Reads.is) (refl, gathered_none c.new.result c.new.ensures.processes c.new.ensures.initial c.new.ensures.main)))

pub returns-in_ok-push-in-Ends-clause-gathered : goal.returns-in_ok-push-in-Ends-clause-gathered
returns-in_ok-push-in-Ends-clause-gathered c front so =
    subst (λ l. AreMembers (front ++ c.args.part ∷ []) l) (sym c.in_ok-push-in-Ends.ensures.items)
    (members_more IsMemberOf front c.args.members.now.items c.args.part (End c.in-Ends.location c.new-in-Ends.result) so
    (subst (λ p. IsMemberOf p [] (End c.in-Ends.location c.new-in-Ends.result)) (sym c.in-Ends.is) (refl, gathered_none c.new-in-Ends.result c.new-in-Ends.ensures.processes c.new-in-Ends.ensures.initial c.new-in-Ends.ensures.main)))

pub returns-in-Piece-clause-gathered : goal.returns-in-Piece-clause-gathered
returns-in-Piece-clause-gathered c =
    subst (λ p. OnOk c.take_piece_of_member.result ((front : List MemberPart) → AreMembers front c.args.members.now.items → AreMembers (front ++ p ∷ []) c.take_piece_of_member.new.members.items)) (sym c.in-Piece.is) c.take_piece_of_member.ensures.gathered

pub returns-in-Piece-clause-refused : goal.returns-in-Piece-clause-refused
returns-in-Piece-clause-refused c =
    subst (λ p. IfErr c.take_piece_of_member.result (IsRefusedBy (λ cause. (front : List MemberPart) → AreMembers front c.args.members.now.items → IsMemberPartRefused front p cause))) (sym c.in-Piece.is) c.take_piece_of_member.ensures.refused
