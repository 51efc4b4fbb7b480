-- The members of a line, each with its pieces behind it.
use Rattle.std.specs.Prelude.{◌≡◌, ◌⊎◌, ⊤, ℕ, true, false, List, [], ◌∷◌, ◌++◌, Some, is_some, map, take}
use Rattle.std.specs.List.{AllZip, flat_map, slice_get}
use Rattle.reason_clauses.specs.declared.cause.ReasonCause.{ReasonCause}
use Rattle.reason_clauses.specs.declared.cause.ReasonCause.TheVariants.{BadLine, SecondPiece}
use Rattle.reason_counting.specs.declared.counted_members.CountedMember.{CountedMember}
use Rattle.reason_counting.specs.declared.counted_members.CountedMember.TheVariants.{Update, End}
use Rattle.reason_counting.specs.declared.waiting.Waiter.{Waiter}
use Rattle.reason_counting.specs.declared.waiting.WaitsFor.{WaitsFor}
use Rattle.reason_counting.specs.declared.waiting.WaitsFor.TheVariants.{Operation, Source}
use Rattle.reason_text.specs.declared.member_part.MemberPart.{MemberPart}
use Rattle.reason_text.specs.declared.member_part.MemberPart.TheVariants.{Reads, Waits, Ends, Piece}
use Rattle.reason_text.specs.declared.source_piece.SourcePiece.{SourcePiece}
use Rattle.reason_check.specs.Gathered.{AreGathered, HasOfKind, is_late_piece, main_of}

-- the parts of a member: what it begins with, and its pieces behind it
abbrev pub group_parts : MemberPart × List SourcePiece → List MemberPart
group_parts group = group.0 ∷ map Piece group.1

-- the parts are those of members, one after another
abbrev pub AreInGroups : {M : Type 0} → (MemberPart → List SourcePiece → M → Type 0) → List MemberPart → List M → Type 0
AreInGroups IsOf parts members = (groups : List (MemberPart × List SourcePiece)) × (parts ≡ flat_map group_parts groups) × AllZip (λ group member. IsOf group.0 group.1 member) groups members

-- the member is what this says, with these pieces
abbrev pub IsMemberOf : MemberPart → List SourcePiece → CountedMember → Type 0
IsMemberOf (Reads r) listed (Update n pieces) = (n ≡ r) × AreGathered listed pieces
IsMemberOf (Reads r) listed (End b pieces) = ⊥
IsMemberOf (Ends a) listed (Update n pieces) = ⊥
IsMemberOf (Ends a) listed (End b pieces) = (b.now ≡ a.now) × AreGathered listed pieces
IsMemberOf (Waits pair) listed member = ⊥
IsMemberOf (Piece p) listed member = ⊥

-- the pieces of what it reads are these
abbrev pub IsSourceOf : List SourcePiece → WaitsFor → Type 0
IsSourceOf listed (Operation other) = ⊥
IsSourceOf listed (Source pieces) = AreGathered listed pieces

-- the operation waits as this says: for what it reads, with these pieces, or for another operation, with none
abbrev pub IsWaiterOf : MemberPart → List SourcePiece → Waiter → Type 0
IsWaiterOf (Reads r) listed waiter = (waiter.operation ≡ r) × IsSourceOf listed waiter.awaited
IsWaiterOf (Waits pair) listed waiter = (waiter.operation ≡ pair.first) × (waiter.awaited ≡ Operation pair.second) × (listed ≡ [])
IsWaiterOf (Ends a) listed waiter = ⊥
IsWaiterOf (Piece p) listed waiter = ⊥

-- the parts are those of the updates and ends of locations
abbrev pub AreMembers : List MemberPart → List CountedMember → Type 0
AreMembers parts members = AreInGroups IsMemberOf parts members

-- the parts are those of the operations that wait
abbrev pub AreWaiters : List MemberPart → List Waiter → Type 0
AreWaiters parts waiters = AreInGroups IsWaiterOf parts waiters

-- the piece is none of this: an operation that waits for another one has none, and an end has those of last writers alone
abbrev pub IsNoPieceOf : MemberPart → SourcePiece → Type 0
IsNoPieceOf (Reads r) p = ⊥
IsNoPieceOf (Waits pair) p = ⊤
IsNoPieceOf (Ends a) p = is_late_piece p ≡ false
IsNoPieceOf (Piece q) p = ⊥

-- what is wrong with a piece of a member with these pieces: one of them is of its kind, or it is none of the member
abbrev pub IsRefusedBehind : MemberPart → List SourcePiece → SourcePiece → ReasonCause → Type 0
IsRefusedBehind head listed p cause = (HasOfKind listed p × (cause ≡ SecondPiece)) ⊎ (IsNoPieceOf head p × (cause ≡ BadLine))

-- the parts end with this one, and these pieces behind it
abbrev pub EndWith : List MemberPart → MemberPart → List SourcePiece → Type 0
EndWith parts head listed = (before : List MemberPart) × (parts ≡ before ++ head ∷ map Piece listed)

-- what is wrong with a piece behind these parts: nothing is before it, it takes all that no other one does, or the last member refuses it
abbrev pub IsPieceRefused : List MemberPart → SourcePiece → ReasonCause → Type 0
IsPieceRefused front p cause = ((front ≡ []) × (cause ≡ BadLine)) ⊎ ((is_some (main_of p) ≡ true) × (cause ≡ BadLine)) ⊎ ((head : MemberPart) × (listed : List SourcePiece) × EndWith front head listed × IsRefusedBehind head listed p cause)

-- what is wrong with a part of members behind others: no member waits
abbrev pub IsMemberPartRefused : List MemberPart → MemberPart → ReasonCause → Type 0
IsMemberPartRefused front (Reads r) cause = ⊥
IsMemberPartRefused front (Waits pair) cause = cause ≡ BadLine
IsMemberPartRefused front (Ends a) cause = ⊥
IsMemberPartRefused front (Piece p) cause = IsPieceRefused front p cause

-- what is wrong with a part of operations that wait behind others: no location waits
abbrev pub IsWaiterPartRefused : List MemberPart → MemberPart → ReasonCause → Type 0
IsWaiterPartRefused front (Reads r) cause = ⊥
IsWaiterPartRefused front (Waits pair) cause = ⊥
IsWaiterPartRefused front (Ends a) cause = cause ≡ BadLine
IsWaiterPartRefused front (Piece p) cause = IsPieceRefused front p cause

-- one of the parts is refused behind those before it
abbrev pub HasRefusedPart : (List MemberPart → MemberPart → ReasonCause → Type 0) → List MemberPart → ReasonCause → Type 0
HasRefusedPart Is parts cause = (k : ℕ) × (part : MemberPart) × (slice_get parts k ≡ Some part) × Is (take k parts) part cause

-- what is wrong with the parts of a line of members
abbrev pub AreMembersRefused : List MemberPart → ReasonCause → Type 0
AreMembersRefused parts cause = HasRefusedPart IsMemberPartRefused parts cause

-- what is wrong with the parts of a line of operations that wait
abbrev pub AreWaitersRefused : List MemberPart → ReasonCause → Type 0
AreWaitersRefused parts cause = HasRefusedPart IsWaiterPartRefused parts cause
