-- One member more, or one piece more of the last member.
use Rattle.std.proofs.Common.{◌≡◌, ℕ, zero, suc, List, [], ◌∷◌, ◌++◌, ◌<◌, get_or, length, map, take, refl, ap, sym, ◌∙◌, arith, inr, subst}
use Rattle.std.specs.Prelude.{Result, Ok, Err, IfErr, IsErrAnd, OnOk, slice_index_or, slice_set}
use Rattle.std.specs.List.{AllZip, flat_map}
use Rattle.std.proofs.lemmas.Grind.{flat_map-append}
use Rattle.std.proofs.lemmas.List.{append-nil, append_assoc, map-append}
use Rattle.std.proofs.lemmas.Option.{slice_get-get_or}
use Rattle.text_lines.specs.declared.plain_fault.PlainFault.{PlainFault}
use Rattle.reason_clauses.specs.declared.cause.ReasonCause.{ReasonCause}
use Rattle.reason_clauses.specs.RefusedBy.{IsRefusedBy}
use Rattle.reason_clauses.proofs.RefusedLemmas.{refusal_on}
use Rattle.reason_text.specs.declared.member_part.MemberPart.{MemberPart}
use Rattle.reason_text.specs.declared.member_part.MemberPart.TheVariants.{Piece}
use Rattle.reason_text.specs.declared.source_piece.SourcePiece.{SourcePiece}
use Rattle.reason_check.specs.Members.{AreInGroups, HasRefusedPart, IsPieceRefused, IsRefusedBehind, group_parts}
use Rattle.reason_check.proofs.LineLemmas.{zip_push}

-- the last of two lists stand side by side, and others may be put in their place
record HasLast {G M : Type 0} (R : G → M → Type 0) (groups : List G) (members : List M) (n : ℕ) (d : M) : Type 0 where
  before : List G
  last : G
  parts : groups ≡ before ++ last ∷ []
  here : R last (slice_index_or members n d)
  put : (g : G) (m : M) → R g m → AllZip R (before ++ g ∷ []) (slice_set members n m)

module _ {G M : Type 0} (R : G → M → Type 0) where
  last_zip : (groups : List G) (members : List M) (n : ℕ) (d : M) → length members ≡ suc n → AllZip R groups members → HasLast R groups members n d
  last_zip [] [] n d e h = absurd (omega (arith, e))
  last_zip [] (m ∷ ms) n d e h = absurd h
  last_zip (g ∷ gs) [] n d e h = absurd h
  last_zip (g ∷ []) (m ∷ []) zero d e h = record { before = []; last = g; parts = refl; here = h.0; put = λ x y k. (k, tt) }
  last_zip (g ∷ []) (m ∷ y ∷ ms) zero d e h = absurd h.1
  last_zip (g ∷ x ∷ gs) (m ∷ []) zero d e h = absurd h.1
  last_zip (g ∷ x ∷ gs) (m ∷ y ∷ ms) zero d e h = absurd (omega (arith, e))
  last_zip (g ∷ gs) (m ∷ ms) (suc n) d e h =
      let rest : HasLast R gs ms n d = last_zip gs ms n d (omega (arith, e)) h.1 in
      record { before = g ∷ rest.before; last = rest.last; parts = ap (λ l. g ∷ l) rest.parts; here = rest.here; put = λ x y k. (h.0, rest.put x y k) }

last_parts : (before : List (MemberPart × List SourcePiece)) (group : MemberPart × List SourcePiece) → flat_map group_parts (before ++ group ∷ []) ≡ flat_map group_parts before ++ group.0 ∷ map Piece group.1
last_parts before group = flat_map-append group_parts before (group ∷ []) ∙ ap (λ l. flat_map group_parts before ++ l) (append-nil (group.0 ∷ map Piece group.1))

module _ {M : Type 0} (IsOf : MemberPart → List SourcePiece → M → Type 0) where
  pub members_more : (front : List MemberPart) (members : List M) (head : MemberPart) (m : M) → AreInGroups IsOf front members → IsOf head [] m → AreInGroups IsOf (front ++ head ∷ []) (members ++ m ∷ [])
  members_more front members head m so is =
      let group : MemberPart × List SourcePiece = (head, []) in
      (so.0 ++ group ∷ [], ap (λ l. l ++ head ∷ []) so.1 ∙ sym (last_parts so.0 group), zip_push (λ g x. IsOf g.0 g.1 x) so.0 members group m so.2 is)

  pub none_before : (front : List MemberPart) (members : List M) → length members ≡ 0 → AreInGroups IsOf front members → front ≡ []
  none_before front [] e ([], parts, zip) = parts
  none_before front [] e (g ∷ gs, parts, zip) = absurd zip
  none_before front (m ∷ ms) e so = absurd (omega (arith, e))

  module _ (front : List MemberPart) (members : List M) (n : ℕ) (d : M) (long : length members ≡ suc n) (so : AreInGroups IsOf front members) where
    at_last : HasLast (λ (g : MemberPart × List SourcePiece) (x : M). IsOf g.0 g.1 x) so.0 members n d
    at_last = last_zip (λ g x. IsOf g.0 g.1 x) so.0 members n d long so.2

    front_is : front ≡ flat_map group_parts at_last.before ++ at_last.last.0 ∷ map Piece at_last.last.1
    front_is = so.1 ∙ ap (λ l. flat_map group_parts l) at_last.parts ∙ last_parts at_last.before at_last.last

    pub piece_more : (p : SourcePiece) (m : M) → ((head : MemberPart) (listed : List SourcePiece) → IsOf head listed (slice_index_or members n d) → IsOf head (listed ++ p ∷ []) m) → AreInGroups IsOf (front ++ Piece p ∷ []) (slice_set members n m)
    piece_more p m taken =
        let more : MemberPart × List SourcePiece = (at_last.last.0, at_last.last.1 ++ p ∷ []) in
        let firsts = flat_map group_parts at_last.before in (
          at_last.before ++ more ∷ [],
          ap (λ l. l ++ Piece p ∷ []) front_is
              ∙ append_assoc firsts (at_last.last.0 ∷ map Piece at_last.last.1) (Piece p ∷ [])
              ∙ ap (λ l. firsts ++ at_last.last.0 ∷ l) (sym (map-append Piece at_last.last.1 (p ∷ [])))
              ∙ sym (last_parts at_last.before more),
          at_last.put more m (taken at_last.last.0 at_last.last.1 at_last.here),
        )

    pub piece_refused : (p : SourcePiece) (cause : ReasonCause) → ((head : MemberPart) (listed : List SourcePiece) → IsOf head listed (slice_index_or members n d) → IsRefusedBehind head listed p cause) → IsPieceRefused front p cause
    piece_refused p cause refused = inr (inr (at_last.last.0, at_last.last.1, (flat_map group_parts at_last.before, front_is), refused at_last.last.0 at_last.last.1 at_last.here))

  pub after_piece : {A : Type 0} (r : Result A (PlainFault ReasonCause)) (members : List M) (n : ℕ) (d m : M) (p : SourcePiece) → length members ≡ suc n → d ≡ slice_index_or members n d → OnOk r ((head : MemberPart) (listed : List SourcePiece) → IsOf head listed d → IsOf head (listed ++ p ∷ []) m) →
      OnOk r ((front : List MemberPart) → AreInGroups IsOf front members → AreInGroups IsOf (front ++ Piece p ∷ []) (slice_set members n m))
  after_piece (Ok x) members n d m p long is h = λ front so. piece_more front members n d long so p m (λ head listed k. h head listed (subst (λ y. IsOf head listed y) (sym is) k))
  after_piece (Err e) members n d m p long is h = tt

-- a part is refused behind those before it
pub part_refused : (Is : List MemberPart → MemberPart → ReasonCause → Type 0) (Are : List MemberPart → Type 0) {A : Type 0} (r : Result A (PlainFault ReasonCause)) (refusal : PlainFault ReasonCause) (parts : List MemberPart) (k : ℕ) (d : MemberPart) → IsErrAnd r (λ other. other ≡ refusal) → k < length parts → Are (take k parts) →
    IsRefusedBy (λ cause. (front : List MemberPart) → Are front → Is front (get_or parts k d) cause) refusal → IfErr r (IsRefusedBy (HasRefusedPart Is parts))
part_refused Is Are r refusal parts k d is within so =
    refusal_on (λ cause. (front : List MemberPart) → Are front → Is front (get_or parts k d) cause) (HasRefusedPart Is parts) r refusal is (λ cause h. (k, get_or parts k d, slice_get-get_or parts k d within, h (take k parts) so))
