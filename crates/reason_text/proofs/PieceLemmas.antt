-- Pieces and members by words.
use Rattle.std.proofs.Common.{◌≡◌, ℕ, List, [], ◌∷◌, ◌++◌, ap, sym, ◌∙◌, append_assoc, append-nil}
use Rattle.std.specs.List.{flat_map}
use Rattle.std.proofs.lemmas.List.{flat_map_more}
use Rattle.trace_semantics.specs.Trace.{TraceValue}
use Rattle.reason_text.specs.MemberPart.{part_words}
use Rattle.reason_text.specs.SourcePiece.{piece_words}
use Rattle.reason_text.specs.declared.member_part.MemberPart.{MemberPart}
use Rattle.reason_text.specs.declared.source_piece.SourcePiece.{SourcePiece}

module _ {X : Type 0} (written : X → List (List ℕ)) where
  next_item : (words rest after end : List (List ℕ)) (items : List X) (kind : List ℕ) (item : X) → words ≡ flat_map written items ++ rest → rest ≡ kind ∷ after → kind ∷ after ≡ written item ++ end →
      words ≡ flat_map written (items ++ item ∷ []) ++ end
  next_item words rest after end items kind item e f g =
      e ∙ ap (λ r. flat_map written items ++ r) (f ∙ g)
      ∙ sym (ap (λ l. l ++ end) (sym (flat_map_more written [] items item)) ∙ append_assoc (flat_map written items) (written item) end)

  last_item : (words rest : List (List ℕ)) (items : List X) → words ≡ flat_map written items ++ rest → rest ≡ [] → words ≡ flat_map written items
  last_item words rest items e f = e ∙ ap (λ r. flat_map written items ++ r) f ∙ append-nil (flat_map written items)

-- one piece more
pub next_piece : (t : TraceValue) (words rest after end : List (List ℕ)) (pieces : List SourcePiece) (kind : List ℕ) (piece : SourcePiece) → words ≡ flat_map (piece_words t) pieces ++ rest → rest ≡ kind ∷ after → kind ∷ after ≡ piece_words t piece ++ end →
    words ≡ flat_map (piece_words t) (pieces ++ piece ∷ []) ++ end
next_piece t = next_item (piece_words t)

-- no further piece
pub last_piece : (t : TraceValue) (words rest : List (List ℕ)) (pieces : List SourcePiece) → words ≡ flat_map (piece_words t) pieces ++ rest → rest ≡ [] → words ≡ flat_map (piece_words t) pieces
last_piece t = last_item (piece_words t)

-- one member or piece more
pub next_part : (t : TraceValue) (words rest after end : List (List ℕ)) (parts : List MemberPart) (kind : List ℕ) (part : MemberPart) → words ≡ flat_map (part_words t) parts ++ rest → rest ≡ kind ∷ after → kind ∷ after ≡ part_words t part ++ end →
    words ≡ flat_map (part_words t) (parts ++ part ∷ []) ++ end
next_part t = next_item (part_words t)

-- no further member or piece
pub last_part : (t : TraceValue) (words rest : List (List ℕ)) (parts : List MemberPart) → words ≡ flat_map (part_words t) parts ++ rest → rest ≡ [] → words ≡ flat_map (part_words t) parts
last_part t = last_item (part_words t)
