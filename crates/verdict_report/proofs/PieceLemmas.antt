-- What a sink has taken of some pieces.
use Rattle.std.specs.Borrow.{Bor}
use Rattle.std.proofs.Common.{◌≡◌, ℕ, suc, ◌<◌, List, [], ◌∷◌, ◌++◌, length, take, drop, get_or, ap, sym, ◌∙◌, subst}
use Rattle.std.proofs.lemmas.Grind.{flat_map-append}
use Rattle.std.proofs.Math.Seq.{split_at}
use Rattle.dimacs.specs.Sink.{AppendsFront}
use Rattle.dimacs.proofs.SinkLemmas.{front-append, front-after}
use Rattle.verdict_report.specs.Pieces.{joined}

-- the pieces before one were taken whole, and of this one a prefix
pub front_of_pieces : (old between new : List ℕ) (pieces : List (Bor (List ℕ))) (k : ℕ) (d : Bor (List ℕ)) → k < length pieces → between ≡ old ++ joined (take k pieces)
    → AppendsFront between new (get_or pieces k d).now → AppendsFront old new (joined pieces)
front_of_pieces old between new pieces k d below sent front =
    let rest : List (Bor (List ℕ)) = drop (suc k) pieces in
    let piece : Bor (List ℕ) = get_or pieces k d in
    let parts : joined pieces ≡ joined (take k pieces) ++ (piece.now ++ joined rest) =
    ap joined (split_at pieces k d below) ∙ flat_map-append (λ (p : Bor (List ℕ)). p.now) (take k pieces) (piece ∷ rest) in
    subst (λ (text : List ℕ). AppendsFront old new text) (sym parts)
    (front-after old between new (joined (take k pieces)) (piece.now ++ joined rest) sent (front-append between new piece.now (joined rest) front))
