-- Workers' seats are cut off one after the other.
use Rattle.std.proofs.Common.{◌≡◌, ◌⊎◌, ℕ, zero, suc, ◌+◌, List, [], ◌∷◌, ◌++◌, length, Some, refl, sym, ◌∙◌, subst, inl, inr, ⊎_elim, length-append, arith}
use Rattle.std.specs.List.{All, slice_get}
use Rattle.std.proofs.lemmas.List.Elements.{All-push}
use Rattle.job_board.specs.Seats.{IsWorkerAt, IsIdle}
use Rattle.job_board.specs.declared.board.Board.{Board}
use Rattle.job_board.specs.declared.seats.WorkerSeat.{WorkerSeat}

-- the first seats of a board's workers, in the order of their numbers, which have taken and given nothing
pub record AreCut (board : Board) (count : ℕ) (seats : List WorkerSeat) : Type 0 where
  pub all : length seats ≡ count
  pub each : (number : ℕ) (seat : WorkerSeat) → slice_get seats number ≡ Some seat → IsWorkerAt board seat × (seat.number ≡ number)
  pub idle : All IsIdle seats

-- an item is among the first ones, or it is the last one
at_last : {X : Type 0} (xs : List X) (x y : X) (k : ℕ) → slice_get (xs ++ x ∷ []) k ≡ Some y → (slice_get xs k ≡ Some y) ⊎ ((k ≡ length xs) × (x ≡ y))
at_last [] x y zero is = inr (refl, cc)
at_last [] x y (suc k) is = absurd (cc)
at_last (z ∷ xs) x y zero is = inl is
at_last (z ∷ xs) x y (suc k) is = ⊎_elim (λ before. inl before) (λ (last : (k ≡ length xs) × (x ≡ y)). inr (omega (arith, last.0), last.1)) (at_last xs x y k is)

pub one_cut : (board : Board) (count : ℕ) (seats : List WorkerSeat) (seat : WorkerSeat) → AreCut board count seats → IsWorkerAt board seat → seat.number ≡ count → IsIdle seat →
    AreCut board (count + 1) (seats ++ seat ∷ [])
one_cut board count seats seat cut at number idle =
    let here : IsWorkerAt board seat × (seat.number ≡ length seats) = (at, number ∙ sym cut.all) in
    record {
      all = omega (arith, cut.all, length-append seats (seat ∷ []));
      each = λ k other is.
          ⊎_elim
          (λ (before : slice_get seats k ≡ Some other). cut.each k other before)
          (λ (last : (k ≡ length seats) × (seat ≡ other)). subst (λ (n : ℕ). IsWorkerAt board other × (other.number ≡ n)) (sym last.0) (subst (λ (s : WorkerSeat). IsWorkerAt board s × (s.number ≡ length seats)) last.1 here))
          (at_last seats seat other k is);
      idle = All-push IsIdle seats seat cut.idle idle;
    }
