use Rattle.std.proofs.Common.{◌≡◌, ℕ, zero, suc, ◌+◌, ◌<◌, List, [], ◌∷◌, ◌++◌, length, slice_index_or, None, Some, ◌∙◌, ap, subst, length-append, arith}
use Rattle.std.specs.List.{All, slice_get}
use Rattle.job_board.specs.InFlight.{ticket_in}
use Rattle.job_board.specs.Seats.{IsWorkerAt, AreWorkersAt, IsIdle}
use Rattle.job_board.specs.declared.board.Board.{Board}
use Rattle.job_board.specs.declared.seats.WorkerSeat.{WorkerSeat}
use Rattle.tests_cubes.proofs.workers.boards.open_for_two.Goals as goal

-- The seats of a board with two workers.

some_is : (s t : WorkerSeat) → Some s ≡ Some t → s ≡ t
some_is s t e = cc

-- a worker's seat under this number, which holds no job
abbrev IsReady : Board → ℕ → WorkerSeat → Type 0
IsReady board number seat = IsWorkerAt board seat × (seat.number ≡ number) × (ticket_in seat.hand ≡ None)

ready : (board : Board) (all : List WorkerSeat) (number : ℕ) (seat : WorkerSeat) → AreWorkersAt board all → All IsIdle all → number < length all → slice_get all number ≡ Some seat → IsReady board number seat
ready board all number seat at idle low is =
    let here = at.each number seat is in
    let empty = idle number seat low in
    (here.0, here.1, ap ticket_in (at_place all number seat is empty).hand)
  where
    at_place : (all : List WorkerSeat) (number : ℕ) (seat : WorkerSeat) → slice_get all number ≡ Some seat → IsIdle (slice_index_or all number seat) → IsIdle seat
    at_place [] number seat is empty = absurd (cc)
    at_place (s ∷ all) zero seat is empty = subst IsIdle (some_is s seat is) empty
    at_place (s ∷ all) (suc k) seat is empty = at_place all k seat is empty

-- the two seats of all workers, of which the last is taken first
two_ready : (board : Board) (all some none : List WorkerSeat) (first second : WorkerSeat) → AreWorkersAt board all → All IsIdle all → board.workers ≡ 2 →
    all ≡ some ++ second ∷ [] → some ≡ none ++ first ∷ [] → IsReady board 0 first × IsReady board 1 second
two_ready board all some [] first second at idle two is before =
    let whole : all ≡ first ∷ second ∷ [] = is ∙ ap (λ (l : List WorkerSeat). l ++ second ∷ []) before in
    let long : length all ≡ 2 = at.all ∙ two in (
      ready board all 0 first at idle (omega (arith, long)) (ap (λ (l : List WorkerSeat). slice_get l 0) whole),
      ready board all 1 second at idle (omega (arith, long)) (ap (λ (l : List WorkerSeat). slice_get l 1) whole),
    )
two_ready board all some (x ∷ none) first second at idle two is before =
    let long : length all ≡ length some + 1 = ap length is ∙ length-append some (second ∷ []) in
    let part : length some ≡ length (x ∷ none) + 1 = ap length before ∙ length-append (x ∷ none) (first ∷ []) in
    absurd (omega (arith, long, part, at.all, two))

pub returns-clause-first : goal.returns-clause-first
returns-clause-first c = (two_ready _ _ _ _ _ _ c.in_ok-board.ensures.workers c.in_ok-board.ensures.idle c.in_ok-board.ensures.board.0 c.in-Some.ensures.items c.in-Some-pop.ensures.items).0

pub returns-clause-second : goal.returns-clause-second
returns-clause-second c = (two_ready _ _ _ _ _ _ c.in_ok-board.ensures.workers c.in_ok-board.ensures.idle c.in_ok-board.ensures.board.0 c.in-Some.ensures.items c.in-Some-pop.ensures.items).1
