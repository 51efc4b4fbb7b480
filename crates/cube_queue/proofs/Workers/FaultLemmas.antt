-- What the faults of a search by several workers say.
use Rattle.std.proofs.Common.{◌≡◌, ◌⊎◌, ℕ, ◌+◌, ◌<◌, ◌≤◌, ℤ, List, [], ◌++◌, length, sym, ◌∙◌, ap, subst, inl, inr, arith}
use Rattle.std.specs.List.{All}
use Rattle.text_lines.specs.declared.plain_fault.PlainFault.{PlainFault}
use Rattle.text_lines.specs.declared.plain_fault.PlainFault.TheVariants.{OutOfMemory, For}
use Rattle.cube_jobs.specs.declared.job.Job.{Job}
use Rattle.cube_jobs.specs.declared.search_fault.SearchCause.{SearchCause}
use Rattle.cube_jobs.specs.declared.search_fault.SearchCause.TheVariants.{Cut, NoThread}
use Rattle.job_board.specs.declared.board.Board.{Board}
use Rattle.job_board.specs.declared.seats.CollectorSeat.{CollectorSeat}
use Rattle.job_board.specs.declared.seats.DealerSeat.{DealerSeat}
use Rattle.job_board.specs.Seats.{put_by, gathered_by, IsDealerAt, IsCollectorAt}
use Rattle.cube_queue.specs.Participants.{AreJobsOf, WithStops}
use Rattle.cube_queue.specs.Faults.{IsBoardOf, HasPutNoJob, IsFaultAt, IsFaultOf}

module _ (board : Board) (jobs : List Job) where
  -- a thread could not be started, and no job was put
  pub not_started : (fault : PlainFault SearchCause) → (fault ≡ OutOfMemory) ⊎ (fault ≡ For NoThread) → HasPutNoJob board → IsFaultAt board jobs fault
  not_started fault is none = elim is [
    | inl memory ↦ subst (IsFaultAt board jobs) (sym memory) tt
    | inr thread ↦ subst (IsFaultAt board jobs) (sym thread) none
  ]

  -- a job or a stop ticket came back
  pub not_put : (dealer : DealerSeat) → IsDealerAt board dealer → length (put_by dealer) < length jobs + board.workers → IsFaultAt board jobs (For Cut)
  not_put dealer at fewer = inl (record { dealer = dealer; dealer_at = at; fewer = fewer })

  -- the results ended early
  pub not_gathered : (fault : PlainFault SearchCause) (dealer : DealerSeat) (collector : CollectorSeat) (count : ℕ) → (fault ≡ OutOfMemory) ⊎ ((fault ≡ For Cut) × (length (gathered_by collector) < count)) →
      count ≡ length jobs → IsDealerAt board dealer → WithStops board.cubes jobs (put_by dealer) → IsCollectorAt board collector → IsFaultAt board jobs fault
  not_gathered fault dealer collector count is same at dealt gathers = elim is [
    | inl memory ↦ subst (IsFaultAt board jobs) (sym memory) tt
    | inr cut ↦ subst (IsFaultAt board jobs) (sym cut.0) (inr (record {
      dealer = dealer;
      dealer_at = at;
      dealt = dealt;
      collector = collector;
      collector_at = gathers;
      fewer = omega (arith, cut.1, same);
    }))
  ]

-- what was put after nothing are stop tickets
pub only_stops : (cubes : ℕ) (before put : List Job) → WithStops cubes before put → before ≡ [] → All (λ (job : Job). cubes ≤ job.ticket) put
only_stops cubes before put with_stops none =
    let stops_are : put ≡ with_stops.0 = with_stops.1 ∙ ap (λ (l : List Job). l ++ with_stops.0) none in
    subst (All (λ (job : Job). cubes ≤ job.ticket)) (sym stops_are) with_stops.2

-- a fault at the board is one of the search
pub fault_of : (workers : ℕ) (cubes : List (List ℤ)) (which : List ℕ) (board : Board) (jobs : List Job) (fault : PlainFault SearchCause) → IsBoardOf workers cubes which board →
    AreJobsOf cubes which jobs → IsFaultAt board jobs fault → IsFaultOf workers cubes which fault
fault_of workers cubes which board jobs OutOfMemory at are wrong = tt
fault_of workers cubes which board jobs (For cause) at are wrong = (board, jobs, at, are, wrong)

-- a fault of a search by fewer workers is one where more may work
pub fault_of_fewer : (workers more : ℕ) (cubes : List (List ℤ)) (which : List ℕ) (fault : PlainFault SearchCause) → workers ≤ more → IsFaultOf workers cubes which fault → IsFaultOf more cubes which fault
fault_of_fewer workers more cubes which OutOfMemory most wrong = tt
fault_of_fewer workers more cubes which (For cause) most (board, jobs, at, are, wrong) =
    (board, jobs, record { several = at.several; few = omega (arith, at.few, most); used = at.used; cubes_are = at.cubes_are }, are, wrong)
