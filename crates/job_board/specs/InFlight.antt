-- The job that is in flight at a worker.
use Rattle.std.specs.Prelude.{ℕ, nat_lt, Bool, true, false, not, List, [], ◌∷◌, Option, Some, None}
use Rattle.job_board.specs.declared.in_flight.InFlight.{InFlight}
use Rattle.job_board.specs.declared.in_flight.InFlight.TheVariants.{Empty, Holds, Stopped, Cut}
use Rattle.job_board.specs.Pairs.{Pair, of_job}

-- the pair in flight: that of the job it holds, or of the stop ticket that it has received
abbrev pub held_in : InFlight → List Pair
held_in Empty = []
held_in (Holds held) = (held.ticket, held.cube) ∷ []
held_in (Stopped job) = of_job job ∷ []
held_in Cut = []

-- the ticket of the job that it holds. A stop ticket is none
abbrev pub ticket_in : InFlight → Option ℕ
ticket_in Empty = None
ticket_in (Holds held) = Some held.ticket
ticket_in (Stopped job) = None
ticket_in Cut = None

-- it has received a stop ticket, or its channel ended
abbrev pub is_done : InFlight → Bool
is_done Empty = false
is_done (Holds held) = false
is_done (Stopped job) = true
is_done Cut = true

-- a job that it holds is one of these cubes; a stop ticket is past them
abbrev pub is_within : ℕ → InFlight → Bool
is_within cubes Empty = true
is_within cubes (Holds held) = nat_lt held.ticket cubes
is_within cubes (Stopped job) = not (nat_lt job.ticket cubes)
is_within cubes Cut = true
