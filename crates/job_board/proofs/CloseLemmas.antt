-- Workers' seats are joined one after the other, and what follows once all are.
use Rattle.std.proofs.Common.{◌≡◌, ℕ, suc, ◌+◌, ◌<◌, Bool, true, false, cond, nat_lt, List, [], ◌∷◌, ◌++◌, map, length, Some, None, refl, sym, ◌∙◌, ap, subst, ltb-true, lt-ltb, arith}
use Rattle.std.specs.List.{All, slice_get}
use Rattle.std.proofs.lemmas.List.{map-append, length-map, append-nil}
use Rattle.std.proofs.lemmas.List.Elements.{All-nil, All-cons, All-head, All-tail}
use Rattle.cube_jobs.specs.declared.job.Job.{Job}
use Rattle.cube_jobs.specs.declared.job.Settled.{Settled}
use Rattle.job_board.specs.Merge.{IsMergeOf}
use Rattle.job_board.specs.ChannelRules.{with_worker_joined, PutAddsUp, GotAddsUp}
use Rattle.job_board.specs.InFlight.{held_in, ticket_in, is_within}
use Rattle.job_board.specs.Pairs.{of_jobs, of_results, below}
use Rattle.job_board.specs.Seats.{put_by, taken_by, given_by, gathered_by}
use Rattle.job_board.specs.Accounts.{total, taken_below, given_below, AreJoined, IsAccountOf, WereDealt, WereGathered, IsBalanced, AreAnswersTo}
use Rattle.job_board.specs.declared.channel_view.ChannelView.{ChannelView}
use Rattle.job_board.specs.declared.channel_view.ChannelView.TheVariants.{Single}
use Rattle.job_board.specs.declared.account.Account.{Account}
use Rattle.job_board.specs.declared.in_flight.InFlight.{InFlight}
use Rattle.job_board.specs.declared.in_flight.InFlight.TheVariants.{Empty, Holds, Stopped, Cut}
use Rattle.job_board.specs.declared.seats.DealerSeat.{DealerSeat}
use Rattle.job_board.specs.declared.seats.WorkerSeat.{WorkerSeat}
use Rattle.job_board.specs.declared.seats.CollectorSeat.{CollectorSeat}
use Rattle.crossbeam_channel.specs.Claims.{view}
use Rattle.job_board.proofs.Balance.TotalLemmas.{total-append, total-map, total_same, merge_total}
use Rattle.job_board.proofs.Balance.AccountLemmas.{only, one, job_weight, result_weight, hand_weight, taken_weight, given_weight, jobs_counted, results_counted, taken_counted, given_counted, seats_weigh, got_weighs, add_up, settles}
use Rattle.job_board.proofs.Balance.AnswerLemmas.{answers}

pub one_joined : (cubes workers : ℕ) (put : List Job) (got : List Settled) (seats : List WorkerSeat) (seat : WorkerSeat) (v v' : ChannelView Job) (w w' : ChannelView Settled) (taken taken' given given' : ℕ) →
    AreJoined cubes workers put got seats v w taken given → seat.cubes ≡ cubes → v' ≡ with_worker_joined v (view seat.jobs) → w' ≡ with_worker_joined w (view seat.results) →
    taken' ≡ taken + seat.taken → given' ≡ given + seat.given → AreJoined cubes workers put got (seats ++ seat ∷ []) v' w' taken' given'
one_joined cubes workers put got seats seat v v' w w' taken taken' given given' joined same jobs results more_taken more_given =
    let t : seat.taken ≡ taken_below cubes seat = subst (λ (n : ℕ). seat.taken ≡ taken_below n seat) same seat.counted in
    let g : seat.given ≡ given_below cubes seat = subst (λ (n : ℕ). seat.given ≡ given_below n seat) same seat.settled in
    record {
      jobs_known = jobs ∙ ap (λ (u : ChannelView Job). with_worker_joined u (view seat.jobs)) joined.jobs_known ∙ ap (λ (parts : List (List Job)). Single put workers parts) (sym (map-append taken_by seats (seat ∷ [])));
      results_known = results ∙ ap (λ (u : ChannelView Settled). with_worker_joined u (view seat.results)) joined.results_known ∙ ap (λ (parts : List (List Settled)). Single got workers parts) (sym (map-append given_by seats (seat ∷ [])));
      taken_is = omega (arith, joined.taken_is, more_taken, t, total-append (taken_below cubes) seats (seat ∷ []));
      given_is = omega (arith, joined.given_is, more_given, g, total-append (given_below cubes) seats (seat ∷ []));
    }

-- the last look at the job channel
pub were_dealt : (workers : ℕ) (put : List Job) (seats : List WorkerSeat) (v : ChannelView Job) → v ≡ Single put workers (map taken_by seats) → length seats ≡ workers →
    (queue : List Job) × PutAddsUp v queue → (front : List Job) × (queue : List Job) × IsMergeOf (map taken_by seats) front × (put ≡ front ++ queue)
were_dealt workers put seats v known all told =
    let account = subst (λ (u : ChannelView Job). PutAddsUp u told.0) known told.1 in
    let part = account (length-map seats taken_by ∙ all) in
    (part.0, told.0, part.1, part.2)

-- the last look at the result channel
pub were_gathered : (workers : ℕ) (got : List Settled) (seats : List WorkerSeat) (w : ChannelView Settled) → w ≡ Single got workers (map given_by seats) → length seats ≡ workers →
    (queue : List Settled) × GotAddsUp w queue → (queue : List Settled) × IsMergeOf (map given_by seats) (got ++ queue)
were_gathered workers got seats w known all told =
    let account = subst (λ (u : ChannelView Settled). GotAddsUp u told.0) known told.1 in
    (told.0, account (length-map seats given_by ∙ all))

-- 1 at a result of a stop ticket
abbrev past : ℕ → Settled → ℕ
past cubes settled = cond (nat_lt settled.ticket cubes) 0 1

past_low : (cubes : ℕ) (settled : Settled) → settled.ticket < cubes → past cubes settled ≡ 0
past_low cubes settled low = ap {B = ℕ} (λ (b : Bool). cond b 0 1) (lt-ltb settled.ticket cubes low)

low_past : (cubes : ℕ) (settled : Settled) (b : Bool) → nat_lt settled.ticket cubes ≡ b → cond {A = ℕ} b 0 1 ≡ 0 → settled.ticket < cubes
low_past cubes settled true is none = ltb-true settled.ticket cubes is
low_past cubes settled false is none = absurd (omega (arith, none))

none_past : (cubes : ℕ) (results : List Settled) → All (λ (s : Settled). s.ticket < cubes) results → total (past cubes) results ≡ 0
none_past cubes [] low = refl
none_past cubes (s ∷ results) low =
    omega (arith, past_low cubes s (All-head (λ (t : Settled). t.ticket < cubes) s results low), none_past cubes results (All-tail (λ (t : Settled). t.ticket < cubes) s results low))

all_low : (cubes : ℕ) (results : List Settled) → total (past cubes) results ≡ 0 → All (λ (s : Settled). s.ticket < cubes) results
all_low cubes [] none = All-nil _
all_low cubes (s ∷ results) none =
    let here : past cubes s ≡ 0 = omega (arith, none) in
    let rest : total (past cubes) results ≡ 0 = omega (arith, none) in
    All-cons (λ (t : Settled). t.ticket < cubes) s results (low_past cubes s (nat_lt s.ticket cubes) refl here) (all_low cubes results rest)

seats_past : (cubes : ℕ) (seats : List WorkerSeat) → ((number : ℕ) (seat : WorkerSeat) → slice_get seats number ≡ Some seat → seat.cubes ≡ cubes) →
    total (λ (seat : WorkerSeat). total (past cubes) (given_by seat)) seats ≡ 0
seats_past cubes [] same = refl
seats_past cubes (seat ∷ seats) same =
    let low : All (λ (s : Settled). s.ticket < cubes) (given_by seat) = subst (λ (n : ℕ). All (λ (s : Settled). s.ticket < n) (given_by seat)) (same 0 seat refl) seat.no_stop in
    omega (arith, none_past cubes (given_by seat) low, seats_past cubes seats (λ number other at. same (suc number) other at))

-- no result of a stop ticket was gathered, and none was left
pub given_low : (cubes : ℕ) (got left : List Settled) (seats : List WorkerSeat) → IsMergeOf (map given_by seats) (got ++ left) →
    ((number : ℕ) (seat : WorkerSeat) → slice_get seats number ≡ Some seat → seat.cubes ≡ cubes) →
    All (λ (s : Settled). s.ticket < cubes) got × All (λ (s : Settled). s.ticket < cubes) left
given_low cubes got left seats merge same =
    let sum : total (past cubes) (got ++ left) ≡ total (λ (seat : WorkerSeat). total (past cubes) (given_by seat)) seats =
    merge_total (past cubes) (map given_by seats) (got ++ left) merge ∙ total-map (λ (part : List Settled). total (past cubes) part) given_by seats in (
      all_low cubes got (omega (arith, sum, total-append (past cubes) got left, seats_past cubes seats same)),
      all_low cubes left (omega (arith, sum, total-append (past cubes) got left, seats_past cubes seats same)),
    )

-- results that weigh nothing, each of them below, are none
none_left : (cubes : ℕ) (left : List Settled) → All (λ (s : Settled). s.ticket < cubes) left → total (result_weight cubes one) left ≡ 0 → left ≡ []
none_left cubes [] low none = refl
none_left cubes (s ∷ left) low none =
    let small : s.ticket < cubes = All-head (λ (t : Settled). t.ticket < cubes) s left low in
    let here : result_weight cubes one s ≡ 1 = ap {B = ℕ} (λ (b : Bool). cond b 1 0) (lt-ltb s.ticket cubes small) in
    absurd (omega (arith, none, here))

-- the next seat, where these seats were joined and these are still to come
pub next_seat : (seats before : List WorkerSeat) (seat : WorkerSeat) (rest : List WorkerSeat) → seats ≡ before ++ seat ∷ rest → slice_get seats (length before) ≡ Some seat
next_seat seats before seat rest is = ap (λ (all : List WorkerSeat). slice_get all (length before)) is ∙ at_seam before seat rest
  where
    at_seam : (before : List WorkerSeat) (seat : WorkerSeat) (rest : List WorkerSeat) → slice_get (before ++ seat ∷ rest) (length before) ≡ Some seat
    at_seam [] seat rest = refl
    at_seam (s ∷ before) seat rest = at_seam before seat rest

-- all seats were joined
pub all_seats : (seats before rest : List WorkerSeat) → seats ≡ before ++ rest → length rest ≡ 0 → before ≡ seats
all_seats seats before [] is none = sym (append-nil before) ∙ sym is
all_seats seats before (s ∷ rest) is none = absurd (omega (arith, none))

-- no seat was joined yet
pub none_joined : (cubes workers : ℕ) (put : List Job) (got : List Settled) (v : ChannelView Job) (w : ChannelView Settled) → v ≡ Single put workers [] → w ≡ Single got workers [] →
    AreJoined cubes workers put got [] v w 0 0
none_joined cubes workers put got v w jobs results = record { jobs_known = jobs; results_known = results; taken_is = refl; given_is = refl }

-- the numbers of the account, once all seats are joined
pub account_is : (cubes workers : ℕ) (dealer : DealerSeat) (seats : List WorkerSeat) (collector : CollectorSeat) (v : ChannelView Job) (w : ChannelView Settled) (account : Account) →
    AreJoined cubes workers (put_by dealer) (gathered_by collector) seats v w account.taken account.given → dealer.cubes ≡ cubes → collector.cubes ≡ cubes →
    account.put ≡ dealer.put → account.gathered ≡ collector.gathered → IsAccountOf cubes dealer seats collector account
account_is cubes workers dealer seats collector v w account joined same_dealt same_gathered put gathered =
    record {
      put_is = put ∙ subst (λ (n : ℕ). dealer.put ≡ length (below n (of_jobs (put_by dealer)))) same_dealt dealer.counted;
      taken_is = joined.taken_is;
      given_is = joined.given_is;
      gathered_is = gathered ∙ subst (λ (n : ℕ). collector.gathered ≡ length (below n (of_results (gathered_by collector)))) same_gathered collector.counted;
    }

-- where the numbers are equal, the results are those of the jobs
pub all_answered : (cubes : ℕ) (dealer : DealerSeat) (seats : List WorkerSeat) (collector : CollectorSeat) (account : Account) → IsAccountOf cubes dealer seats collector account →
    WereDealt dealer seats → WereGathered collector seats → ((number : ℕ) (seat : WorkerSeat) → slice_get seats number ≡ Some seat → seat.cubes ≡ cubes) →
    IsBalanced account → AreAnswersTo cubes (put_by dealer) (gathered_by collector)
all_answered cubes dealer seats collector account is dealt gathered same balanced =
    answers cubes (put_by dealer) (gathered_by collector)
    (settles cubes (put_by dealer) dealt.0 dealt.1 (gathered_by collector) gathered.0 seats dealt.2 dealt.3 gathered.1
    (sym is.taken_is ∙ balanced.0 ∙ is.put_is)
    (sym is.given_is ∙ balanced.1 ∙ is.put_is)
    (sym is.gathered_is ∙ balanced.2 ∙ is.put_is))
    (given_low cubes (gathered_by collector) gathered.0 seats gathered.1 same).0
    dealer.rising

-- where the numbers are equal, no result is left: what was gathered is some merge of what the workers gave
pub all_gathered : (cubes : ℕ) (dealer : DealerSeat) (seats : List WorkerSeat) (collector : CollectorSeat) (account : Account) → IsAccountOf cubes dealer seats collector account →
    WereGathered collector seats → ((number : ℕ) (seat : WorkerSeat) → slice_get seats number ≡ Some seat → seat.cubes ≡ cubes) →
    IsBalanced account → IsMergeOf (map given_by seats) (gathered_by collector)
all_gathered cubes dealer seats collector account is gathered same balanced =
    let got = gathered_by collector in
    let left = gathered.0 in
    let merge = gathered.1 in
    let given : total (given_weight cubes one) seats ≡ account.put =
    sym (total_same (given_below cubes) (given_weight cubes one) (λ (seat : WorkerSeat). results_counted cubes (given_by seat)) seats) ∙ sym is.given_is ∙ balanced.1 in
    let here : total (result_weight cubes one) got ≡ account.put = sym (results_counted cubes got) ∙ sym is.gathered_is ∙ balanced.2 in
    let none : total (result_weight cubes one) left ≡ 0 = omega (arith, got_weighs cubes one got left seats merge, given, here) in
    let empty : left ≡ [] = none_left cubes left (given_low cubes got left seats merge same).1 none in
    subst (λ (results : List Settled). IsMergeOf (map given_by seats) results) (ap (λ (rest : List Settled). got ++ rest) empty ∙ append-nil got) merge

-- What the account's numbers are as weights.
record AreWeights (cubes : ℕ) (dealer : DealerSeat) (seats : List WorkerSeat) (collector : CollectorSeat) (account : Account) : Type 0 where
  put_weighs : account.put ≡ total (job_weight cubes one) (put_by dealer)
  taken_weighs : account.taken ≡ total (taken_weight cubes one) seats
  given_weighs : account.given ≡ total (given_weight cubes one) seats
  gathered_weighs : account.gathered ≡ total (result_weight cubes one) (gathered_by collector)

weights_of : (cubes : ℕ) (dealer : DealerSeat) (seats : List WorkerSeat) (collector : CollectorSeat) (account : Account) → IsAccountOf cubes dealer seats collector account →
    AreWeights cubes dealer seats collector account
weights_of cubes dealer seats collector account is = record {
  put_weighs = is.put_is ∙ jobs_counted cubes (put_by dealer);
  taken_weighs = is.taken_is ∙ taken_counted cubes seats;
  given_weighs = is.given_is ∙ given_counted cubes seats;
  gathered_weighs = is.gathered_is ∙ results_counted cubes (gathered_by collector);
}

-- where as many results were gathered as jobs were put, the four numbers are equal
pub all_equal : (cubes : ℕ) (dealer : DealerSeat) (seats : List WorkerSeat) (collector : CollectorSeat) (account : Account) → IsAccountOf cubes dealer seats collector account →
    WereDealt dealer seats → WereGathered collector seats → account.gathered ≡ account.put → IsBalanced account
all_equal cubes dealer seats collector account is dealt gathered same =
    let weights = weights_of cubes dealer seats collector account is in
    let sums = add_up cubes (put_by dealer) dealt.0 dealt.1 (gathered_by collector) gathered.0 seats dealt.2 dealt.3 gathered.1 in
    let taken : account.taken ≡ account.put =
    omega (arith, same, weights.put_weighs, weights.taken_weighs, weights.gathered_weighs, sums.taken_or_left, sums.given_or_held, sums.got_or_left) in
    let given : account.given ≡ account.put =
    omega (arith, same, weights.put_weighs, weights.given_weighs, weights.gathered_weighs, sums.taken_or_left, sums.given_or_held, sums.got_or_left) in
    (taken, given, same)

-- what is in flight and weighs nothing is no job
no_job : (cubes : ℕ) (hand : InFlight) → is_within cubes hand ≡ true → total (only cubes one) (held_in hand) ≡ 0 → ticket_in hand ≡ None
no_job cubes Empty within none = refl
no_job cubes (Holds held) within none =
    let here : only cubes one (held.ticket, held.cube) ≡ 1 = ap {B = ℕ} (λ (b : Bool). cond b 1 0) within in
    absurd (omega (arith, none, here))
no_job cubes (Stopped job) within none = refl
no_job cubes Cut within none = refl

no_jobs : (cubes : ℕ) (seats : List WorkerSeat) → ((number : ℕ) (seat : WorkerSeat) → slice_get seats number ≡ Some seat → seat.cubes ≡ cubes) →
    total (hand_weight cubes one) seats ≡ 0 → All (λ (seat : WorkerSeat). ticket_in seat.hand ≡ None) seats
no_jobs cubes [] same none = All-nil _
no_jobs cubes (seat ∷ seats) same none =
    let here : total (only cubes one) (held_in seat.hand) ≡ 0 = omega (arith, none) in
    let rest : total (hand_weight cubes one) seats ≡ 0 = omega (arith, none) in
    All-cons (λ (s : WorkerSeat). ticket_in s.hand ≡ None) seat seats
    (no_job cubes seat.hand (subst (λ (n : ℕ). is_within n seat.hand ≡ true) (same 0 seat refl) seat.within) here)
    (no_jobs cubes seats (λ number other at. same (suc number) other at) rest)

-- where the four numbers are equal, no worker has a job left in flight
pub all_empty : (cubes : ℕ) (dealer : DealerSeat) (seats : List WorkerSeat) (collector : CollectorSeat) (account : Account) → IsAccountOf cubes dealer seats collector account →
    ((number : ℕ) (seat : WorkerSeat) → slice_get seats number ≡ Some seat → seat.cubes ≡ cubes) → IsBalanced account → All (λ (seat : WorkerSeat). ticket_in seat.hand ≡ None) seats
all_empty cubes dealer seats collector account is same balanced =
    let weights = weights_of cubes dealer seats collector account is in
    no_jobs cubes seats same (omega (arith, balanced.0, balanced.1, weights.taken_weighs, weights.given_weighs, seats_weigh cubes one seats))
