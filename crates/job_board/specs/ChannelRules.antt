-- The rules of the job channel and of the result channel, and what each seat knows. Each channel has a single seat at one end and many at
-- the other: a single dealer sends jobs to many workers, and many workers send results to a single collector. A pass is the kit's token
-- of a seat at a channel; it has a number, and `views` has at that number what the seat knows of the channel.
use Rattle.std.specs.Prelude.{◌≡◌, ℕ, ◌+◌, ◌<◌, ◌≤◌, List, [], ◌∷◌, ◌++◌, length, slice_index_or, Option, Some, None}
use mathlib.Core.Option.{some}
use lib.ListN.{get_elem?}
use Rattle.job_board.specs.Merge.{Marked, marked, unmarked, IsMergeOf}
use Rattle.job_board.specs.declared.channel_view.ChannelView.{ChannelView}
use Rattle.job_board.specs.declared.channel_view.ChannelView.TheVariants.{Single, Worker, Spent}

-- What a pass knows fits, where `single` is the pass of the single seat, `pass_of` gives the pass of each worker, `log` is what all workers
-- took or gave, each item marked with its worker, and `own` is what the single seat put or got. The single seat knows its list, how many
-- workers were made, and the lists of those first workers that were joined into it, in order; a worker its number and its list.
abbrev pub Fits : {X : Type 0} → ℕ → (ℕ → Option ℕ) → List (Marked X) → List X → ℕ → ChannelView X → Type 0
Fits single pass_of log own pass (Single list made joined) =
    (pass ≡ single) × (list ≡ own)
    × ((k : ℕ) → made ≤ k → (pass_of k ≡ None) × (marked k log ≡ []))
    × ((k : ℕ) → k < length joined → (pass_of k ≡ None) × (marked k log ≡ slice_index_or joined k []))
    × (length joined ≤ made)
Fits single pass_of log own pass (Worker number list) = (pass_of number ≡ Some pass) × (list ≡ marked number log)
Fits single pass_of log own pass Spent = Unit {0}

-- the worker of this number has a pass, which knows its list
abbrev pub HasWorker : {X : Type 0} → List (ChannelView X) → ℕ → Type 0
HasWorker {X} views k = (pass : ℕ) × (list : List X) × (get_elem? views pass ≡ some (Worker k list))

-- where this is what the single seat knows, each worker that was made and is not joined yet has a pass
abbrev pub HasAllWorkers : {X : Type 0} → List (ChannelView X) → ChannelView X → Type 0
HasAllWorkers views (Single list made joined) = (k : ℕ) → length joined ≤ k → k < made → HasWorker views k
HasAllWorkers views (Worker number list) = Unit {0}
HasAllWorkers views Spent = Unit {0}

-- The job rule: what the dealer put is some merge of what the workers took, followed by the job queue.
abbrev pub MeetsJobRule : {X : Type 0} → List X → List (ChannelView X) → Type 0
MeetsJobRule {X} queue views =
    (single : ℕ) × (pass_of : ℕ → Option ℕ) × (log : List (Marked X))
    × ((pass : ℕ) (v : ChannelView X) → get_elem? views pass ≡ some v → Fits single pass_of log (unmarked log ++ queue) pass v)
    × ((pass : ℕ) (v : ChannelView X) → get_elem? views pass ≡ some v → HasAllWorkers views v)

-- The result rule: what the collector got, followed by the result queue, is some merge of what the workers gave.
abbrev pub MeetsResultRule : {X : Type 0} → List X → List (ChannelView X) → Type 0
MeetsResultRule {X} queue views =
    (single : ℕ) × (pass_of : ℕ → Option ℕ) × (log : List (Marked X)) × (got : List X) × (unmarked log ≡ got ++ queue)
    × ((pass : ℕ) (v : ChannelView X) → get_elem? views pass ≡ some v → Fits single pass_of log got pass v)
    × ((pass : ℕ) (v : ChannelView X) → get_elem? views pass ≡ some v → HasAllWorkers views v)

-- The lists of all workers that were made: of each that was joined the one that the single seat took in, and of each other one what its
-- pass knows.
pub record AreWorkerLists (X : Type 0) (views : List (ChannelView X)) (made : ℕ) (joined lists : List (List X)) : Type 0 where
  pub all : length lists ≡ made
  pub joined_are : (k : ℕ) → k < length joined → slice_index_or lists k [] ≡ slice_index_or joined k []
  pub others_are : (k : ℕ) → length joined ≤ k → k < made → (pass : ℕ) × (get_elem? views pass ≡ some (Worker k (slice_index_or lists k [])))

-- What the job rule says in a state in which the dealer's seat is there: what the dealer put is some merge of what each worker took,
-- followed by the job queue.
abbrev pub PutIsMerge : {X : Type 0} → List X → List (ChannelView X) → Type 0
PutIsMerge {X} queue views =
    (pass made : ℕ) (put : List X) (joined : List (List X)) → get_elem? views pass ≡ some (Single put made joined) →
    (lists : List (List X)) × (front : List X) × AreWorkerLists X views made joined lists × IsMergeOf lists front × (put ≡ front ++ queue)

-- What the result rule says in a state in which the collector's seat is there: what the collector got, followed by the result queue, is
-- some merge of what each worker gave.
abbrev pub GotIsMerge : {X : Type 0} → List X → List (ChannelView X) → Type 0
GotIsMerge {X} queue views =
    (pass made : ℕ) (got : List X) (joined : List (List X)) → get_elem? views pass ≡ some (Single got made joined) →
    (lists : List (List X)) × AreWorkerLists X views made joined lists × IsMergeOf lists (got ++ queue)

-- the list of a seat
abbrev pub list_in : {X : Type 0} → ChannelView X → List X
list_in (Single list made joined) = list
list_in (Worker number list) = list
list_in Spent = []

-- the list of a seat grows by an item
abbrev pub with_item : {X : Type 0} → ChannelView X → X → ChannelView X
with_item (Single list made joined) x = Single (list ++ x ∷ []) made joined
with_item (Worker number list) x = Worker number (list ++ x ∷ [])
with_item Spent x = Spent

-- the single seat makes one worker more
abbrev pub with_worker_made : {X : Type 0} → ChannelView X → ChannelView X
with_worker_made (Single list made joined) = Single list (made + 1) joined
with_worker_made (Worker number list) = Worker number list
with_worker_made Spent = Spent

-- the worker that the single seat makes: it has the next number, and its list is empty
abbrev pub worker_made : {X : Type 0} → ChannelView X → ChannelView X
worker_made (Single list made joined) = Worker made []
worker_made (Worker number list) = Spent
worker_made Spent = Spent

-- the single seat takes in what a worker knows
abbrev pub with_worker_joined : {X : Type 0} → ChannelView X → ChannelView X → ChannelView X
with_worker_joined (Single list made joined) w = Single list made (joined ++ list_in w ∷ [])
with_worker_joined (Worker number list) w = Worker number list
with_worker_joined Spent w = Spent

-- what the dealer knows once all workers are joined: what was put is some merge of what they took, followed by the queue
abbrev pub PutAddsUp : {X : Type 0} → ChannelView X → List X → Type 0
PutAddsUp {X} (Single put made joined) queue = length joined ≡ made → (front : List X) × IsMergeOf joined front × (put ≡ front ++ queue)
PutAddsUp (Worker number list) queue = Unit {0}
PutAddsUp Spent queue = Unit {0}

-- what the collector knows once all workers are joined: what was got, followed by the queue, is some merge of what they gave
abbrev pub GotAddsUp : {X : Type 0} → ChannelView X → List X → Type 0
GotAddsUp (Single got made joined) queue = length joined ≡ made → IsMergeOf joined (got ++ queue)
GotAddsUp (Worker number list) queue = Unit {0}
GotAddsUp Spent queue = Unit {0}
