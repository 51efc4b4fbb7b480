-- Threads' handles, each with its promise: workers are started one after the other, and all are joined.
use Rattle.std.proofs.Common.{◌≡◌, ℕ, ◌<◌, suc, List, [], ◌∷◌, ◌++◌, map, length, refl, sym, ◌∙◌, ap, subst, arith}
use Rattle.std.specs.Prelude.{slice_index_or}
use Rattle.std.specs.List.{All, AllZip, Contains}
use Rattle.std.specs.PromisedHandle.{KeepsAt, KeepsEach}
use Rattle.std.specs.declared.thread.PromisedHandle.{PromisedHandle}
use Rattle.std.specs.declared.thread.Promise as Promise
use Rattle.std.proofs.lemmas.List.{map-append, append-nil}
use Rattle.std.proofs.lemmas.List.Elements.{All-nil, All-push, All-contains}
use Rattle.trace_semantics.proofs.ElementLemmas.{in_middle}
use Rattle.cube_queue.specs.declared.participants.Worker.{Worker}
use Rattle.cube_queue.specs.declared.promised.WorkerOf.{WorkerOf}
use Rattle.cube_queue.specs.declared.shared_search.SharedSearch.{SharedSearch}

-- threads of these workers were started, all of this shared search and with this settler
pub record AreStarted (S : Type 0) (site : SharedSearch) (settler : S) (members : List Worker) (handles : List (PromisedHandle Worker (WorkerOf S))) : Type 0 where
  pub members_are : map (λ (h : PromisedHandle Worker (WorkerOf S)). h.promise.member.value) handles ≡ members
  pub sites_are : All (λ (h : PromisedHandle Worker (WorkerOf S)). h.promise.site.value ≡ site) handles
  pub settlers_are : All (λ (h : PromisedHandle Worker (WorkerOf S)). h.promise.settler.value ≡ settler) handles

pub none_started : (S : Type 0) (site : SharedSearch) (settler : S) → AreStarted S site settler [] []
none_started S site settler = record { members_are = refl; sites_are = All-nil _; settlers_are = All-nil _ }

pub one_started : (S : Type 0) (site : SharedSearch) (settler : S) (members : List Worker) (handles : List (PromisedHandle Worker (WorkerOf S))) (member : Worker) (handle : PromisedHandle Worker (WorkerOf S)) →
    AreStarted S site settler members handles → handle.promise.site.value ≡ site → handle.promise.settler.value ≡ settler → handle.promise.member.value ≡ member →
    AreStarted S site settler (members ++ member ∷ []) (handles ++ handle ∷ [])
one_started S site settler members handles member handle started at with_it of = record {
  members_are =
      map-append (λ (h : PromisedHandle Worker (WorkerOf S)). h.promise.member.value) handles (handle ∷ [])
      ∙ ap (λ (ms : List Worker). ms ++ handle.promise.member.value ∷ []) started.members_are
      ∙ ap (λ (m : Worker). members ++ m ∷ []) of;
  sites_are = All-push (λ (h : PromisedHandle Worker (WorkerOf S)). h.promise.site.value ≡ site) handles handle started.sites_are at;
  settlers_are = All-push (λ (h : PromisedHandle Worker (WorkerOf S)). h.promise.settler.value ≡ settler) handles handle started.settlers_are with_it;
}

-- what holds of all workers holds of the next
pub next_member : (P : Worker → Type 0) (all before : List Worker) (member : Worker) (rest : List Worker) → all ≡ before ++ member ∷ rest → All P all → P member
next_member P all before member rest is every = All-contains P all member every (subst (λ (ms : List Worker). Contains ms member) (sym is) (in_middle before member rest))

-- all workers were started
pub all_members : (all before rest : List Worker) → all ≡ before ++ rest → length rest ≡ 0 → before ≡ all
all_members all before [] is none = sym (append-nil before) ∙ sym is
all_members all before (m ∷ rest) is none = absurd (omega (arith, none))

-- each result keeps the promise of the handle at its place
kept_each : {T P : Type 0} (g : Promise.Ghosts P T) (handles : List (PromisedHandle T P)) (results : List T) → length results ≡ length handles →
    ((i : ℕ) (d : T) → i < length handles → KeepsAt g handles i (slice_index_or results i d)) → AllZip (λ (h : PromisedHandle T P) (r : T). g.kept_by h.promise r) handles results
kept_each g [] [] long each = tt
kept_each g [] (r ∷ results) long each = absurd (omega (arith, long))
kept_each g (h ∷ handles) [] long each = absurd (omega (arith, long))
kept_each {T} {P} g (h ∷ handles) (r ∷ results) long each =
    let here = each 0 r (omega arith) in (
      subst (λ (k : PromisedHandle T P). g.kept_by k.promise r) here.handle_is here.kept,
      kept_each g handles results (omega (arith, long)) (λ i d low. (let there = each (suc i) d (omega (arith, low)) in record { handle = there.handle; handle_is = there.handle_is; kept = there.kept })),
    )

pub kept_all : {T P : Type 0} (g : Promise.Ghosts P T) (n : ℕ) (handles : List (PromisedHandle T P)) (results : List T) → n ≡ length handles → length results ≡ n → KeepsEach g n handles results →
    AllZip (λ (h : PromisedHandle T P) (r : T). g.kept_by h.promise r) handles results
kept_all g n handles results many long each = kept_each g handles results (long ∙ many) (λ i d low. (each i d (omega (arith, low, many))).1)
