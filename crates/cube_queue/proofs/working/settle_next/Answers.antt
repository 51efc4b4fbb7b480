use Rattle.std.proofs.Common.{ap, ◌≡◌, ◌⊎◌, ℕ, ◌<◌, ◌≤◌, ℤ, List, [], ◌∷◌, ◌++◌, sym, ◌∙◌, subst, inl, inr, arith}
use Rattle.std.specs.List.{Contains}
use Rattle.std.proofs.lemmas.List.Elements.{Contains-append_cases, Contains-append_left, Contains-append_right}
use Rattle.trace_semantics.proofs.ElementLemmas.{cases_in, head_in, none_in}
use Rattle.cube_jobs.specs.declared.job.Settled.{Settled}
use Rattle.cube_jobs.specs.declared.outcome.Outcome.TheVariants.{Skipped}
use Rattle.cube_jobs.specs.Models.{IsModelResult}
use Rattle.stop_word.specs.declared.views.View.{View}
use Rattle.job_board.specs.InFlight.{ticket_in}
use Rattle.job_board.specs.Seats.{given_by}
use Rattle.cube_queue.specs.Workers.{MarkModels, IsHonest}
use Rattle.cube_queue.proofs.working.settle_next.Goals as goal

-- What a worker knows and has given, job by job.

-- one result more, after a look and a mark
module _
    (clauses : List (List ℤ)) (old seen new : View) (given : List Settled) (settled : Settled)
    (honest : IsHonest clauses old given) (same : seen.marks ≡ old.marks) (lower : seen.least ≤ old.least)
    (skips : settled.outcome ≡ Skipped → seen.least < settled.ticket)
    (marks : (new.marks ≡ seen.marks) ⊎ ((new.marks ≡ seen.marks ++ settled.ticket ∷ []) × IsModelResult clauses settled))
    (falls : new.least ≤ seen.least)
  where
    abbrev more : List Settled
    more = given ++ settled ∷ []

    marked_before : MarkModels clauses old.marks more
    marked_before k c =
        let before = honest.marked k c in
        (before.0, Contains-append_left given (settled ∷ []) before.0 before.1, before.2, before.3)

    marked_seen : MarkModels clauses seen.marks more
    marked_seen = subst (λ (ks : List ℕ). MarkModels clauses ks more) (sym same) marked_before

    marked_last : IsModelResult clauses settled → MarkModels clauses (seen.marks ++ settled.ticket ∷ []) more
    marked_last model k c = elim (Contains-append_cases seen.marks (settled.ticket ∷ []) k c) [
      | inl before ↦ marked_seen k before
      | inr last ↦ elim (cases_in settled.ticket [] k last) [
        | inl is ↦ (settled, Contains-append_right given (settled ∷ []) settled (head_in settled []), is, model)
        | inr none ↦ absurd (none_in k none)
      ]
    ]

    marked_now : MarkModels clauses new.marks more
    marked_now = elim marks [
      | inl none ↦ subst (λ (ks : List ℕ). MarkModels clauses ks more) (sym none) marked_seen
      | inr one ↦ subst (λ (ks : List ℕ). MarkModels clauses ks more) (sym one.0) (marked_last one.1)
    ]

    skipped_now : (s : Settled) → Contains more s → s.outcome ≡ Skipped → new.least < s.ticket
    skipped_now s c e = elim (Contains-append_cases given (settled ∷ []) s c) [
      | inl before ↦ (let less = honest.skipped s before e in omega (arith, less, lower, falls))
      | inr last ↦ elim (cases_in settled [] s last) [
        | inl is ↦ (
            let less = skips (ap (λ (x : Settled). x.outcome) is ∙ e) in
            let ticket = ap (λ (x : Settled). x.ticket) is in
            omega (arith, less, falls, ticket)
            )
        | inr none ↦ absurd (none_in s none)
      ]
    ]

    honest_more : IsHonest clauses new more
    honest_more = record { marked = marked_now; skipped = skipped_now }

pub returns-in-Ok-clause-given : goal.returns-in-Ok-clause-given
returns-in-Ok-clause-given g c =
    let look = c.look_and_settle-settled in
    let mark = c.mark_model in
    let given = c.in-Ok.ensures.given in
    λ yes. (
      ap ticket_in given.3,
      rw given.0
          (honest_more (g.S.Settler.clauses c.args.settler.now) c.args.stop.now.knows look.new.stop.knows mark.new.stop.knows (given_by c.args.seat.now) look.result
          c.requires.stop.1 look.ensures.stop.2 look.ensures.lower look.ensures.skipped mark.ensures.marks mark.ensures.lower),
    )
