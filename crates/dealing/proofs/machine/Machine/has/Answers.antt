use Rattle.std.proofs.Common.{◌≡◌, true, ◌==◌, ◌∙◌, sym, ap}
use Rattle.std.specs.List.{list_any}
use Rattle.dealing.specs.declared.given_outcome.GivenOutcome.{GivenOutcome}
use Rattle.dealing.proofs.ListLemmas.{in_machine}
use Rattle.dealing.proofs.machine.Machine.has.Goals as goal

pub returns-then-contains : goal.returns-then-contains
returns-then-contains c =
    let all = in_machine c.args.ticket c.self.inside.jobs.items c.self.inside.hands c.self.inside.given.items c.self.inside.gathered c.args.self.now c.self.view_is in
    let first : list_any (λ other. other == c.args.ticket) c.self.inside.jobs.items ≡ true = sym c.contains.ensures.value ∙ c.if-contains.true in
    sym (rw first at all)

pub returns-then-have : goal.returns-then-have
returns-then-have c =
    let all = in_machine c.args.ticket c.self.inside.jobs.items c.self.inside.hands c.self.inside.given.items c.self.inside.gathered c.args.self.now c.self.view_is in
    let first = sym c.contains.ensures.value ∙ c.if-contains.false in
    let second = sym c.have.ensures ∙ c.if-have.true in
    sym (rw (first, second) at all)

pub returns : goal.returns
returns c =
    let all = in_machine c.args.ticket c.self.inside.jobs.items c.self.inside.hands c.self.inside.given.items c.self.inside.gathered c.args.self.now c.self.view_is in
    let first = sym c.contains.ensures.value ∙ c.if-contains.false in
    let second = sym c.have.ensures ∙ c.if-have.false in
    let third = ap (list_any (λ (g : GivenOutcome). g.ticket == c.args.ticket)) c.as_slice.ensures.value in
    c.has_ticket.ensures ∙ third ∙ sym (rw (first, second) at all)
