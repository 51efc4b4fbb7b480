use Rattle.std.proofs.Common.{◌≡◌, List, sym, ◌∙◌, inl, inr, subst}
use Rattle.std.specs.Prelude.{Some}
use Rattle.std.specs.List.{All}
use Rattle.reason_clauses.specs.declared.pieces.ProcessPieces.{ProcessPieces}
use Rattle.reason_clauses.specs.Mains.{IsGivenMain}
use Rattle.reason_clauses.specs.Numbered.{IsGivenFront}
use Rattle.writer_table.specs.declared.operation_place.OperationPlace.{OperationPlace}
use Rattle.reason_clauses.specs.LastRefused.{IsWitnessOf}
use Rattle.reason_clauses.specs.SourceRefused.{AreNotGiven, NotWitness, IsMainNotGiven, IsNoWitness}
use Rattle.reason_clauses.proofs.RefusedLemmas.{refusal_on}
use Rattle.reason_clauses.proofs.StretchLemmas.{main_not_given}
use Rattle.reason_clauses.proofs.source.want_pieces.Goals as goal

pub returns-clause-given : goal.returns-clause-given
returns-clause-given c known =
    let t = c.args.trace.now in
    let location = c.args.location.now in
    let d = c.args.value in
    let r = c.args.reader in
    record {
      processes = subst (λ l. All (λ (p : ProcessPieces). IsGivenFront t location d r p.witness) l) c.processes.ensures (c.in_ok-want_fronts.ensures.given known);
      initial = subst (λ w. IsGivenFront t location d r w) c.initial.ensures (c.in_ok-want_front.ensures.given known);
      main = subst (λ m. IsGivenMain t location d r m) c.others.ensures (c.in_ok-want_main.ensures.given known);
    }

pub returns-in_err-want_fronts-clause-refused : goal.returns-in_err-want_fronts-clause-refused
returns-in_err-want_fronts-clause-refused c =
    let t = c.args.trace.now in
    let location = c.args.location.now in
    let d = c.args.value in
    let r = c.args.reader in
    refusal_on (λ cause. (x : OperationPlace) × IsWitnessOf c.processes.result.now x × IsNoWitness t location d r x cause) (AreNotGiven t location d r c.args.pieces.now) c.from_residual.result c.in_err-want_fronts.field-0.0 c.from_residual.ensures.1
    (λ cause h. NotWitness h.0 (inl (subst (λ (l : List ProcessPieces). IsWitnessOf l h.0) c.processes.ensures h.1)) h.2) c.in_err-want_fronts.ensures.refused

pub returns-in_err-want_front-clause-refused : goal.returns-in_err-want_front-clause-refused
returns-in_err-want_front-clause-refused c =
    let t = c.args.trace.now in
    let location = c.args.location.now in
    let d = c.args.value in
    let r = c.args.reader in
    refusal_on (λ cause. (x : OperationPlace) × (c.initial.result ≡ Some x) × IsNoWitness t location d r x cause) (AreNotGiven t location d r c.args.pieces.now) c.from_residual-in_err-want_front.result c.in_err-want_front.field-0.0 c.from_residual-in_err-want_front.ensures.1
    (λ cause h. NotWitness h.0 (inr (inl (sym c.initial.ensures ∙ h.1))) h.2) c.in_err-want_front.ensures.refused

pub returns-in_err-want_main-clause-refused : goal.returns-in_err-want_main-clause-refused
returns-in_err-want_main-clause-refused c =
    let t = c.args.trace.now in
    let location = c.args.location.now in
    let d = c.args.value in
    let r = c.args.reader in
    refusal_on (IsMainNotGiven t location d r c.others.result) (AreNotGiven t location d r c.args.pieces.now) c.from_residual-in_err-want_main.result c.in_err-want_main.field-0.0 c.from_residual-in_err-want_main.ensures.1
    (main_not_given t location d r c.args.pieces.now c.others.result c.others.ensures) c.in_err-want_main.ensures.refused
