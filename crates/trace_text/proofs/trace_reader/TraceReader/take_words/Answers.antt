use Rattle.std.proofs.Common.{◌≡◌, ◌≤◌, [], ◌∷◌, ◌++◌, sym, subst}
use Rattle.std.specs.Prelude.{None}
use Rattle.std.proofs.lemmas.Result.{on_ok_weaker, IfErr-weaker}
use Rattle.text_lines.specs.PlainFault.{IsRefusedFor}
use Rattle.trace_semantics.specs.declared.limits.Limits.{Limits}
use Rattle.trace_semantics.specs.Limits.{max_locations}
use Rattle.trace_text.specs.Progress.{IsProgress}
use Rattle.trace_text.specs.Said.{said}
use Rattle.trace_text.specs.TraceFault.{said_fault, statement_fault}
use Rattle.trace_text.specs.Version.{limits_of}
use Rattle.trace_text.proofs.trace_reader.TraceReader.take_words.Goals as goal

-- The limits are those of the version.

pub take_statement-requires : goal.take_statement-requires
take_statement-requires c = subst (λ (l : Limits). c.args.self.now.seen.location_count ≤ max_locations l) (sym c.limits.ensures) c.requires

pub returns-in-Some-clause-refused : goal.returns-in-Some-clause-refused
returns-in-Some-clause-refused c = IfErr-weaker c.take_statement.result _ _ (λ y r ss p.
    subst (λ o. IsRefusedFor (said_fault (limits_of c.args.version) ss o) y) c.in-Some.ensures
    (subst (λ (l : Limits). IsRefusedFor (statement_fault l ss (said c.in-Some.statement)) y) c.limits.ensures
    (r ss (subst (λ (l : Limits). IsProgress l ss c.args.self.now) (sym c.limits.ensures) p)))) c.take_statement.ensures.refused

pub returns-in-Some-clause-taken : goal.returns-in-Some-clause-taken
returns-in-Some-clause-taken c = on_ok_weaker c.take_statement.result (λ t ss p.
    let taken = t ss (subst (λ (l : Limits). IsProgress l ss c.args.self.now) (sym c.limits.ensures) p) in
    record {
      s = said c.in-Some.statement;
      says = sym c.in-Some.ensures;
      faultless = subst (λ (l : Limits). statement_fault l ss (said c.in-Some.statement) ≡ None) c.limits.ensures taken.0;
      progress = subst (λ (l : Limits). IsProgress l (ss ++ said c.in-Some.statement ∷ []) c.take_statement.new.self) c.limits.ensures taken.1;
    }) c.take_statement.ensures.taken
