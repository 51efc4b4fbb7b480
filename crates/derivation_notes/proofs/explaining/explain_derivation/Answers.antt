use Rattle.std.proofs.Common.{◌≡◌}
use Rattle.derivation_notes.proofs.RefutedLemmas.{or_none_legal}
use Rattle.derivation_notes.proofs.explaining.explain_derivation.Goals as goal

pub returns-in-Some : goal.returns-in-Some
returns-in-Some g c = record {
  explained = or_none_legal (c.explain_checked.new.notes ≡ c.args.notes.now) c.in-Ok.reduced c.in-Ok.ensures.reduced
      c.in_ok-clauses.clauses c.args.trace.now c.in_ok-clauses.ensures c.in-Ok.ensures.whole c.explain_checked.ensures.sound;
}
