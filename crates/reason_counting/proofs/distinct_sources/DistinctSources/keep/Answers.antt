use Rattle.std.proofs.Common.{◌≡◌, length, refl, rules}
use Rattle.reason_counting.proofs.KeptLemmas.{kept_pushed}
use Rattle.reason_counting.proofs.distinct_sources.DistinctSources.keep.Goals as goal

pub returns-clause-only : goal.returns-clause-only
returns-clause-only c =
    let kept = c.args.self.now in
    let end : c.len-place.result ≡ length kept.operations.items = search rules in
    kept_pushed kept (record { places = c.insert.new.self; operations = c.push.new.self; locations = kept.locations }) c.args.n c.len-place.result c.in_ok-push.ensures.items refl end (λ m. c.in_ok-insert.ensures.updates.0 (m.process, m.place)) (c.has.ensures.other c.if-has.false)
