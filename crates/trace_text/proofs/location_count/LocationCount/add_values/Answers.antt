use Rattle.std.proofs.Common.{ℕ, List, ◌++◌, subst, arith}
use Rattle.trace_text.specs.LocationCount.{IsCountOf, CountsOne}
use Rattle.trace_text.proofs.CountedLemmas.{counted_one, counted_none, counted_more, counted_all, one_each}
use Rattle.trace_text.proofs.NamedLocations.{entry_names}
use Rattle.trace_text.proofs.location_count.LocationCount.add_values.Goals as goal

pub loop-entry-init : goal.loop-entry-init
loop-entry-init c = counted_none entry_names c.args.values.now c.args.self.now

pub loop-entry-preserved : goal.loop-entry-preserved
loop-entry-preserved c = counted_more entry_names c.args.values.now c.loop-entry.entry-index c.entry-item.result c.args.self.now c.loop-entry.self c.add.new.self c.loop-entry-test.true c.entry-item.is c.loop-entry.invariant
    (λ names h. counted_one names c.entry-item.result.0 c.loop-entry.self c.add.new.self (subst (λ (n : List ℕ). CountsOne c.loop-entry.self c.add.new.self n) c.as_bytes.ensures c.in_ok-add.ensures) h)

pub returns : goal.returns
returns c = λ names h. subst (λ (l : List (List ℕ)). IsCountOf (names ++ l) c.loop-entry.self) (one_each (λ (entry : List ℕ × ℕ). entry.0) c.args.values.now) (counted_all entry_names c.args.values.now c.loop-entry.entry-index c.args.self.now c.loop-entry.self (omega arith) c.loop-entry.invariant names h)
