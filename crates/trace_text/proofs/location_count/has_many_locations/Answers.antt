use Rattle.std.proofs.Common.{ℕ, List, [], ◌++◌, map, ap, ◌∙◌, subst, append_assoc}
use Rattle.std.specs.Prelude.{nat_lt}
use Rattle.std.specs.List.{flat_map}
use Rattle.trace_semantics.specs.declared.trace.Process.{Process}
use Rattle.trace_semantics.specs.Operation.{location_of}
use Rattle.trace_semantics.specs.Trace.{locations_of}
use Rattle.trace_text.specs.LocationCount.{IsCountOf}
use Rattle.trace_text.proofs.CountedLemmas.{many_counted}
use Rattle.trace_text.proofs.location_count.has_many_locations.Goals as goal

pub returns : goal.returns
returns c =
    let located : List (List ℕ × ℕ) → List (List ℕ) = λ values. map (λ (entry : List ℕ × ℕ). entry.0) values in
    let acted : List Process → List (List ℕ) = λ ps. flat_map (λ (p : Process). map location_of p.operations) ps in
    let t = c.args.trace.now in
    let one : IsCountOf (located t.initial) c.add_values.new.self = subst (λ (values : List (List ℕ × ℕ)). IsCountOf (located values) c.add_values.new.self) c.initial.ensures (c.in_ok-add_values.ensures [] c.new-locations.ensures) in
    let two : IsCountOf (located t.initial ++ located t.final_values) c.add_values-2.new.self = subst (λ (values : List (List ℕ × ℕ)). IsCountOf (located t.initial ++ located values) c.add_values-2.new.self) c.final_values.ensures (c.in_ok-add_values-2.ensures (located t.initial) one) in
    let three : IsCountOf ((located t.initial ++ located t.final_values) ++ acted t.processes) c.add_processes.new.self = subst (λ (ps : List Process). IsCountOf ((located t.initial ++ located t.final_values) ++ acted ps) c.add_processes.new.self) c.processes.ensures (c.in_ok-add_processes.ensures (located t.initial ++ located t.final_values) two) in
    let all : IsCountOf (locations_of t) c.add_processes.new.self = subst (λ (names : List (List ℕ)). IsCountOf names c.add_processes.new.self) (append_assoc (located t.initial) (located t.final_values) (acted t.processes)) three in
    ap (λ most. nat_lt most c.add_processes.new.self.count) c.max_locations.ensures ∙ many_counted (locations_of t) c.add_processes.new.self all
