use Rattle.std.proofs.Common.{◌≡◌, ◌≤◌, List, Bool, length, arith, ap, sym, ◌∙◌, append-nil}
use Rattle.std.specs.List.{filter}
use Rattle.std.proofs.lemmas.List.{length-map}
use Rattle.text_lines.proofs.ListLemmas.{few_pass}
use Rattle.trace_semantics.specs.declared.operation.OpName.{OpName}
use Rattle.trace_semantics.specs.Trace.{first_names}
use Rattle.restriction.specs.Left.{is_left}
use Rattle.restriction.proofs.PlaceLemmas.{length_names}
use Rattle.std.specs.Prelude.{Some, None}
use Rattle.trace_part.specs.Selections.{stays_in}
use Rattle.trace_part.proofs.RowLemmas.{ops_pushed, places_pushed}
use Rattle.trace_part.proofs.left.left_of.Goals as goal
use Rattle.trace_part.proofs.left.left_of.Goals.{in-Some+in_ok-push+in_ok-push-2, in_default}

pub loop-k-preserved : goal.loop-k-preserved
loop-k-preserved c =
    elim c.match-branch-2.branch [
      | in-Some+in_ok-push+in_ok-push-2 w ↦ (
        ap (λ v. v.items) w.places-is ∙ w.in_ok-push.ensures.items
            ∙ places_pushed (stays_in c.args.selection.now) c.args.process.now.name c.loop-k.k (Some w.in-Some.op) c.loop-k.places.items c.loop-k.invariant.0 (sym w.in-Some.is ∙ c.in_ok-op.ensures),
        ap (λ v. v.items) w.ops-is ∙ w.in_ok-push-2.ensures.items
            ∙ ops_pushed (stays_in c.args.selection.now) c.args.process.now.name c.loop-k.k (Some w.in-Some.op) c.loop-k.ops.items c.loop-k.invariant.1 (sym w.in-Some.is ∙ c.in_ok-op.ensures),
      )
      | in_default w ↦ (
        ap (λ v. v.items) w.places-is ∙ sym (append-nil _)
            ∙ places_pushed (stays_in c.args.selection.now) c.args.process.now.name c.loop-k.k None c.loop-k.places.items c.loop-k.invariant.0 (sym w.in_default.is ∙ c.in_ok-op.ensures),
        ap (λ v. v.items) w.ops-is ∙ sym (append-nil _)
            ∙ ops_pushed (stays_in c.args.selection.now) c.args.process.now.name c.loop-k.k None c.loop-k.ops.items c.loop-k.invariant.1 (sym w.in_default.is ∙ c.in_ok-op.ensures),
      )
    ]

pub invariant_of-result : goal.invariant_of-result
invariant_of-result c =
    let left : OpName → Bool = is_left (stays_in c.args.selection.now) in
    let names : List OpName = first_names c.args.process.now.name c.loop-k.k in
    let long : length c.loop-k.places.items ≡ length (filter left names) = ap length c.loop-k.invariant.0 ∙ length-map (filter left names) (λ (n : OpName). n.place) in
    let few : length (filter left names) ≤ length names = few_pass left names in
    let count : length names ≡ c.loop-k.k = length_names c.args.process.now.name 1 c.loop-k.k in
    let all : length c.as_slice-k-end.result.now ≡ length c.args.process.now.operations = ap length c.as_slice-k-end.ensures in
    omega (arith, long, few, count, all, c.loop-k.auto.k-end, c.requires.few)
