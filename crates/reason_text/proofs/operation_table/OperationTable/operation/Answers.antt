use Rattle.std.proofs.Common.{◌≡◌, ◌<◌, inl, inr, refl, ap, sym, ◌∙◌, arith, rules}
use Rattle.std.specs.Prelude.{None, Some, is_some}
use Rattle.std.specs.List.{before_first, after_first}
use Rattle.std.proofs.lemmas.Bool.{false≢true}
use Rattle.trace_semantics.specs.declared.operation.OpName.{OpName}
use Rattle.schedule_text.specs.ScheduleText.{place_within, is_dot, is_op_name, name_fault, name_word}
use Rattle.schedule_text.proofs.OpNameLemmas.{name_clear, name_read}
use Rattle.reason_text.proofs.operation_table.OperationTable.operation.Goals as goal
use Rattle.trace_semantics.specs.declared.limits.Limits.{Limits}
use Rattle.trace_semantics.specs.declared.limits.Limits.TheVariants.{Small, Large}
use Rattle.trace_semantics.specs.Limits.{max_operations}

some_room : (limits : Limits) → 0 < max_operations limits
some_room Small = omega arith
some_room Large = omega arith

pub returns-in_default-clause-unnamed : goal.returns-in_default-clause-unnamed
returns-in_default-clause-unnamed c e n written word =
    let clear : name_fault c.args.self.now.limits 0 c.args.word.now ≡ None = ap (name_fault c.args.self.now.limits 0) word ∙ name_clear c.args.self.now.limits 0 n written (some_room c.args.self.now.limits) in
    false≢true (sym (ap is_some clear) ∙ c.in_default.ensures)

pub returns-in_default-clause-faulty : goal.returns-in_default-clause-faulty
returns-in_default-clause-faulty c holds = inl ((λ n written word. returns-in_default-clause-unnamed c refl n (ap (λ (l : Limits). is_op_name l n) holds.within ∙ written) word), refl)

pub returns-in-None-clause-faulty : goal.returns-in-None-clause-faulty
returns-in-None-clause-faulty c holds =
    let n : OpName = record { process = c.in-Some.process.now; place = c.in-Some.place } in
    let clear : name_fault c.args.self.now.limits 0 c.args.word.now ≡ None = search rules in
    let process : c.in-Some.process.now ≡ before_first is_dot c.args.word.now = search rules in
    let place : place_within c.args.self.now.limits (after_first is_dot c.args.word.now) ≡ Some c.in-Some.place = search rules in
    let read = name_read c.args.self.now.limits 0 c.args.word.now n clear process place in
    inr (n, ap (λ (l : Limits). is_op_name l n) (sym holds.within) ∙ read.written, read.reads, c.in-None.ensures.nowhere refl holds, refl)

pub returns-in-Some-find-clause-named : goal.returns-in-Some-find-clause-named
returns-in-Some-find-clause-named c =
    let n : OpName = record { process = c.in-Some.process.now; place = c.in-Some.place } in
    let clear : name_fault c.args.self.now.limits 0 c.args.word.now ≡ None = search rules in
    let process : c.in-Some.process.now ≡ before_first is_dot c.args.word.now = search rules in
    let place : place_within c.args.self.now.limits (after_first is_dot c.args.word.now) ≡ Some c.in-Some.place = search rules in
    (name_read c.args.self.now.limits 0 c.args.word.now n clear process place).reads ∙ ap name_word (sym c.in-Some-find.ensures.there.0)
