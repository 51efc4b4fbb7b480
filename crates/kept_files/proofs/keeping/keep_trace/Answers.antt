use Rattle.std.proofs.Common.{rules, ◌≡◌, ◌+◌, ◌∷◌, [], List, ℕ, suc, string_bytes, subst, arith}
use Rattle.kept_files.specs.KeptFiles.{AreCalls, Failed, KeepsWithin, Kept, kept_name, names_left, trace_file}
use Rattle.kept_files.proofs.CallLemmas.{joined, one, one_left, within_one}
use Rattle.kept_files.proofs.keeping.keep_trace.Goals as goal

pub returns-in_err-keep-clause-within : goal.returns-in_err-keep-clause-within
returns-in_err-keep-clause-within g c =
    let made : KeepsWithin g.H.Host.calls c.args.folder.now c.args.host.now c.keep.new.self =
    within_one g.H.Host.calls c.args.folder.now c.args.host.now c.loop-taken.host c.keep.new.self (names_left c.args.stem.now c.args.number c.loop-taken.taken)
    (Failed c.as_str-in-loop-taken.result.now) c.loop-taken.invariant c.in_err-keep.ensures.failed in
    search rules

pub returns-then-branch-clause-kept : goal.returns-then-branch-clause-kept
returns-then-branch-clause-kept g c =
    let file : c.as_str-in-loop-taken.result.now ≡ trace_file (string_bytes c.in_ok-name.name) = search rules in
    record {
      taken = c.loop-taken.taken;
      name_is = c.in_ok-name.ensures;
      are_calls =
          joined g.H.Host.calls c.args.folder.now c.args.host.now c.loop-taken.host c.keep.new.self
          (names_left c.args.stem.now c.args.number c.loop-taken.taken) (Kept (trace_file (string_bytes c.in_ok-name.name)) c.args.trace.now ∷ [])
          c.loop-taken.invariant
          (one g.H.Host.calls c.args.folder.now c.loop-taken.host c.keep.new.self (Kept (trace_file (string_bytes c.in_ok-name.name)) c.args.trace.now)
          (subst (λ (f : List ℕ). g.H.Host.calls.keeps c.loop-taken.host c.args.folder.now f c.args.trace.now c.keep.new.self) file (c.in_ok-keep.ensures.keeps c.if-branch.true)));
    }

pub loop-taken-preserved : goal.loop-taken-preserved
loop-taken-preserved g c =
    let file : c.as_str-in-loop-taken.result.now ≡ trace_file (kept_name c.args.stem.now c.args.number c.loop-taken.taken) = search rules in
    let one_more : suc c.loop-taken.taken ≡ c.loop-taken.taken + 1 = omega arith in
    subst (λ (n : ℕ). AreCalls g.H.Host.calls c.args.folder.now c.args.host.now (names_left c.args.stem.now c.args.number n) c.keep.new.self) one_more
    (one_left g.H.Host.calls c.args.folder.now c.args.stem.now c.args.number c.loop-taken.taken c.args.host.now c.loop-taken.host c.keep.new.self c.as_str-in-loop-taken.result.now
    file c.loop-taken.invariant (c.in_ok-keep.ensures.leaves c.if-branch.false))
