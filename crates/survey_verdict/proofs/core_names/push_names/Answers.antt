use Rattle.std.proofs.Common.{◌≡◌, ◌++◌, length, ap, ◌∙◌, arith}
use Rattle.trace_semantics.specs.Trace.{first_names}
use Rattle.survey_verdict.proofs.CoreNameLemmas.{pushed_name}
use Rattle.survey_verdict.proofs.core_names.push_names.Goals as goal

pub loop-k-preserved : goal.loop-k-preserved
loop-k-preserved c =
    pushed_name c.args.process.now.name c.in_ok-name.name (c.in_ok-name.ensures ∙ c.as_bytes.ensures) c.loop-k.k c.args.names.now.items c.loop-k.names.items c.push.new.self.items c.loop-k.invariant c.in_ok-push.ensures.items

pub returns : goal.returns
returns c =
    let all : c.loop-k.k ≡ length c.args.process.now.operations = omega (arith, c.loop-k-test.false, c.loop-k.auto.k-end, ap length c.as_slice-k-end.ensures) in
    c.loop-k.invariant ∙ ap (λ k. c.args.names.now.items ++ first_names c.args.process.now.name k) all
