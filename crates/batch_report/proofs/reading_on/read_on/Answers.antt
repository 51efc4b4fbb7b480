use Rattle.std.proofs.Common.{◌≡◌, ◌∙◌, ◌+◌, true, ap, length, take, refl, rules, arith}
use Rattle.batch_report.proofs.ReadingLemmas.{ends_here, fails_here, full_here, no_room, passes_limit}
use Rattle.batch_report.proofs.reading_on.read_on.Goals as goal

pub returns-in_default-read-clause-stopped : goal.returns-in_default-read-clause-stopped
returns-in_default-read-clause-stopped g c =
    let handed = g.S.Source.handed_out in
    let inv = c.loop-call.invariant in
    fails_here (handed c.args.source.now) (handed c.loop-call.source) (handed c.read.new.self) c.args.held.now.items c.loop-call.held.items inv.read (g.S.Source.is_at_end c.args.source.now) (g.S.Source.is_at_end c.read.new.self) (g.S.Source.failures c.args.source.now) (g.S.Source.failures c.read.new.self)
    c.in_default-read.ensures.unchanged (c.in_default-read.ensures.failed ∙ ap (λ n. n + 1) inv.failures)

pub returns-then-count-eq0-clause-read : goal.returns-then-count-eq0-clause-read
returns-then-count-eq0-clause-read g c =
    let handed = g.S.Source.handed_out in
    let inv = c.loop-call.invariant in
    let ended : g.S.Source.is_at_end c.read.new.self ≡ true = search rules in
    ends_here (handed c.args.source.now) (handed c.loop-call.source) (handed c.read.new.self) c.args.held.now.items c.loop-call.held.items inv.read (g.S.Source.is_at_end c.args.source.now) (g.S.Source.is_at_end c.read.new.self) (g.S.Source.failures c.args.source.now) (g.S.Source.failures c.read.new.self)
    (take c.in-Ok-read.count c.read.new.buffer) c.in-Ok-read.ensures.handed (ap (λ n. length (take n c.read.new.buffer)) c.if-count-eq0.true) (c.in-Ok-read.ensures.well ∙ inv.failures) ended

pub returns-then-count-len-clause-stopped : goal.returns-then-count-len-clause-stopped
returns-then-count-len-clause-stopped g c =
    let handed = g.S.Source.handed_out in
    let inv = c.loop-call.invariant in
    let long : length (take c.in-Ok-read.count c.read.new.buffer) ≡ c.in-Ok-read.count = search rules in
    passes_limit (handed c.args.source.now) (handed c.loop-call.source) (handed c.read.new.self) c.args.held.now.items c.loop-call.held.items inv.read (g.S.Source.is_at_end c.args.source.now) (g.S.Source.is_at_end c.read.new.self) (g.S.Source.failures c.args.source.now) (g.S.Source.failures c.read.new.self)
    (take c.in-Ok-read.count c.read.new.buffer) c.in-Ok-read.ensures.handed (c.in-Ok-read.ensures.well ∙ inv.failures) (omega (arith, long, c.if-count-len.true, c.len-in-loop-call.ensures, c.loop-call.held.ok.0))

pub returns-then-is_err-clause-stopped : goal.returns-then-is_err-clause-stopped
returns-then-is_err-clause-stopped g c =
    let handed = g.S.Source.handed_out in
    let inv = c.loop-call.invariant in
    no_room (handed c.args.source.now) (handed c.loop-call.source) (handed c.read.new.self) c.args.held.now.items c.loop-call.held.items inv.read (g.S.Source.is_at_end c.args.source.now) (g.S.Source.is_at_end c.read.new.self) (g.S.Source.failures c.args.source.now) (g.S.Source.failures c.read.new.self)
    (take c.in-Ok-read.count c.read.new.buffer) c.in-Ok-read.ensures.handed (c.in-Ok-read.ensures.well ∙ inv.failures)

pub returns-clause-read : goal.returns-clause-read
returns-clause-read g c =
    let handed = g.S.Source.handed_out in
    let inv = c.loop-call.invariant in
    full_here (handed c.args.source.now) (handed c.loop-call.source) (handed c.loop-call.source) c.args.held.now.items c.loop-call.held.items inv.read (g.S.Source.is_at_end c.args.source.now) (g.S.Source.is_at_end c.loop-call.source) (g.S.Source.failures c.args.source.now) (g.S.Source.failures c.loop-call.source)
    refl inv.failures
