use Rattle.std.proofs.Common.{◌≡◌, true, false, sym, ◌∙◌}
use Rattle.reason_counting.proofs.MemberLemmas.{updates_two}
use Rattle.reason_counting.proofs.counted_members.is_one_member.Goals as goal

pub returns-in-Update-y-clause-apart : goal.returns-in-Update-y-clause-apart
returns-in-Update-y-clause-apart c apart =
    updates_two c.args.x.now c.args.y.now c.in-Update.m c.in-Update-y.n c.in-Update._pieces c.in-Update-y._others c.in-Update.is c.in-Update-y.is (λ e. (let clash : true ≡ false = sym (c.are_same.ensures.found e) ∙ apart in cc))
