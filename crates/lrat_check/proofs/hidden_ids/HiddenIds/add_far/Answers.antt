use Rattle.std.proofs.Common.{◌≡◌, ◌≤◌, length, vec_len, arith, rules}
use Rattle.std.specs.BTreeSet.{contains}
use Rattle.std.specs.Ordering.{nat_cmp}
use Rattle.lrat_check.proofs.Counting.HiddenLemmas.{put_past}
use Rattle.lrat_check.proofs.hidden_ids.HiddenIds.add_far.Goals as goal

pub returns : goal.returns
returns c = λ k.
    let old = c.args.self.now in
    let long : length old.near.items ≡ vec_len old.near = search rules in
    let past : length old.near.items ≤ c.args.id = omega (arith, long, c.requires) in
    put_past old.near.items c.args.id k (contains nat_cmp old.far k) (contains nat_cmp c.insert.new.self k) past (c.in_ok-insert.ensures.updates.0 k)
